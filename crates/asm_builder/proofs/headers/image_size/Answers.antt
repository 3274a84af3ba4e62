use Rattle.std.proofs.Common.{arith}
use Rattle.asm_builder.proofs.PeSizes.{aligned-8192}
use Rattle.asm_builder.proofs.headers.image_size.Goals as goal

pub overflow_add-result : goal.overflow_add-result
overflow_add-result c = omega (arith, aligned-8192 c.args.size)

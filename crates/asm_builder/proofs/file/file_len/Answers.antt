use Rattle.std.proofs.Common.{arith}
use Rattle.pe_image.specs.Places.{aligned}
use Rattle.asm_builder.proofs.file.file_len.Goals as goal

pub returns : goal.returns
unfolding aligned
returns c = omega (arith, c.padding512.ensures.padding)

use Rattle.std.proofs.Common.{arith}
use Rattle.pe_image.specs.Places.{aligned}
use Rattle.asm_builder.proofs.content.padding4.Goals as goal

pub returns-clause-padding : goal.returns-clause-padding
unfolding aligned
returns-clause-padding c = omega arith

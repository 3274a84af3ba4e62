use Rattle.pe_image.specs.Places.{aligned}
use Rattle.asm_builder.proofs.headers.aligned.Goals as goal

pub returns : goal.returns
unfolding aligned
returns c = c.next_multiple_of.ensures.value

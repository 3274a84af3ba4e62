use Rattle.std.proofs.Common.{arith}
use Rattle.std.proofs.lemmas.Grind.{common_steps}
use Rattle.pe_image.specs.Raw.{padded}
use Rattle.pe_image.proofs.places.put_padded.Goals as goal

pub returns : goal.returns
unfolding padded
returns c = grind (arith, common_steps)

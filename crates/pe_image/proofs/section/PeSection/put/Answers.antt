use Rattle.std.proofs.Common.{arith}
use Rattle.std.proofs.lemmas.Grind.{common_steps}
use Rattle.pe_image.specs.Pieces.{section_bytes}
use Rattle.pe_image.proofs.section.PeSection.put.Goals as goal

pub returns : goal.returns
unfolding section_bytes
returns c = grind (arith, common_steps)

use Rattle.std.proofs.Common.{arith}
use Rattle.std.proofs.lemmas.Grind.{common_steps, flat_map-append}
use Rattle.pe_image.specs.Pieces.{header_bytes}
use Rattle.pe_image.proofs.values.HeaderValues.put.Goals as goal

pub returns : goal.returns
unfolding header_bytes
returns c = grind (arith, common_steps, flat_map-append)

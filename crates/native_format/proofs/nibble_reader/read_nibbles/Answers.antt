use Rattle.std.proofs.Common.{subst}
use Rattle.native_format.specs.Nibbles.{GivesList}
use Rattle.native_format.proofs.SlotLaws.{is_found, is_read}
use Rattle.native_format.proofs.nibble_reader.read_nibbles.Goals as goal

pub returns-clause-found : goal.returns-clause-found
returns-clause-found c = is_found c.args.bytes.now c.args.at c.list_from.result c.list_from.ensures

pub returns-clause-only : goal.returns-clause-only
returns-clause-only c =
    λ list fit h. subst (λ read. GivesList c.list_from.result read) (is_read c.args.bytes.now c.args.at list fit h) c.list_from.ensures

use Rattle.native_format.proofs.SlotLaws.{begins, list_from_nibble}
use Rattle.native_format.proofs.nibble_reader.SlotReader.new.Goals as goal

pub returns-clause-list : goal.returns-clause-list
returns-clause-list c = list_from_nibble c.args.bytes.now c.args.at

pub returns-clause-end : goal.returns-clause-end
returns-clause-end c = begins c.args.bytes.now c.args.at

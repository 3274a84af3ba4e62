use Rattle.native_format.proofs.NibbleLaws.{empty_writer}
use Rattle.native_format.proofs.nibble_writer.NibbleWriter.new.Goals as goal

pub returns : goal.returns
returns c = empty_writer c.new.result.items c.new.ensures.items

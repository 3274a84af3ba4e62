use Rattle.std.proofs.Common.{sym}
use Rattle.native_format.proofs.NibbleLaws.{paired}
use Rattle.native_format.proofs.nibble_writer.NibbleWriter.put.Goals as goal

pub returns-in_ok-push-in-Some : goal.returns-in_ok-push-in-Some
returns-in_ok-push-in-Some c =
    paired c.self.inside.bytes.items c.push.new.self.items c.args.self.now c.self.inside.low c.in-Some.low c.args.nibble c.in-Some.is
    c.self.invariant c.requires c.in_ok-push-in-Some.ensures.items (sym c.self.view_is)

use Rattle.std.proofs.Common.{sym, ap, ◌∙◌}
use Rattle.native_format.proofs.NibbleLaws.{finished_half, finished_whole}
use Rattle.native_format.proofs.nibble_writer.NibbleWriter.finish.Goals as goal
use Rattle.native_format.proofs.nibble_writer.NibbleWriter.finish.Goals.{in-Some+in_ok-push, in_default}

pub returns : goal.returns
returns c =
    elim c.match-low.branch [
      | in-Some+in_ok-push w ↦
          ap (λ v. v.items) w.bytes-is
          ∙ finished_half c.self.inside.bytes.items w.push.new.self.items c.args.self c.self.inside.low w.in-Some.low w.in-Some.is
          w.in_ok-push.ensures.items (sym c.self.view_is)
      | in_default w ↦
          ap (λ v. v.items) w.bytes-is
          ∙ finished_whole c.self.inside.bytes.items c.args.self c.self.inside.low w.in_default.is (sym c.self.view_is)
    ]

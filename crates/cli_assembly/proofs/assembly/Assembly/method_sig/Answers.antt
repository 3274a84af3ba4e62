use Rattle.std.proofs.Common.{ap, ◌∙◌}
use Rattle.cli_assembly.specs.Kept.{answer_of}
use Rattle.cli_assembly.proofs.ByRow.{method_kept}
use Rattle.cli_assembly.proofs.assembly.Assembly.method_sig.Goals as goal

pub returns : goal.returns
returns c =
    rw (← c.self.view_is) (c.answer_of.ensures
    ∙ (ap (λ l. answer_of l c.args.row) (c.deref.ensures.value ∙ c.self.invariant.methods)
    ∙ method_kept c.self.inside.bytes.items c.args.row))

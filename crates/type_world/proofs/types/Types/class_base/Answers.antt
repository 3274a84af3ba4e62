use Rattle.std.proofs.Common.{sym, ap, ◌∙◌, option_copied, slice_get}
use Rattle.type_world.proofs.ChainSteps.{base_nowhere, base_there}
use Rattle.type_world.proofs.types.Types.class_base.Goals as goal

pub returns-in-Some : goal.returns-in-Some
returns-in-Some c =
    c.base_in.ensures ∙ base_there c.args.self.now c.args.asm c.args.row c.column.result c.in-Some.assembly.now
    (ap (λ fs. slice_get fs c.args.asm) (sym c.assemblies.ensures) ∙ sym c.assembly.ensures
    ∙ ap option_copied c.in-Some.is) c.column.ensures

pub returns-in-None : goal.returns-in-None
returns-in-None c =
    base_nowhere c.args.self.now c.args.asm c.args.row
    (ap (λ fs. slice_get fs c.args.asm) (sym c.assemblies.ensures) ∙ sym c.assembly.ensures ∙ ap option_copied c.in-None.is)

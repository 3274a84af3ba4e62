use Rattle.std.proofs.Common.{sym, ap, ◌∙◌, option_copied, slice_get}
use Rattle.type_world.proofs.Listed.{no_assembly_class}
use Rattle.type_world.proofs.types.Types.row_class.Goals as goal

pub returns-in-None : goal.returns-in-None
returns-in-None c =
    sym (no_assembly_class c.args.self.now c.args.asm c.args.row
    (ap (λ fs. slice_get fs c.args.asm) (sym c.assemblies.ensures) ∙ sym c.assembly.ensures ∙ ap option_copied c.in-None.is))

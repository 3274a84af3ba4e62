use Rattle.std.proofs.Common.{sym, ap, ◌∙◌, option_copied}
use Rattle.type_world.proofs.TypeRefs.{ref_kept, ref_nowhere}
use Rattle.type_world.proofs.types.Types.type_ref.Goals as goal

pub returns-in-Some : goal.returns-in-Some
returns-in-Some c =
    c.type_ref.ensures ∙ ref_kept c.args.self.now c.args.asm c.args.row c.in-Some.resolved.now
    (sym c.resolved_at.ensures ∙ ap option_copied c.in-Some.is)

pub returns-in-None : goal.returns-in-None
returns-in-None c =
    ref_nowhere c.args.self.now c.args.asm c.args.row (sym c.resolved_at.ensures ∙ ap option_copied c.in-None.is)

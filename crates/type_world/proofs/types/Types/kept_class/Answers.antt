use Rattle.std.proofs.Common.{sym, ap, ◌∙◌, option_copied}
use Rattle.type_world.proofs.Listed.{class_kept, is_kept}
use Rattle.type_world.proofs.types.Types.kept_class.Goals as goal

pub returns-in-Some : goal.returns-in-Some
returns-in-Some c =
    c.method_class.ensures ∙ class_kept c.args.self.now c.args.asm c.args.row c.args.assembly.now c.in-Some.resolved.now
    c.requires (c.lists_ascend.ensures c.args.assembly.now c.bytes.ensures.well_formed)
    (sym c.resolved_at.ensures ∙ ap option_copied c.in-Some.is)

pub returns-in-None : goal.returns-in-None
returns-in-None c =
    absurd (is_kept c.args.self.now c.args.asm c.args.assembly.now c.requires (sym c.resolved_at.ensures ∙ ap option_copied c.in-None.is))

use Rattle.std.proofs.Common.{refl, slice_get, sym, ap, ◌∙◌, option_copied}
use Rattle.type_world.proofs.MemberRefs.{parent_none, parent_some}
use Rattle.type_world.proofs.types.Types.member_parent.Goals as goal

pub returns-in-Some : goal.returns-in-Some
returns-in-Some c =
    c.type_named_by.ensures
    ∙ sym (parent_some c.args.self.now c.args.asm c.args.row _ c.in-Some.assembly.now c.class_token.result
    (ap (λ files. slice_get files c.args.asm) (sym c.assemblies.ensures) ∙ sym c.assembly.ensures ∙ ap option_copied c.in-Some.is)
    refl c.class_token.ensures)

pub returns-in-None : goal.returns-in-None
returns-in-None c =
    sym (parent_none c.args.self.now c.args.asm c.args.row
    (ap (λ files. slice_get files c.args.asm) (sym c.assemblies.ensures) ∙ sym c.assembly.ensures ∙ ap option_copied c.in-None.is))

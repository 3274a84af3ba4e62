use Rattle.std.proofs.Common.{sym, ap, ◌∙◌, option_copied}
use Rattle.cli_assembly.specs.Kept.{answer_of}
use Rattle.type_world.specs.Loading.{world_of}
use Rattle.type_world.proofs.MemberRefs.{member_is, no_member_kept}
use Rattle.type_world.proofs.methods.Methods.member_method.Goals as goal

pub returns-in-Some : goal.returns-in-Some
returns-in-Some c =
    c.copied.ensures ∙ c.answer_of.ensures ∙ ap (λ l. answer_of l c.args.row) c.as_slice.ensures
    ∙ member_is (world_of c.args.self.now) c.args.asm c.args.row c.in-Some.members.now
    (sym c.members_at.ensures ∙ ap option_copied c.in-Some.is)

pub returns-in-None : goal.returns-in-None
returns-in-None c =
    sym (no_member_kept (world_of c.args.self.now) c.args.asm c.args.row (sym c.members_at.ensures ∙ ap option_copied c.in-None.is))

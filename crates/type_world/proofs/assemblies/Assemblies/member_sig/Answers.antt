use Rattle.std.proofs.Common.{sym, ap, ◌∙◌, option_copied}
use Rattle.type_world.proofs.MemberRefs.{member_sig_none, member_sig_some}
use Rattle.type_world.proofs.assemblies.Assemblies.member_sig.Goals as goal

pub returns-in-Some : goal.returns-in-Some
returns-in-Some c =
    c.member_method_sig.ensures ∙ member_sig_some c.args.self.now c.args.asm c.args.row c.in-Some.assembly.now
    (sym c.assembly.ensures ∙ ap option_copied c.in-Some.is)

pub returns-in-None : goal.returns-in-None
returns-in-None c = sym (member_sig_none c.args.self.now c.args.asm c.args.row (sym c.assembly.ensures ∙ ap option_copied c.in-None.is))

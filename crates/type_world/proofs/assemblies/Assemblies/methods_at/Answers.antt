use Rattle.std.proofs.Common.{sym, ap, ◌∙◌, option_copied}
use Rattle.type_world.proofs.MemberRefs.{methods_none, methods_some}
use Rattle.type_world.proofs.assemblies.Assemblies.methods_at.Goals as goal

pub returns-in-Some : goal.returns-in-Some
returns-in-Some c =
    c.methods.ensures.rows ∙ methods_some c.args.self.now c.args.asm c.args.class c.in-Some.assembly.now
    (sym c.assembly.ensures ∙ ap option_copied c.in-Some.is)

pub returns-in-None : goal.returns-in-None
returns-in-None c = sym (methods_none c.args.self.now c.args.asm c.args.class (sym c.assembly.ensures ∙ ap option_copied c.in-None.is))

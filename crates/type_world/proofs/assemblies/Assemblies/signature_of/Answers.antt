use Rattle.std.proofs.Common.{sym, ap, ◌∙◌, option_copied}
use Rattle.type_world.proofs.Counts.{sig_none, sig_some}
use Rattle.type_world.proofs.assemblies.Assemblies.signature_of.Goals as goal

pub returns-in-Some : goal.returns-in-Some
returns-in-Some c =
    c.method_sig.ensures ∙ sym (sig_some c.args.self.now c.args.method c.in-Some.assembly.now c.requires
    (sym c.assembly.ensures ∙ ap option_copied c.in-Some.is))

pub returns-in-None : goal.returns-in-None
returns-in-None c = sym (sig_none c.args.self.now c.args.method c.requires (sym c.assembly.ensures ∙ ap option_copied c.in-None.is))

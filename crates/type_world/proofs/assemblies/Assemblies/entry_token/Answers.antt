use Rattle.std.proofs.Common.{sym, ap, ◌∙◌, option_copied}
use Rattle.type_world.proofs.Counts.{token_none, token_some}
use Rattle.type_world.proofs.assemblies.Assemblies.entry_token.Goals as goal

pub returns-in-Some : goal.returns-in-Some
returns-in-Some c =
    c.entry_token.ensures ∙ ap (λ h. h.entry_token) c.pe.ensures
    ∙ sym (token_some c.args.self.now 0 c.in-Some.assembly.now (sym c.assembly.ensures ∙ ap option_copied c.in-Some.is))

pub returns-in-None : goal.returns-in-None
returns-in-None c = sym (token_none c.args.self.now 0 (sym c.assembly.ensures ∙ ap option_copied c.in-None.is))

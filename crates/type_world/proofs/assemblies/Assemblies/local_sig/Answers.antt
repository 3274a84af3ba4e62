use Rattle.std.proofs.Common.{sym, ap, ◌∙◌, option_copied}
use Rattle.cli_assembly.specs.Assemblies.{local_signature}
use Rattle.type_world.proofs.ClassRows.{no_local_signature, there_is, there_is_none}
use Rattle.type_world.proofs.assemblies.Assemblies.local_sig.Goals as goal

pub returns-in-Some : goal.returns-in-Some
returns-in-Some c =
    c.local_sig.ensures
    ∙ sym (ap (λ a. local_signature a c.args.row)
    (there_is c.args.self.now c.args.asm c.in-Some.assembly.now (sym c.assembly.ensures ∙ ap option_copied c.in-Some.is)))

pub returns-in-None : goal.returns-in-None
returns-in-None c =
    sym (ap (λ a. local_signature a c.args.row)
    (there_is_none c.args.self.now c.args.asm (sym c.assembly.ensures ∙ ap option_copied c.in-None.is)) ∙ no_local_signature c.args.row)

use Rattle.std.proofs.Common.{sym, ap, ◌∙◌, option_copied}
use Rattle.cli_assembly.specs.Assemblies.{body_of}
use Rattle.type_world.proofs.ClassRows.{no_body, there_is, there_is_none}
use Rattle.type_world.proofs.assemblies.Assemblies.cil_of.Goals as goal

pub returns-in-Some-clause-cil : goal.returns-in-Some-clause-cil
returns-in-Some-clause-cil c =
    c.cil_in.ensures.cil
    ∙ sym (ap (λ a. body_of a c.args.method.row)
    (there_is c.args.self.now c.args.method.asm c.in-Some.assembly.now (sym c.assembly.ensures ∙ ap option_copied c.in-Some.is)))

pub returns-in-None-clause-cil : goal.returns-in-None-clause-cil
returns-in-None-clause-cil c =
    sym (ap (λ a. body_of a c.args.method.row)
    (there_is_none c.args.self.now c.args.method.asm (sym c.assembly.ensures ∙ ap option_copied c.in-None.is))
    ∙ no_body c.args.method.row)

use Rattle.std.proofs.Common.{sym, ap, ◌∙◌, option_copied}
use Rattle.cli_assembly.specs.Assemblies.{fields_of}
use Rattle.type_world.proofs.ClassRows.{no_fields, there_is, there_is_none}
use Rattle.type_world.proofs.assemblies.Assemblies.fields_at.Goals as goal

pub returns-in-Some : goal.returns-in-Some
returns-in-Some c =
    c.fields.ensures.rows
    ∙ sym (ap (λ a. fields_of a c.args.class)
    (there_is c.args.self.now c.args.asm c.in-Some.assembly.now (sym c.assembly.ensures ∙ ap option_copied c.in-Some.is)))

pub returns-in-None : goal.returns-in-None
returns-in-None c =
    no_fields c.args.class
    ∙ sym (ap (λ a. fields_of a c.args.class)
    (there_is_none c.args.self.now c.args.asm (sym c.assembly.ensures ∙ ap option_copied c.in-None.is)))

use Rattle.std.proofs.Common.{sym, ap, ◌∙◌, option_copied}
use Rattle.cli_assembly.specs.Assemblies.{field_signature}
use Rattle.type_world.specs.Members.{field_type}
use Rattle.type_world.proofs.ClassRows.{no_field_signature, there_is, there_is_none}
use Rattle.type_world.proofs.assemblies.Assemblies.field_type.Goals as goal

pub returns-in-Some : goal.returns-in-Some
unfolding field_type
returns-in-Some c =
    c.field_sig.ensures
    ∙ sym (ap (λ a. field_signature a c.args.field.row)
    (there_is c.args.self.now c.args.field.asm c.in-Some.assembly.now (sym c.assembly.ensures ∙ ap option_copied c.in-Some.is)))

pub returns-in-None : goal.returns-in-None
unfolding field_type
returns-in-None c =
    sym (ap (λ a. field_signature a c.args.field.row)
    (there_is_none c.args.self.now c.args.field.asm (sym c.assembly.ensures ∙ ap option_copied c.in-None.is))
    ∙ no_field_signature c.args.field.row)

use Rattle.std.proofs.Common.{refl, ◌∙◌, option_copied}
use Rattle.cli_assembly.specs.Assemblies.{assembly_of}
use Rattle.type_world.proofs.FullNames.{text_unwrapped}
use Rattle.type_world.proofs.OtherNames.{own_text}
use Rattle.type_world.proofs.name_numbers.type_text.Goals as goal

pub returns : goal.returns
returns c =
    text_unwrapped c.string.result _ c.unwrap_or.result c.unwrap_or.ensures refl
    ∙ own_text (assembly_of c.args.assembly.now) c.args.row c.args.number c.column.result (option_copied c.string.result) c.column.ensures
    c.string.ensures

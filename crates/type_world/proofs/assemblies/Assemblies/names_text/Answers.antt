use Rattle.std.proofs.Common.{sym, ap, ◌∙◌, option_copied}
use Rattle.type_world.proofs.TypeNames.{has_text_none, has_text_some}
use Rattle.type_world.proofs.assemblies.Assemblies.names_text.Goals as goal

pub returns-in-Some : goal.returns-in-Some
returns-in-Some c =
    c.is_text.ensures ∙ has_text_some c.args.self.now c.args.asm c.in-Some.assembly.now c.args.table c.args.row c.args.number
    c.column.result c.args.text.now (option_copied c.string.result)
    (sym c.assembly.ensures ∙ ap option_copied c.in-Some.is) c.column.ensures c.string.ensures

pub returns-in-None : goal.returns-in-None
returns-in-None c =
    c.eq.ensures ∙ has_text_none c.args.self.now c.args.asm c.args.table c.args.row c.args.number c.args.text.now
    (sym c.assembly.ensures ∙ ap option_copied c.in-None.is)

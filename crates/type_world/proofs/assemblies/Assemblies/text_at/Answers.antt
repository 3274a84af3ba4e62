use Rattle.std.proofs.Common.{refl, sym, ap, ◌∙◌, option_copied}
use Rattle.type_world.proofs.FullNames.{text_none, text_some, text_unwrapped}
use Rattle.type_world.proofs.assemblies.Assemblies.text_at.Goals as goal

pub returns-in-Some : goal.returns-in-Some
returns-in-Some c =
    text_unwrapped c.string.result _ c.unwrap_or.result c.unwrap_or.ensures refl
    ∙ sym (text_some c.args.self.now c.args.asm c.in-Some.assembly.now c.args.table c.args.row c.args.number
    c.column.result (option_copied c.string.result)
    (sym c.assembly.ensures ∙ ap option_copied c.in-Some.is) c.column.ensures c.string.ensures)

pub returns-in-None : goal.returns-in-None
returns-in-None c =
    sym (text_none c.args.self.now c.args.asm c.args.table c.args.row c.args.number
    (sym c.assembly.ensures ∙ ap option_copied c.in-None.is))

use Rattle.std.proofs.Common.{sym, ap, ◌∙◌, option_copied}
use Rattle.type_world.proofs.Counts.{column_none, column_some}
use Rattle.type_world.proofs.assemblies.Assemblies.column_at.Goals as goal

pub returns-in-Some : goal.returns-in-Some
returns-in-Some c =
    c.column.ensures ∙ sym (column_some c.args.self.now c.args.asm c.in-Some.assembly.now c.args.table c.args.row
    c.args.number (sym c.assembly.ensures ∙ ap option_copied c.in-Some.is))

pub returns-in-None : goal.returns-in-None
returns-in-None c =
    sym (column_none c.args.self.now c.args.asm c.args.table c.args.row c.args.number
    (sym c.assembly.ensures ∙ ap option_copied c.in-None.is))

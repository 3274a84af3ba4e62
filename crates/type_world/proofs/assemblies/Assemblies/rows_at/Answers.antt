use Rattle.std.proofs.Common.{sym, ap, ◌∙◌, option_copied}
use Rattle.type_world.proofs.Counts.{rows_none, rows_some}
use Rattle.type_world.proofs.assemblies.Assemblies.rows_at.Goals as goal

pub returns-in-Some-clause-rows : goal.returns-in-Some-clause-rows
returns-in-Some-clause-rows c =
    c.rows.ensures.rows ∙ sym (rows_some c.args.self.now c.args.asm c.in-Some.assembly.now c.args.table
    (sym c.assembly.ensures ∙ ap option_copied c.in-Some.is))

pub returns-in-None-clause-rows : goal.returns-in-None-clause-rows
returns-in-None-clause-rows c =
    sym (rows_none c.args.self.now c.args.asm c.args.table (sym c.assembly.ensures ∙ ap option_copied c.in-None.is))

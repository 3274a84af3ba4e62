use Rattle.std.proofs.Common.{sym, ◌∙◌, arith}
use Rattle.type_world.proofs.Counts.{place_is}
use Rattle.type_world.proofs.assemblies.Assemblies.place_among.Goals as goal

pub overflow_add-result : goal.overflow_add-result
overflow_add-result c = let few = c.assemblies_before.ensures.few in let rows = c.rows_of.ensures.few in let row =
    c.has_row.ensures.few c.if-has_row.true in omega (arith, few, rows, row)

pub returns-then-has_row-clause-place : goal.returns-then-has_row-clause-place
returns-then-has_row-clause-place c =
    sym (place_is c.args.self.now c.assemblies_before.result.now c.args.asm c.args.row c.rows_of.result c.args.table
    (sym c.has_row.ensures.there ∙ c.if-has_row.true) c.assemblies_before.ensures.files c.rows_of.ensures.rows)

pub returns-then-has_row-clause-few : goal.returns-then-has_row-clause-few
returns-then-has_row-clause-few c = let few = c.assemblies_before.ensures.few in let rows =
    c.rows_of.ensures.few in let row = c.has_row.ensures.few c.if-has_row.true in omega (arith, few, rows, row)

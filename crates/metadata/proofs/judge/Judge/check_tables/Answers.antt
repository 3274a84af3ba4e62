use Rattle.std.proofs.Common.{rules, ◌≡◌, ℕ, ◌+◌, ◌<◌, None, List, length, get_or, refl, sym, subst, arith}
use Rattle.metadata.specs.Checks.{bad_column, fallen_column, first_column, first_in_table}
use Rattle.std.proofs.lemmas.Option.{slice_get_read}
use Rattle.metadata.specs.declared.layout.TableLayout.{TableLayout}
use Rattle.metadata.specs.Kept.{AreTables, IsTable}
use Rattle.metadata.specs.Tables.{Layout}
use Rattle.metadata.proofs.FirstOf.{judging_all, judging_bad, judging_more}
use Rattle.metadata.proofs.judge.Judge.check_tables.Goals as goal

-- the number of the table at an index
number_at : (layout : Layout) (tables : List TableLayout) (i : ℕ) (table : TableLayout) → AreTables layout tables
    → i < length tables → table ≡ get_or tables i table → table.number ≡ 0 + i
number_at layout tables i table are below is =
    let number = (are.each i table (slice_get_read tables (length tables) i table refl below is)).number in
    omega (arith, number)

pub check_table-requires-clause-table : goal.check_table-requires-clause-table
check_table-requires-clause-table c =
    let this =
    c.requires.tables.each c.loop-table.table-index c.table-item.result
    (slice_get_read c.args.tables.now (length c.args.tables.now) c.loop-table.table-index c.table-item.result refl
    c.loop-table-test.true c.table-item.is) in
    subst (λ n. IsTable c.args.self.now.places.now n c.table-item.result) (sym this.number) this

pub returns-in_err-fallen : goal.returns-in_err-fallen
unfolding first_column
returns-in_err-fallen c =
    let count = c.requires.tables.all in
    let bad =
    judging_bad (first_in_table c.args.self.now.places.now
    (bad_column c.args.self.now.bytes.now c.args.self.now.places.now))
    (first_in_table c.args.self.now.places.now (fallen_column c.args.self.now.bytes.now c.args.self.now.places.now))
    0 64 c.loop-table.table-index c.table-item.result.number None c.loop-table.fallen c.in_err-fallen.field-0.0
    (omega (arith, count)) (number_at c.args.self.now.places.now c.args.tables.now c.loop-table.table-index
    c.table-item.result c.requires.tables c.loop-table-test.true c.table-item.is) c.loop-table.invariant c.in_err-fallen.ensures in
    search (rules, bad)

pub loop-table-preserved : goal.loop-table-preserved
unfolding first_column
loop-table-preserved c =
    let count = c.requires.tables.all in
    judging_more (first_in_table c.args.self.now.places.now
    (bad_column c.args.self.now.bytes.now c.args.self.now.places.now))
    (first_in_table c.args.self.now.places.now (fallen_column c.args.self.now.bytes.now c.args.self.now.places.now))
    0 64 c.loop-table.table-index c.table-item.result.number None c.loop-table.fallen c.in_ok-fallen.fallen
    (omega (arith, count)) (number_at c.args.self.now.places.now c.args.tables.now c.loop-table.table-index
    c.table-item.result c.requires.tables c.loop-table-test.true c.table-item.is) c.loop-table.invariant c.in_ok-fallen.ensures

pub returns : goal.returns
unfolding first_column
returns c =
    let count = c.requires.tables.all in
    judging_all (first_in_table c.args.self.now.places.now
    (bad_column c.args.self.now.bytes.now c.args.self.now.places.now))
    (first_in_table c.args.self.now.places.now (fallen_column c.args.self.now.bytes.now c.args.self.now.places.now))
    0 64 c.loop-table.table-index None c.loop-table.fallen (omega (arith, count)) c.loop-table.invariant

use Rattle.std.proofs.Common.{rules, ◌≡◌, ℕ, ◌+◌, List, [], Some, None, sym, ap, ◌∙◌, arith}
use Rattle.std.specs.Prelude.{slice_get}
use Rattle.metadata.specs.declared.layout.TableLayout.{TableLayout}
use Rattle.metadata.specs.Kept.{AreTables, IsTable}
use Rattle.metadata.specs.Tables.{Layout, column_place}
use Rattle.metadata.proofs.ColumnOf.{no_column, no_first_row, no_place, no_row, no_table, nth_is, the_column, the_place}
use Rattle.metadata.proofs.Placed.{place_is, rows_inside}
use Rattle.metadata.proofs.metadata.Metadata.column_place.Goals as goal
use Rattle.metadata.proofs.metadata.Metadata.column_place.Goals.{then-row-eq0-via-then-row-eq0}
use Rattle.metadata.proofs.metadata.Metadata.column_place.Goals.{then-row-eq0-via-else-row-eq0+then-row-table}

-- the table of a number, among those that are kept
table_is : (layout : Layout) (tables items : List TableLayout) (n : ℕ) (table : TableLayout) → AreTables layout items
    → tables ≡ items → Some table ≡ slice_get tables n → IsTable layout n table
table_is layout tables items n table are same e = are.each n table (sym (e ∙ ap (λ l. slice_get l n) same))

pub returns-in_err-table : goal.returns-in_err-table
returns-in_err-table c =
    let none : column_place c.args.self.now c.args.table c.args.row c.args.column ≡ None =
    ap (λ l. column_place l c.args.table c.args.row c.args.column) (sym c.self.view_is)
    ∙ no_place [] c.self.inside.places c.args.table c.args.row c.args.column
    (no_table [] c.self.inside.places c.self.inside.tables.items c.args.table c.args.row c.args.column c.self.invariant
    (c.in_err-table.ensures ∙ ap (λ l. slice_get l c.args.table) c.deref.ensures.value)) in
    search (rules, none)

pub returns-in_err-column : goal.returns-in_err-column
returns-in_err-column c =
    let t =
    table_is c.self.inside.places c.deref.result.now c.self.inside.tables.items c.args.table c.in_ok-table.table.now
    c.self.invariant c.deref.ensures.value c.in_ok-table.ensures in
    let none : column_place c.args.self.now c.args.table c.args.row c.args.column ≡ None =
    ap (λ l. column_place l c.args.table c.args.row c.args.column) (sym c.self.view_is)
    ∙ no_place [] c.self.inside.places c.args.table c.args.row c.args.column
    (no_column [] c.self.inside.places c.in_ok-table.table.now c.args.table c.args.row c.args.column t
    (c.in_err-column.ensures ∙ ap (λ l. slice_get l c.args.column) c.deref-2.ensures.value)) in
    search (rules, none)

pub returns-then-row-eq0 : goal.returns-then-row-eq0
returns-then-row-eq0 c =
    let t =
    table_is c.self.inside.places c.deref.result.now c.self.inside.tables.items c.args.table c.in_ok-table.table.now
    c.self.invariant c.deref.ensures.value c.in_ok-table.ensures in
    elim c.then-row-eq0.branch [
      | then-row-eq0-via-then-row-eq0 w ↦
          sym (no_place [] c.args.self.now c.args.table c.args.row c.args.column
          (no_first_row [] c.args.self.now c.args.table c.args.row c.args.column w.if-row-eq0.true))
      | then-row-eq0-via-else-row-eq0+then-row-table w ↦
          sym (ap (λ l. column_place l c.args.table c.args.row c.args.column) (sym c.self.view_is)
          ∙ no_place [] c.self.inside.places c.args.table c.args.row c.args.column
          (no_row [] c.self.inside.places c.in_ok-table.table.now c.args.table c.args.row c.args.column t w.if-row-table.true))
    ]

pub row_at-requires-clause-inside : goal.row_at-requires-clause-inside
row_at-requires-clause-inside c =
    let t =
    table_is c.self.inside.places c.deref.result.now c.self.inside.tables.items c.args.table c.in_ok-table.table.now
    c.self.invariant c.deref.ensures.value c.in_ok-table.ensures in
    rows_inside c.self.inside.places c.args.table c.in_ok-table.table.now t

pub overflow_add-result : goal.overflow_add-result
overflow_add-result c =
    let t =
    table_is c.self.inside.places c.deref.result.now c.self.inside.tables.items c.args.table c.in_ok-table.table.now
    c.self.invariant c.deref.ensures.value c.in_ok-table.ensures in
    let is =
    nth_is c.self.inside.places c.in_ok-table.table.now c.args.table c.args.column c.in_ok-column.column.now t
    (c.in_ok-column.ensures ∙ ap (λ l. slice_get l c.args.column) c.deref-2.ensures.value) in
    let offset = is.inside in
    let size = t.row_size in
    let row = c.row_at.ensures.inside in
    omega (arith, offset, size, row)

pub returns : goal.returns
returns c =
    let t =
    table_is c.self.inside.places c.deref.result.now c.self.inside.tables.items c.args.table c.in_ok-table.table.now
    c.self.invariant c.deref.ensures.value c.in_ok-table.ensures in
    let nth = c.in_ok-column.ensures ∙ ap (λ l. slice_get l c.args.column) c.deref-2.ensures.value in
    let is = nth_is c.self.inside.places c.in_ok-table.table.now c.args.table c.args.column c.in_ok-column.column.now t nth in
    let place =
    place_is c.self.inside.places c.args.table c.in_ok-table.table.now c.args.row c.args.column
    c.in_ok-column.column.now _ t is (ap (λ p. p + c.in_ok-column.column.now.offset) c.row_at.ensures.place) in
    let column =
    the_column [] c.self.inside.places c.in_ok-table.table.now c.args.table c.args.row c.args.column
    c.in_ok-column.column.now t nth (omega arith) (omega arith) in
    ap Some place
    ∙ sym (the_place [] c.self.inside.places c.args.table c.args.row c.args.column _ column)
    ∙ ap (λ l. column_place l c.args.table c.args.row c.args.column) c.self.view_is

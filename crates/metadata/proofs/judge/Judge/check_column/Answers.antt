use Rattle.std.proofs.Common.{rules, ◌+◌, sym, ap, ◌∙◌, subst, arith}
use Rattle.metadata.specs.declared.layout.ColumnLayout.{ColumnLayout}
use Rattle.metadata.specs.Checks.{fallen_column}
use Rattle.metadata.proofs.Placed.{IsColumn, column_bad, column_good, column_of_table, number_is, place_is, rows_inside}
use Rattle.metadata.proofs.judge.Judge.check_column.Goals as goal

pub overflow_add-place : goal.overflow_add-place
overflow_add-place c =
    let P : ColumnLayout → Type 0 = λ k. IsColumn c.args.self.now.places.now c.args.table.now.number c.args.index k in
    let is =
    subst P (sym c.index.ensures)
    (column_of_table c.args.self.now.places.now c.args.table.now.number c.args.table.now c.args.index
    c.index.result.now c.requires.table c.requires.column) in
    let offset = is.inside in
    let size = c.requires.table.row_size in
    let row = c.row_at.ensures.inside in
    omega (arith, offset, size, row)

pub falls-falls-requires-clause-inside : goal.falls-falls-requires-clause-inside
falls-falls-requires-clause-inside c =
    let P : ColumnLayout → Type 0 = λ k. IsColumn c.args.self.now.places.now c.args.table.now.number c.args.index k in
    let is =
    subst P (sym c.index.ensures)
    (column_of_table c.args.self.now.places.now c.args.table.now.number c.args.table.now c.args.index
    c.index.result.now c.requires.table c.requires.column) in
    let offset = is.inside in
    let size = c.requires.table.row_size in
    omega (arith, offset, size)

pub falls-falls-requires-clause-rows : goal.falls-falls-requires-clause-rows
falls-falls-requires-clause-rows c = rows_inside c.args.self.now.places.now c.args.table.now.number c.args.table.now c.requires.table

pub row_at-requires-clause-inside : goal.row_at-requires-clause-inside
row_at-requires-clause-inside c = rows_inside c.args.self.now.places.now c.args.table.now.number c.args.table.now c.requires.table

pub returns-in_err-ensure : goal.returns-in_err-ensure
returns-in_err-ensure c =
    let P : ColumnLayout → Type 0 = λ k. IsColumn c.args.self.now.places.now c.args.table.now.number c.args.index k in
    let is =
    subst P (sym c.index.ensures)
    (column_of_table c.args.self.now.places.now c.args.table.now.number c.args.table.now c.args.index
    c.index.result.now c.requires.table c.requires.column) in
    let offset = c.row_at.ensures.place in
    let place =
    place_is c.args.self.now.places.now c.args.table.now.number c.args.table.now c.args.row c.args.index
    c.index.result.now _ c.requires.table is (ap (λ p. p + c.index.result.now.offset) offset) in
    let number =
    number_is c.args.self.now.bytes.now c.args.self.now.places.now c.args.table.now.number c.args.row c.args.index
    c.index.result.now _ c.number_at-number.result is place c.number_at-number.ensures in
    let said = c.in_err-ensure.ensures.fault in
    let bad =
    column_bad c.args.self.now.bytes.now c.args.self.now.places.now c.args.table.now.number c.args.row c.args.index
    c.index.result.now.kind c.number_at-number.result _ c.in_err-ensure.field-0.0
    (fallen_column c.args.self.now.bytes.now c.args.self.now.places.now c.args.table.now.number c.args.row c.args.index)
    c.args.fallen is.kind number place (sym c.is_valid.ensures ∙ said.0) said.1 in
    search (rules, bad)

pub returns : goal.returns
returns c =
    let P : ColumnLayout → Type 0 = λ k. IsColumn c.args.self.now.places.now c.args.table.now.number c.args.index k in
    let is =
    subst P (sym c.index.ensures)
    (column_of_table c.args.self.now.places.now c.args.table.now.number c.args.table.now c.args.index
    c.index.result.now c.requires.table c.requires.column) in
    let offset = c.row_at.ensures.place in
    let place =
    place_is c.args.self.now.places.now c.args.table.now.number c.args.table.now c.args.row c.args.index
    c.index.result.now _ c.requires.table is (ap (λ p. p + c.index.result.now.offset) offset) in
    let number =
    number_is c.args.self.now.bytes.now c.args.self.now.places.now c.args.table.now.number c.args.row c.args.index
    c.index.result.now _ c.number_at-number.result is place c.number_at-number.ensures in
    column_good c.args.self.now.bytes.now c.args.self.now.places.now c.args.table.now.number c.args.row c.args.index
    c.args.table.now c.index.result.now c.number_at-number.result _ c.falls-falls.result c.args.fallen c.first_fallen.result
    c.requires.table is number place (sym c.is_valid.ensures ∙ c.in_ok-ensure.ensures.holds) c.falls-falls.ensures c.first_fallen.ensures

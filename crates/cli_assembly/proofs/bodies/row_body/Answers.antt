use Rattle.std.proofs.Common.{◌≡◌, ℕ, ap, subst, Option, Some, None, IfErr, IfOk, OnOk, ◌∙◌}
use Rattle.std.specs.Option.{option_and_then}
use Rattle.cli_assembly.specs.declared.body.Body.{Body}
use Rattle.cli_assembly.specs.Bodies.{placed_body}
use Rattle.cli_assembly.specs.Checks.{place_if_malformed}
use Rattle.cli_assembly.proofs.Rows.{malformed_is, placed_is, row_unplaced}
use Rattle.cli_assembly.proofs.bodies.row_body.Goals as goal

pub returns-clause-fault : goal.returns-clause-fault
returns-clause-fault c =
    let is =
    row_unplaced c.args.bytes.now c.args.metadata.now c.args.row c.number.result c.unwrap_or.result
    c.column_place-column.result c.row_header-header.result
    c.requires.first c.requires.last c.row_header-header.ensures c.number.ensures.number c.column_place-column.ensures
    c.unwrap_or.ensures in
    let P : Option ℕ → Type 0 = λ o. IfErr c.body_by.result (λ f. (f.check ≡ 50) × (o ≡ Some f.place)) in
    subst P is c.body_by.ensures.fault

pub returns-clause-placed : goal.returns-clause-placed
returns-clause-placed c =
    let is =
    row_unplaced c.args.bytes.now c.args.metadata.now c.args.row c.number.result c.unwrap_or.result
    c.column_place-column.result c.row_header-header.result
    c.requires.first c.requires.last c.row_header-header.ensures c.number.ensures.number c.column_place-column.ensures
    c.unwrap_or.ensures in
    let P : Option ℕ → Type 0 = λ o. OnOk c.body_by.result (o ≡ None) in
    subst P is c.body_by.ensures.placed

pub returns-clause-body : goal.returns-clause-body
returns-clause-body c =
    let is = ap (option_and_then placed_body) c.row_header-header.ensures ∙ placed_is c.args.bytes.now c.args.metadata.now c.args.row in
    let P : Option Body → Type 0 = λ o. IfOk c.body_by.result (λ found. found.body ≡ o) in
    subst P is c.body_by.ensures.body

pub returns-clause-malformed : goal.returns-clause-malformed
returns-clause-malformed c =
    let is = ap (option_and_then place_if_malformed) c.row_header-header.ensures
    ∙ malformed_is c.args.bytes.now c.args.metadata.now c.args.row in
    let P : Option ℕ → Type 0 = λ o. IfOk c.body_by.result (λ found. found.malformed ≡ o) in
    subst P is c.body_by.ensures.malformed

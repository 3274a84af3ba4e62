use Rattle.std.proofs.Common.{rules, ◌≡◌, ◌+◌, ◌*◌, List, Some, refl, sym, ap, ◌∙◌, subst, arith}
use Rattle.std.proofs.lemmas.Bool.{leb-false, leb-true}
use Rattle.metadata.specs.declared.layout.TableLayout.{TableLayout}
use Rattle.metadata.specs.Kept.{fit_fault}
use Rattle.metadata.proofs.Placed.{Placed, one_too_long, placed_more, placed_none, product}
use Rattle.metadata.proofs.layout.read_tables.Goals as goal

pub loop-number-init : goal.loop-number-init
loop-number-init c =
    let P : List TableLayout → Type 0 = λ l. Placed c.args.places.now c.args.stream 0 c.rows_at-at.result l in
    subst P (sym c.new-tables.ensures.items)
    (placed_none c.args.places.now c.args.stream c.rows_at-at.result c.rows_at-at.ensures.place c.rows_at-at.ensures.narrow)

pub overflow_add-next : goal.overflow_add-next
overflow_add-next c =
    let at = c.from.ensures in
    let rows = c.from-in-loop-number.ensures in
    let size = c.from-in-loop-number-2.ensures in
    let few = c.rows-rows.ensures.few in
    let small = c.in_ok-row.ensures.small in
    let narrow = c.loop-number.invariant.narrow in
    let most =
    product c.from-in-loop-number.result c.from-in-loop-number-2.result (omega (arith, rows, few)) (omega (arith, size, small)) in
    omega (arith, most, at, narrow)

pub returns-in_err-ensure-clause-malformed : goal.returns-in_err-ensure-clause-malformed
returns-in_err-ensure-clause-malformed c =
    let at = c.from.ensures in
    let end = c.from-in-loop-number-3.ensures in
    let said = c.in_err-ensure.ensures.fault in
    let long = leb-false _ _ said.0 in
    let next : c.from-in-loop-number.result * c.from-in-loop-number-2.result ≡ c.rows-rows.result * c.in_ok-row.row.size =
    ap (λ x. x * c.from-in-loop-number-2.result) c.from-in-loop-number.ensures
    ∙ ap (λ x. c.rows-rows.result * x) c.from-in-loop-number-2.ensures in
    let fault : fit_fault c.args.stream c.args.places.now ≡ Some c.in_err-ensure.field-0.0 =
    one_too_long c.args.places.now c.args.stream c.loop-number.number c.loop-number.at c.loop-number.tables.items
    c.rows-rows.result c.in_ok-row.row.size
    (omega arith) c.loop-number.invariant c.rows-rows.ensures.rows c.in_ok-row.ensures.size (omega (arith, at, end, long, next))
    ∙ ap Some (sym said.1) in
    search (rules, fault)

pub loop-number-preserved : goal.loop-number-preserved
loop-number-preserved c =
    let at = c.from.ensures in
    let end = c.from-in-loop-number-3.ensures in
    let fits = leb-true _ _ c.in_ok-ensure.ensures.holds in
    let next : c.from-in-loop-number.result * c.from-in-loop-number-2.result ≡ c.rows-rows.result * c.in_ok-row.row.size =
    ap (λ x. x * c.from-in-loop-number-2.result) c.from-in-loop-number.ensures
    ∙ ap (λ x. c.rows-rows.result * x) c.from-in-loop-number-2.ensures in
    let table : TableLayout =
    record { number = c.loop-number.number; at = c.loop-number.at; rows = c.rows-rows.result; row = c.in_ok-row.row } in
    let more = placed_more c.args.places.now c.args.stream c.loop-number.number c.loop-number.at
    (c.from.result + c.from-in-loop-number.result * c.from-in-loop-number-2.result) c.loop-number.tables.items table
    c.loop-number.invariant c.requires.small
    (omega (arith, at, next)) (omega (arith, end, fits)) refl refl c.rows-rows.ensures.rows c.in_ok-row.ensures.size
    c.in_ok-row.ensures.columns in
    let P : List TableLayout
    → Type 0 =
    λ l. Placed c.args.places.now c.args.stream (c.loop-number.number + 1)
    (c.from.result + c.from-in-loop-number.result * c.from-in-loop-number-2.result) l in
    subst P (sym c.in_ok-push.ensures.items) more

use Rattle.std.proofs.Common.{rules, ◌≡◌, ◌+◌, ◌++◌, ◌∷◌, [], map, Some, None, sym, ap, arith, ◌∙◌}
use Rattle.std.proofs.lemmas.List.FromFn.{map-range_with_len_more}
use Rattle.std.specs.List.{range_with_len}
use Rattle.metadata.specs.Tables.{rows_of}
use Rattle.cli_assembly.specs.Assemblies.{placed_in}
use Rattle.cli_assembly.specs.Checks.{malformed_header, unplaced_body}
use Rattle.cli_assembly.specs.Kept.{body_fault}
use Rattle.cli_assembly.proofs.AllChecks.{malformed_fault, unplaced_fault}
use Rattle.cli_assembly.proofs.FirstOf.{first_malformed, first_unplaced, none_unplaced, reading_more, reading_none}
use Rattle.cli_assembly.proofs.bodies.read_bodies.Goals as goal

pub loop-index-init : goal.loop-index-init
loop-index-init c = (
  reading_none (unplaced_body c.args.bytes.now c.args.metadata.now)
      (malformed_header c.args.bytes.now c.args.metadata.now) (rows_of c.args.metadata.now 6),
  c.new-bodies.ensures.items,
)

pub returns-in_err-row-clause-malformed : goal.returns-in_err-row-clause-malformed
returns-in_err-row-clause-malformed c =
    let rows : c.rows-index-end.result ≡ rows_of c.args.metadata.now 6 = c.rows-index-end.ensures
    ∙ ap (rows_of c.args.metadata.now) c.number.ensures.number in
    let fault = c.in_err-row.ensures.fault in
    let all : body_fault c.args.bytes.now c.args.metadata.now ≡ Some (record { check = 50; place = c.in_err-row.field-0.0.place }) =
    unplaced_fault c.args.bytes.now c.args.metadata.now c.in_err-row.field-0.0.place
    (first_unplaced (unplaced_body c.args.bytes.now c.args.metadata.now) (malformed_header c.args.bytes.now c.args.metadata.now)
    (rows_of c.args.metadata.now 6) c.loop-index.index c.in_err-row.field-0.0.place c.loop-index.malformed
    (omega (arith, rows)) c.loop-index.invariant.0 fault.1) in
    let same : body_fault c.args.bytes.now c.args.metadata.now ≡ Some c.in_err-row.field-0.0 =
    all ∙ ap (λ k. Some (record { check = k; place = c.in_err-row.field-0.0.place })) (sym fault.0) in
    search (rules, same)

pub loop-index-preserved : goal.loop-index-preserved
loop-index-preserved c =
    let rows : c.rows-index-end.result ≡ rows_of c.args.metadata.now 6 = c.rows-index-end.ensures
    ∙ ap (rows_of c.args.metadata.now) c.number.ensures.number in
    let placed = placed_in c.args.bytes.now c.args.metadata.now in (
      reading_more (unplaced_body c.args.bytes.now c.args.metadata.now)
          (malformed_header c.args.bytes.now c.args.metadata.now) (rows_of c.args.metadata.now 6)
          c.loop-index.index c.loop-index.malformed c.in_ok-row.row.malformed c.first_known-malformed.result
          (omega (arith, rows)) c.loop-index.invariant.0
          c.in_ok-row.ensures.placed c.in_ok-row.ensures.malformed c.first_known-malformed.ensures,
      c.in_ok-push.ensures.items
          ∙ ap (λ xs. xs ++ c.in_ok-row.row.body ∷ []) c.loop-index.invariant.1
          ∙ ap (λ b. map placed (range_with_len 1 c.loop-index.index) ++ b ∷ []) c.in_ok-row.ensures.body
          ∙ sym (map-range_with_len_more placed 1 c.loop-index.index (c.loop-index.index + 1) (omega arith)),
    )

pub returns-in-None-clause-well_formed : goal.returns-in-None-clause-well_formed
returns-in-None-clause-well_formed c =
    let rows : c.rows-index-end.result ≡ rows_of c.args.metadata.now 6 = c.rows-index-end.ensures
    ∙ ap (rows_of c.args.metadata.now) c.number.ensures.number in
    let r = c.loop-index.invariant.0 in
    malformed_fault c.args.bytes.now c.args.metadata.now None (none_unplaced _ _ _ _ _ (omega (arith, rows)) r)
    (first_malformed _ _ _ _ _ (omega (arith, rows)) r ∙ c.in-None.is)

pub returns-in-None-clause-bodies : goal.returns-in-None-clause-bodies
returns-in-None-clause-bodies c =
    let rows : c.rows-index-end.result ≡ rows_of c.args.metadata.now 6 = c.rows-index-end.ensures
    ∙ ap (rows_of c.args.metadata.now) c.number.ensures.number in
    let last : c.loop-index.index ≡ rows_of c.args.metadata.now 6 = omega (arith, rows) in
    c.loop-index.invariant.1 ∙ ap (λ n. map (placed_in c.args.bytes.now c.args.metadata.now) (range_with_len 1 n)) last

pub returns-in-Some-clause-malformed : goal.returns-in-Some-clause-malformed
returns-in-Some-clause-malformed c =
    let rows : c.rows-index-end.result ≡ rows_of c.args.metadata.now 6 = c.rows-index-end.ensures
    ∙ ap (rows_of c.args.metadata.now) c.number.ensures.number in
    let r = c.loop-index.invariant.0 in
    malformed_fault c.args.bytes.now c.args.metadata.now (Some c.in-Some.place) (none_unplaced _ _ _ _ _ (omega (arith, rows)) r)
    (first_malformed _ _ _ _ _ (omega (arith, rows)) r ∙ c.in-Some.is)

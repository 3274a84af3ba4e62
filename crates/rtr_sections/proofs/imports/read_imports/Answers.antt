use Rattle.std.proofs.Common.{◌≡◌, ◌+◌, ◌*◌, ◌<◌, ◌∙◌, refl, Some, true, false, ap, sym, arith}
use Rattle.std.proofs.lemmas.Result.{err_from_is_err_and}
use Rattle.rtr_bytes.specs.Checks.{first_record, records}
use Rattle.rtr_bytes.proofs.Tables.{records-more, records-end, first_record-step, first_record-found, first_record-end}
use Rattle.rtr_sections.specs.Imports.{cells_are_placed, has_placed_cells, import_at, import_count, imports_in, unplaced_cells}
use Rattle.rtr_sections.proofs.imports.read_imports.Goals as goal

pub returns-in_err-ensure-clause-fault : goal.returns-in_err-ensure-clause-fault
unfolding unplaced_cells
returns-in_err-ensure-clause-fault c =
    let p = err_from_is_err_and c.from_residual.result c.from_residual.ensures.1 in
    let bytes = c.args.file.now in
    let start = c.args.part.start in
    let i = c.loop-i.i in
    let fault = c.in_err-ensure.ensures.fault in
    let import = c.read-import.ensures in
    let fails : cells_are_placed bytes (start + 20 * i) ≡ false = ap (has_placed_cells bytes) (sym import)
    ∙ sym c.has_placed_cells.ensures ∙ fault.0 in
    let below : i < import_count c.args.part = omega arith in
    let first : first_record (cells_are_placed bytes) start 20 (import_count c.args.part) ≡ Some (start + 20 * i) =
    sym c.loop-i.invariant.checked ∙ first_record-found (cells_are_placed bytes) start 20 (import_count c.args.part) i below fails in
    rw (p.1, p.2, first, fault.1) refl

pub loop-i-preserved : goal.loop-i-preserved
loop-i-preserved c =
    let bytes = c.args.file.now in
    let start = c.args.part.start in
    let n = import_count c.args.part in
    let i = c.loop-i.i in
    let import = c.read-import.ensures in
    let holds : cells_are_placed bytes (start + 20 * i) ≡ true = ap (has_placed_cells bytes) (sym import)
    ∙ sym c.has_placed_cells.ensures ∙ c.in_ok-ensure.ensures.holds in
    let below : i < n = omega arith in
    record {
      read =
          rw c.in_ok-push.ensures.items
          (records-more (import_at bytes) start 20 n i c.loop-i.imports.items
          (records (import_at bytes) start 20 n) c.read-import.result below import c.loop-i.invariant.read);
      checked = sym (first_record-step (cells_are_placed bytes) start 20 n i below holds) ∙ c.loop-i.invariant.checked;
    }

pub returns-clause-ok : goal.returns-clause-ok
unfolding unplaced_cells
returns-clause-ok c =
    sym c.loop-i.invariant.checked
    ∙ first_record-end (cells_are_placed c.args.file.now) (c.args.part.start + 20 * c.loop-i.i) 20 (import_count c.args.part) c.loop-i.i
    (omega arith)

pub returns-clause-imports : goal.returns-clause-imports
unfolding imports_in
returns-clause-imports c =
    let bytes = c.args.file.now in
    let n = import_count c.args.part in
    records-end (import_at bytes) (c.args.part.start + 20 * c.loop-i.i) 20 n c.loop-i.i c.loop-i.imports.items
    (records (import_at bytes) c.args.part.start 20 n) (omega arith) c.loop-i.invariant.read

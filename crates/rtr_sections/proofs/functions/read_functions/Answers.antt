use Rattle.std.proofs.Common.{◌≡◌, ◌+◌, ◌*◌, ◌%◌, ◌==◌, ◌<◌, ◌∙◌, refl, Some, None, true, false, sym, ap, arith, ℕ}
use Rattle.std.proofs.lemmas.Grind.{common_steps}
use Rattle.std.proofs.lemmas.Result.{err_from_is_err_and}
use Rattle.rtr_bytes.specs.Checks.{first_record, records}
use Rattle.rtr_bytes.proofs.Tables.{records-more, records-end, first_record-step, first_record-found, first_record-end}
use Rattle.rtr_sections.specs.Functions.{bad_function, function_at, function_count, function_holds, functions_in, holds_behind}
use Rattle.rtr_sections.proofs.CodeEnds.{end_before-first, end_before-next}
use Rattle.rtr_sections.proofs.functions.read_functions.Goals as goal

pub loop-i-init : goal.loop-i-init
loop-i-init c = record {
  read = grind (arith, common_steps);
  checked = grind (arith, common_steps);
  behind = sym (end_before-first c.args.file.now c.args.part.start);
}

pub returns-in_err-ensure-clause-fault : goal.returns-in_err-ensure-clause-fault
unfolding bad_function
returns-in_err-ensure-clause-fault c =
    let p = err_from_is_err_and c.from_residual.result c.from_residual.ensures.1 in
    let fault = c.in_err-ensure.ensures.fault in
    rw (p.1, p.2, fault.1, fault.0) refl

pub returns-in_err-function-clause-fault : goal.returns-in_err-function-clause-fault
unfolding bad_function
returns-in_err-function-clause-fault c =
    let p = err_from_is_err_and c.from_residual-in_err-function.result c.from_residual-in_err-function.ensures.1 in
    let bytes = c.args.file.now in
    let start = c.args.part.start in
    let i = c.loop-i.i in
    let n = function_count c.args.part in
    let fault = c.in_err-function.ensures.fault in
    let below : i < n = omega arith in
    let fails : function_holds bytes start (start + 8 * i) ≡ false =
    ap (λ (low : ℕ). holds_behind bytes low (start + 8 * i)) (sym c.loop-i.invariant.behind) ∙ fault.0 in
    let first : first_record (function_holds bytes start) start 8 n ≡ Some (start + 8 * i) =
    sym c.loop-i.invariant.checked ∙ first_record-found (function_holds bytes start) start 8 n i below fails in
    let whole : (c.args.part.len % 8 == 0) ≡ true = c.in_ok-ensure.ensures.holds in
    rw (p.1, p.2, whole, first, fault.1) refl

pub loop-i-preserved : goal.loop-i-preserved
loop-i-preserved c =
    let bytes = c.args.file.now in
    let start = c.args.part.start in
    let i = c.loop-i.i in
    let n = function_count c.args.part in
    let read = c.in_ok-function.ensures in
    let below : i < n = omega arith in
    let holds : function_holds bytes start (start + 8 * i) ≡ true =
    ap (λ (low : ℕ). holds_behind bytes low (start + 8 * i)) (sym c.loop-i.invariant.behind) ∙ read.holds in
    record {
      read =
          rw c.in_ok-push.ensures.items
          (records-more (function_at bytes) start 8 n i c.loop-i.functions.items
          (records (function_at bytes) start 8 n) c.in_ok-function.function below read.function c.loop-i.invariant.read);
      checked = sym (first_record-step (function_holds bytes start) start 8 n i below holds) ∙ c.loop-i.invariant.checked;
      behind = c.end-low.ensures ∙ end_before-next bytes start i c.in_ok-function.function read.function;
    }

pub returns-clause-ok : goal.returns-clause-ok
unfolding bad_function
returns-clause-ok c =
    let bytes = c.args.file.now in
    let start = c.args.part.start in
    let n = function_count c.args.part in
    let whole : (c.args.part.len % 8 == 0) ≡ true = c.in_ok-ensure.ensures.holds in
    let none : first_record (function_holds bytes start) start 8 n ≡ None =
    sym c.loop-i.invariant.checked ∙ first_record-end (function_holds bytes start) (start + 8 * c.loop-i.i) 8 n c.loop-i.i (omega arith) in
    rw (whole, none) refl

pub returns-clause-functions : goal.returns-clause-functions
unfolding functions_in
returns-clause-functions c =
    let bytes = c.args.file.now in
    let n = function_count c.args.part in
    records-end (function_at bytes) (c.args.part.start + 8 * c.loop-i.i) 8 n c.loop-i.i c.loop-i.functions.items
    (records (function_at bytes) c.args.part.start 8 n) (omega arith) c.loop-i.invariant.read

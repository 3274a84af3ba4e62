use Rattle.std.proofs.Common.{◌≡◌, ◌+◌, ◌*◌, ◌-◌, ◌++◌}
use Rattle.rtr_bytes.specs.Checks.{first_record, records}
use Rattle.rtr_sections.specs.Functions.{end_before, function_at, function_count, function_holds}
use Rattle.rtr_sections.proofs.functions.read_functions.Given as goal

abbrev pub invariant-loop-i : goal.invariant-loop-i
invariant-loop-i l =
    let start = l.part.start in
    let at = start + 8 * l.i in
    let left = function_count l.part - l.i in
    record {
      -- what was read and what is left are all of the entries
      read : l.functions.items ++ records (function_at l.file) at 8 left ≡ records (function_at l.file) start 8 (function_count l.part);
      -- the first bad one is among those that are left
      checked : first_record (function_holds l.file start) at 8 left ≡ first_record (function_holds l.file start) start 8
          (function_count l.part);
      behind : l.low ≡ end_before l.file start at;
    }

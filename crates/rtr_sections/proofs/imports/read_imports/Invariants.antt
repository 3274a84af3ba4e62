use Rattle.std.proofs.Common.{◌≡◌, ◌+◌, ◌*◌, ◌-◌, ◌++◌}
use Rattle.rtr_bytes.specs.Checks.{first_record, records}
use Rattle.rtr_sections.specs.Imports.{cells_are_placed, import_at, import_count}
use Rattle.rtr_sections.proofs.imports.read_imports.Given as goal

abbrev pub invariant-loop-i : goal.invariant-loop-i
invariant-loop-i l =
    let at = l.part.start + 20 * l.i in
    let left = import_count l.part - l.i in
    record {
      -- what was read and what is left are all of the records
      read : l.imports.items ++ records (import_at l.file) at 20 left ≡ records (import_at l.file) l.part.start 20 (import_count l.part);
      -- the first bad one is among those that are left
      checked : first_record (cells_are_placed l.file) at 20 left ≡ first_record (cells_are_placed l.file) l.part.start 20
          (import_count l.part);
    }

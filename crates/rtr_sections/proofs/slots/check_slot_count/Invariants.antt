use Rattle.std.proofs.Common.{◌≡◌, ◌≤◌, take}
use Rattle.std.specs.Prelude.{sum_by}
use Rattle.rtr_sections.specs.Imports.{slot_count}
use Rattle.rtr_sections.proofs.slots.check_slot_count.Given as goal

abbrev pub invariant-loop-import : goal.invariant-loop-import
invariant-loop-import l = record {
  counted : l.count ≡ sum_by slot_count (take l.import-index l.imports);
  few : l.count ≤ l.room;
}

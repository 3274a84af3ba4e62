use Rattle.std.proofs.Common.{◌≡◌, ◌+◌, take}
use Rattle.std.specs.Prelude.{sum_by}
use Rattle.rtr_sections.specs.Imports.{slot_count}
use Rattle.rtr_sections.proofs.plan.have_slots.Given as goal

abbrev pub invariant-loop-import : goal.invariant-loop-import
invariant-loop-import l = l.left + sum_by slot_count (take l.import-index l.imports) ≡ l.slots

use Rattle.std.proofs.Common.{drop}
use Rattle.std.specs.Prelude.{◌↔◌}
use Rattle.native_format.specs.Nibbles.{AscendFrom}
use Rattle.rtr_sections.specs.Plan.{SlotsAscend}
use Rattle.rtr_sections.proofs.plan.slots_ascend.Given as goal

-- those that are left decide
abbrev pub invariant-loop-slot : goal.invariant-loop-slot
invariant-loop-slot l = AscendFrom l.last (drop l.slot-index l.others) ↔ SlotsAscend l.fn.slots

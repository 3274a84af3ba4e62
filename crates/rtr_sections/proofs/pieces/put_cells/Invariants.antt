use Rattle.std.proofs.Common.{◌≡◌, ◌++◌, ◌<◌, ◌^◌, drop, take, All}
use Rattle.rtr_sections.specs.Parts.{cell_bytes}
use Rattle.rtr_sections.proofs.pieces.put_cells.Given as goal

abbrev pub invariant-loop-slot : goal.invariant-loop-slot
invariant-loop-slot l = record {
  -- what was put and what is left are all
  put : l.out.items ++ cell_bytes (drop l.slot-index l.slots) ≡ l.initial.out.items ++ cell_bytes l.slots;
  words : All (λ s. s.word < 2 ^ 64) (take l.slot-index l.slots);
}

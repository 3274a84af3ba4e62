use Rattle.std.proofs.Common.{◌≡◌, ◌+◌, ◌-◌, ℕ, length, map, nat_eq}
use Rattle.std.specs.List.{range_with_len}
use Rattle.indexmap.specs.IndexMap.{get}
use Rattle.type_world.specs.RowIndex.{row_after, row_with}
use Rattle.type_world.proofs.row_index.RowIndex.of.Given as goal

abbrev pub invariant-loop-after : goal.invariant-loop-after
invariant-loop-after l = record {
  firsts : (key : ℕ) → get nat_eq l.first key ≡ row_with l.keys.items key (length l.keys.items + 1 - l.after);
  nexts : l.next.items ≡ map (λ after. row_after l.keys.items (length l.keys.items - after)) (range_with_len 0 l.after);
}

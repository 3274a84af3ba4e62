use Rattle.std.proofs.Common.{◌≡◌, ℕ, List, length, map, take}
use Rattle.asm_builder.proofs.layout.Sizes.of.Given as goal

abbrev pub invariant-loop-table : goal.invariant-loop-table
invariant-loop-table l = l.rows.items ≡ map (λ (r : List (List ℕ)). length r) (take l.table-index l.tables)

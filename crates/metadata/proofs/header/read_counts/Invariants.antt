use Rattle.std.proofs.Common.{◌≡◌, ℕ, List, map}
use Rattle.std.specs.List.{range_with_len}
use Rattle.metadata.specs.Tables.{count_at, row_count}
use Rattle.metadata.proofs.header.read_counts.Given as goal

pub record Kept (bytes : List ℕ) (at table : ℕ) (rows : List ℕ) (place : ℕ) : Type 0 where
  pub rows_are : rows ≡ map (row_count bytes at) (range_with_len 0 table)
  pub place_is : place ≡ count_at bytes at table

abbrev pub invariant-loop-table : goal.invariant-loop-table
invariant-loop-table l = Kept l.bytes l.at l.table l.rows.items l.place

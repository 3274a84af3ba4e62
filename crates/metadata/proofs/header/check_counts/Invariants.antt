use Rattle.std.proofs.Common.{◌≡◌, ◌<◌, ◌^◌, ℕ, List}
use Rattle.metadata.specs.Tables.{count_at, row_count}
use Rattle.metadata.specs.Checks.{first_large, is_large}
use Rattle.metadata.proofs.Counts.{found_of}
use Rattle.metadata.proofs.header.check_counts.Given as goal

pub record Kept (bytes : List ℕ) (at table place : ℕ) : Type 0 where
  pub place_is : place ≡ count_at bytes at table
  pub first : found_of (count_at bytes at) (is_large bytes at) table 64 ≡ first_large bytes at
  pub few : (k : ℕ) → k < table → row_count bytes at k < 2 ^ 24

abbrev pub invariant-loop-table : goal.invariant-loop-table
invariant-loop-table l = Kept l.fn.bytes l.at l.table l.place

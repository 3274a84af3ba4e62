use Rattle.std.proofs.Common.{◌≡◌, ◌≤◌, ℕ, Bool, false, List, length, drop, get_or}
use Rattle.std.specs.Prelude.{is_some}
use Rattle.metadata.specs.Heaps.{text_in}
use Rattle.metadata.proofs.texts.Texts.of.Given as goal

-- the places from one on are marked
pub record Marked (at : ℕ) (marks : List Bool) (heap : List ℕ) : Type 0 where
  pub same : length marks ≡ length heap
  pub inside : at ≤ length heap
  pub later : (k : ℕ) → at ≤ k → get_or marks k false ≡ is_some (text_in (drop k heap))

abbrev pub invariant-places : goal.invariant-places
invariant-places l = Marked l.at l.marks.items l.heap

abbrev pub decreases-places : goal.decreases-places
decreases-places l = l.at

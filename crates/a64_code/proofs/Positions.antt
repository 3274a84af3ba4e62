-- The place of a number in a list of numbers.
use Rattle.std.proofs.Common.{◌≡◌, ◌<◌, ℕ, Bool, true, false, List, length, slice_index, position, Some, None, arith}
use Rattle.std.specs.List.{position_or_len}
use Rattle.std.proofs.lemmas.List.Sums.{position_or_len_is}
use Rattle.std.proofs.lemmas.Grind.{common_steps}

-- the first that passes, by its place
pub position_here : (p : ℕ → Bool) (xs : List ℕ) (i : ℕ) → i < length xs
    → ((k : ℕ) → k < i → p (slice_index xs k) ≡ false) → p (slice_index xs i) ≡ true → position p xs ≡ Some i
position_here p xs i within before here =
    let e : position_or_len p xs ≡ i = position_or_len_is p xs i 0 (omega arith) before (λ _. here) in
    grind (arith, common_steps)

-- none passes
pub position_nowhere : (p : ℕ → Bool) (xs : List ℕ) → ((k : ℕ) → k < length xs → p (slice_index xs k) ≡ false) → position p xs ≡ None
position_nowhere p xs before =
    let e : position_or_len p xs ≡ length xs = position_or_len_is p xs (length xs) 0 (omega arith) before (λ h. absurd (omega arith)) in
    grind (arith, common_steps)

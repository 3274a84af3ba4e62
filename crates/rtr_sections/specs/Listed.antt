-- Records in a row, by the list of them: the first that fails a test, and the first out of order.
use Rattle.std.specs.Prelude.{ℕ, ◌+◌, List, [], ◌∷◌, Bool, Option, Some, None, nat_le, if◌then◌else◌}

-- the place of the first that fails a test; the first record is at a place, and each has a size
abbrev pub first_failing : {X : Type 0} → (X → Bool) → ℕ → ℕ → List X → Option ℕ
first_failing test at size [] = None
first_failing test at size (x ∷ xs) = if test x then first_failing test (at + size) size xs else Some at

-- the place of the first that begins below the end of the one before; for the first record that end is `low`
abbrev pub first_overlap : {X : Type 0} → (X → ℕ) → (X → ℕ) → ℕ → ℕ → ℕ → List X → Option ℕ
first_overlap begin end low at size [] = None
first_overlap begin end low at size (x ∷ xs) = if nat_le low (begin x) then first_overlap begin end (end x) (at + size) size xs else Some at

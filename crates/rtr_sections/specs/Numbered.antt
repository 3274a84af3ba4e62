-- Records by their numbers: which are there, and the first place that is bad.
use Rattle.std.specs.Prelude.{ℕ, zero, suc, ◌+◌, List, [], ◌++◌, Option, None}
use Rattle.std.specs.Option.{option_or, option_to_list}

-- those of n records, by their numbers from i on, that are there
abbrev pub present : {X : Type 0} → (ℕ → Option X) → ℕ → ℕ → List X
present record_of i zero = []
present record_of i (suc n) = option_to_list (record_of i) ++ present record_of (i + 1) n

-- the first place that n records, by their numbers from i on, say is bad
abbrev pub first_bad : (ℕ → Option ℕ) → ℕ → ℕ → Option ℕ
first_bad bad_place i zero = None
first_bad bad_place i (suc n) = option_or (bad_place i) (first_bad bad_place (i + 1) n)

-- What a sink is seen as: the bytes that it took, where it exposes them, and a count of its faults.
use Rattle.std.specs.Prelude.{◌≡◌, ℕ, ◌+◌, ◌-◌, ◌^◌, ◌≤◌, List, ◌++◌, take, Option, min}
use Rattle.std.specs.Option.{option_map}

-- a count rose, or is at the last value of its type
abbrev pub Rose : ℕ → ℕ → Type 0
Rose before now = min (before + 1) (2 ^ 64 - 1) ≤ now

-- the piece was appended to what was written, where that is exposed
abbrev pub Appends : List ℕ → Option (List ℕ) → Option (List ℕ) → Type 0
Appends piece old new = new ≡ option_map (λ bytes. bytes ++ piece) old

-- the sink took a prefix of the text, where it exposes its bytes
abbrev pub PrintsFront : {S : Type 0} → (S → Option (List ℕ)) → List ℕ → S → S → Type 0
PrintsFront written text old new = (k : ℕ) × Appends (take k text) (written old) (written new)

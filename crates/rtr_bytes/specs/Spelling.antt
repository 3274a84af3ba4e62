-- Values and their spellings in bytes, by the place where they begin. A relation says which bytes spell a value.
use Rattle.std.specs.Prelude.{◌≡◌, ℕ, ◌+◌, List, ◌++◌, length, drop}

-- a spelling of x begins at a place, and it is the bytes up to the next place
abbrev pub BeginsAt : {X : Type 0} → (List ℕ → X → Type 0) → List ℕ → ℕ → X → ℕ → Type 0
BeginsAt Spells bytes at x next =
    (spelling : List ℕ) × (rest : List ℕ) × (drop at bytes ≡ spelling ++ rest) × Spells spelling x × (next ≡ at + length spelling)

-- no spelling begins another, and none is of two values: so at a place there is one at most
abbrev pub NoneBeginsAnother : {X : Type 0} → (List ℕ → X → Type 0) → Type 0
NoneBeginsAnother {X = X} Spells =
    (a b more rest : List ℕ) (x y : X) → Spells a x → Spells b y → a ++ more ≡ b ++ rest → (a ≡ b) × (x ≡ y)

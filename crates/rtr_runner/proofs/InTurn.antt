-- A list whose elements are changed in turn.
use Rattle.std.proofs.Common.{◌≡◌, ℕ, zero, suc, ◌<◌, List, [], ◌∷◌, map, length, get_or, set, refl, ap, arith}

-- the first so many are changed
abbrev pub in_turn : {X : Type 0} → (X → X) → ℕ → List X → List X
in_turn f zero xs = xs
in_turn f (suc i) [] = []
in_turn f (suc i) (x ∷ xs) = f x ∷ in_turn f i xs

module _ {X : Type 0} (f : X → X) where
  -- the next one is as it was
  pub unchanged : (i : ℕ) (xs : List X) (d : X) → get_or (in_turn f i xs) i d ≡ get_or xs i d
  unchanged zero xs d = refl
  unchanged (suc i) [] d = refl
  unchanged (suc i) (x ∷ xs) d = unchanged i xs d

  pub changed : (i : ℕ) (xs : List X) (d : X) → i < length xs → set (in_turn f i xs) i (f (get_or xs i d)) ≡ in_turn f (suc i) xs
  changed zero [] d h = absurd (omega arith)
  changed zero (x ∷ xs) d h = refl
  changed (suc i) [] d h = absurd (omega arith)
  changed (suc i) (x ∷ xs) d h = ap (λ (rest : List X). f x ∷ rest) (changed i xs d (omega arith))

  pub all_changed : (xs : List X) → in_turn f (length xs) xs ≡ map f xs
  all_changed [] = refl
  all_changed (x ∷ xs) = ap (λ (rest : List X). f x ∷ rest) (all_changed xs)

  pub same_length : (i : ℕ) (xs : List X) → length (in_turn f i xs) ≡ length xs
  same_length zero xs = refl
  same_length (suc i) [] = refl
  same_length (suc i) (x ∷ xs) = ap suc (same_length i xs)

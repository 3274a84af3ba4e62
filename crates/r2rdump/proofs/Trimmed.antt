-- Trailing zeros, from the end.
use Rattle.std.proofs.Common.{◌+◌, ◌-◌, ◌<◌, ◌≤◌, length, take, get_or, arith, ◌≡◌, ◌≢◌, ℕ, ◌==◌, ◌&&◌, Bool, true}
use Rattle.std.proofs.Common.{false, cond, List, [], ◌∷◌, ◌++◌, refl, sym, ap, ◌∙◌}
use Rattle.std.specs.List.{list_all}
use Rattle.std.proofs.lemmas.List.Folds.{list_all-append}
use Rattle.std.proofs.lemmas.Bool.{ne_eqb}
use Rattle.std.proofs.lemmas.List.{take_more}
use Rattle.r2rdump.specs.Text.{trimmed}

abbrev is_zero : ℕ → Bool
is_zero c = c == 0

and_true : (b t : Bool) → t ≡ true → (b && t) ≡ b
and_true true t e = e
and_true false t e = refl

and_false : (b : Bool) → (b && false) ≡ false
and_false true = refl
and_false false = refl

-- one more zero changes nothing
pub trimmed-zero : (xs : List ℕ) → trimmed (xs ++ 0 ∷ []) ≡ trimmed xs
trimmed-zero [] = refl
trimmed-zero (x ∷ xs) =
    let all : list_all is_zero ((x ∷ xs) ++ 0 ∷ []) ≡ list_all is_zero (x ∷ xs) = list_all-append is_zero (x ∷ xs) (0 ∷ [])
    ∙ and_true (list_all is_zero (x ∷ xs)) (list_all is_zero (0 ∷ [])) refl in
    ap (λ (b : Bool). cond b [] (x ∷ trimmed (xs ++ 0 ∷ []))) all
    ∙ ap (λ (ys : List ℕ). cond (list_all is_zero (x ∷ xs)) [] (x ∷ ys)) (trimmed-zero xs)

-- what ends with another byte has no trailing zero
pub trimmed-other : (xs : List ℕ) (b : ℕ) → b ≢ 0 → trimmed (xs ++ b ∷ []) ≡ xs ++ b ∷ []
trimmed-other [] b h = rw (ne_eqb b 0 h) refl
trimmed-other (x ∷ xs) b h =
    let all : list_all is_zero ((x ∷ xs) ++ b ∷ []) ≡ false = list_all-append is_zero (x ∷ xs) (b ∷ [])
    ∙ rw (ne_eqb b 0 h) (and_false (list_all is_zero (x ∷ xs))) in
    ap (λ (t : Bool). cond t [] (x ∷ trimmed (xs ++ b ∷ []))) all ∙ ap (λ (ys : List ℕ). x ∷ ys) (trimmed-other xs b h)

-- the last element of a front
take-last : (xs : List ℕ) (n : ℕ) → 0 < n → n ≤ length xs → take n xs ≡ take (n - 1) xs ++ get_or xs (n - 1) 0 ∷ []
take-last xs n h k =
    let step : n - 1 + 1 ≡ n = omega arith in
    ap (λ (m : ℕ). take m xs) (sym step) ∙ take_more xs (n - 1) 0 (omega arith)

-- the same from a front of a list
pub trimmed-take_zero : (xs : List ℕ) (n : ℕ) → 0 < n → n ≤ length xs → get_or xs (n - 1) 0 ≡ 0
    → trimmed (take (n - 1) xs) ≡ trimmed (take n xs)
trimmed-take_zero xs n h k e =
    let more : take n xs ≡ take (n - 1) xs ++ 0 ∷ [] = take-last xs n h k ∙ ap (λ (b : ℕ). take (n - 1) xs ++ b ∷ []) e in
    sym (ap trimmed more ∙ trimmed-zero (take (n - 1) xs))

pub trimmed-take_other : (xs : List ℕ) (n : ℕ) → 0 < n → n ≤ length xs → get_or xs (n - 1) 0 ≢ 0 → trimmed (take n xs) ≡ take n xs
trimmed-take_other xs n h k e =
    let more = take-last xs n h k in
    ap trimmed more ∙ trimmed-other (take (n - 1) xs) (get_or xs (n - 1) 0) e ∙ sym more

pub trimmed-take_none : (xs : List ℕ) (n : ℕ) → n ≡ 0 → trimmed (take n xs) ≡ take n xs
trimmed-take_none xs n e = rw e refl

-- One step over records by their numbers, of which i are done.
use Rattle.std.proofs.Common.{◌≡◌, ℕ, suc, ◌+◌, ◌-◌, ◌<◌, ◌≤◌, List, [], ◌∷◌, ◌++◌, Option, Some, None, refl, append_assoc, append-nil}
use Rattle.std.proofs.Common.{arith}
use Rattle.rtr_sections.specs.Numbered.{present, first_bad}

pub first_bad-step : (f : ℕ → Option ℕ) (n i : ℕ) → i < n → f i ≡ None → first_bad f i (n - i) ≡ first_bad f (i + 1) (n - (i + 1))
first_bad-step f n i h e =
    let left : n - i ≡ suc (n - (i + 1)) = omega arith in
    rw (left, e) refl

pub first_bad-found : (f : ℕ → Option ℕ) (n i place : ℕ) → i < n → f i ≡ Some place → first_bad f i (n - i) ≡ Some place
first_bad-found f n i place h e =
    let left : n - i ≡ suc (n - (i + 1)) = omega arith in
    rw (left, e) refl

pub first_bad-end : (f : ℕ → Option ℕ) (n i : ℕ) → n ≤ i → first_bad f i (n - i) ≡ None
first_bad-end f n i h =
    let none : n - i ≡ 0 = omega arith in
    rw none refl

-- one more record was read, or there is none of this number: with what is left they are still all
pub present-more : {X : Type 0} (f : ℕ → Option X) (n i : ℕ) (front all : List X) (x : X) → i < n → f i ≡ Some x
    → front ++ present f i (n - i) ≡ all → (front ++ x ∷ []) ++ present f (i + 1) (n - (i + 1)) ≡ all
present-more f n i front all x h e told =
    let left : n - i ≡ suc (n - (i + 1)) = omega arith in
    rw append_assoc (rw (left, e) at told)

pub present-none : {X : Type 0} (f : ℕ → Option X) (n i : ℕ) (front all : List X) → i < n → f i ≡ None
    → front ++ present f i (n - i) ≡ all → front ++ present f (i + 1) (n - (i + 1)) ≡ all
present-none f n i front all h e told =
    let left : n - i ≡ suc (n - (i + 1)) = omega arith in
    rw (left, e) at told

-- none is left
pub present-end : {X : Type 0} (f : ℕ → Option X) (n i : ℕ) (front all : List X) → n ≤ i → front ++ present f i (n - i) ≡ all → front ≡ all
present-end f n i front all h told =
    let none : n - i ≡ 0 = omega arith in
    rw (none, append-nil) at told

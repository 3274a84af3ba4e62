-- One step through a table: n records of a size, of which i were read.
use Rattle.std.proofs.Common.{◌≡◌, ℕ, suc, ◌+◌, ◌*◌, ◌-◌, ◌<◌, ◌≤◌, Bool, true, false, List, [], ◌∷◌, ◌++◌, Some, None}
use Rattle.std.proofs.Common.{refl, append_assoc, append-nil, arith}
use Rattle.rtr_bytes.specs.Checks.{first_record, records}

pub records-step : {X : Type 0} (f : ℕ → X) (start size n i : ℕ) → i < n
    → records f (start + size * i) size (n - i) ≡ f (start + size * i) ∷ records f (start + size * (i + 1)) size (n - (i + 1))
records-step f start size n i h =
    let left : n - i ≡ suc (n - (i + 1)) = omega arith in
    let next : start + size * i + size ≡ start + size * (i + 1) = omega arith in
    rw (left, next) refl

pub first_record-step : (test : ℕ → Bool) (start size n i : ℕ) → i < n → test (start + size * i) ≡ true
    → first_record test (start + size * i) size (n - i) ≡ first_record test (start + size * (i + 1)) size (n - (i + 1))
first_record-step test start size n i h holds =
    let left : n - i ≡ suc (n - (i + 1)) = omega arith in
    let next : start + size * i + size ≡ start + size * (i + 1) = omega arith in
    rw (left, next, holds) refl

pub first_record-found : (test : ℕ → Bool) (start size n i : ℕ) → i < n → test (start + size * i) ≡ false
    → first_record test (start + size * i) size (n - i) ≡ Some (start + size * i)
first_record-found test start size n i h fails =
    let left : n - i ≡ suc (n - (i + 1)) = omega arith in
    rw (left, fails) refl

-- one more record was read: with what is left they are still all
pub records-more : {X : Type 0} (f : ℕ → X) (start size n i : ℕ) (front all : List X) (x : X) → i < n
    → x ≡ f (start + size * i) → front ++ records f (start + size * i) size (n - i) ≡ all
    → (front ++ x ∷ []) ++ records f (start + size * (i + 1)) size (n - (i + 1)) ≡ all
records-more f start size n i front all x h e told =
    rw (append_assoc, e) (rw (records-step f start size n i h) at told)

-- none is left: what was read is all, and none of what is left fails
pub records-end : {X : Type 0} (f : ℕ → X) (at size n i : ℕ) (front all : List X) → n ≤ i
    → front ++ records f at size (n - i) ≡ all → front ≡ all
records-end f at size n i front all h told =
    let none : n - i ≡ 0 = omega arith in
    rw (none, append-nil) at told

pub first_record-end : (test : ℕ → Bool) (at size n i : ℕ) → n ≤ i → first_record test at size (n - i) ≡ None
first_record-end test at size n i h =
    let none : n - i ≡ 0 = omega arith in
    rw none refl

-- The first answer to numbers in a row, one number at a time.
use Rattle.std.proofs.Common.{◌≡◌, ℕ, suc, ◌+◌, ◌-◌, ◌<◌, Option, Some, None, Ok, Err, refl, sym, ap, ◌∙◌, arith}
use Rattle.rtr_bytes.specs.declared.fault.Fault.{Fault}
use Rattle.metadata.specs.Checks.{first_of, or_else}
use Rattle.metadata.specs.Kept.{IsJudged}

step : (answer : ℕ → Option ℕ) (from n : ℕ) → first_of answer from (suc n) ≡ or_else (answer from) (first_of answer (from + 1) n)
unfolding first_of
step answer from n = refl

-- the answers from the i-th number on, of n numbers
first_more : (answer : ℕ → Option ℕ) (base i n : ℕ) → i < n
    → first_of answer (base + i) (n - i) ≡ or_else (answer (base + i)) (first_of answer (base + (i + 1)) (n - (i + 1)))
first_more answer base i n lt =
    let more : n - i ≡ suc (n - (i + 1)) = omega arith in
    let next : base + i + 1 ≡ base + (i + 1) = omega arith in
    ap (λ k. first_of answer (base + i) k) more ∙ step answer (base + i) (n - (i + 1))
    ∙ ap (λ k. or_else (answer (base + i)) (first_of answer k (n - (i + 1)))) next

first_end : (answer : ℕ → Option ℕ) (from n : ℕ) → n ≡ 0 → first_of answer from n ≡ None
unfolding first_of
first_end answer from n none = ap (first_of answer from) none

or_none : (a : Option ℕ) → or_else a None ≡ a
or_none None = refl
or_none (Some x) = refl

or_assoc : (a b c : Option ℕ) → or_else (or_else a b) c ≡ or_else a (or_else b c)
or_assoc None b c = refl
or_assoc (Some x) b c = refl

-- What is known once i of n numbers were judged: the first bad one is among those that are left, and so is the first that
-- falls where none is known.
pub record Judging (bad falls : ℕ → Option ℕ) (base n i : ℕ) (start now : Option ℕ) : Type 0 where
  pub bad_left : first_of bad (base + i) (n - i) ≡ first_of bad base n
  pub falls_left : or_else now (first_of falls (base + i) (n - i)) ≡ or_else start (first_of falls base n)

pub judging_none : (bad falls : ℕ → Option ℕ) (base n : ℕ) (start : Option ℕ) → Judging bad falls base n 0 start start
judging_none bad falls base n start =
    let at : base + 0 ≡ base = omega arith in
    let left : n - 0 ≡ n = omega arith in
    record {
      bad_left = ap (λ k. first_of bad k (n - 0)) at ∙ ap (first_of bad base) left;
      falls_left = ap (λ k. or_else start (first_of falls k (n - 0))) at ∙ ap (λ k. or_else start (first_of falls base k)) left;
    }

pub judging_more : (bad falls : ℕ → Option ℕ) (base n i at : ℕ) (start now after : Option ℕ) → i < n → at ≡ base + i
    → Judging bad falls base n i start now → IsJudged (bad at) (falls at) now (Ok after) → Judging bad falls base n (i + 1) start after
judging_more bad falls base n i at start now after lt at_is j (good, after_is) =
    let rest_bad = first_of bad (base + (i + 1)) (n - (i + 1)) in
    let rest_falls = first_of falls (base + (i + 1)) (n - (i + 1)) in
    record {
      bad_left =
          sym (first_more bad base i n lt ∙ ap (λ k. or_else (bad k) rest_bad) (sym at_is)
          ∙ ap (λ o. or_else o rest_bad) good) ∙ j.bad_left;
      falls_left =
          ap (λ o. or_else o rest_falls) after_is
          ∙ or_assoc now (falls at) rest_falls
          ∙ ap (λ k. or_else now (or_else (falls k) rest_falls)) at_is
          ∙ ap (or_else now) (sym (first_more falls base i n lt))
          ∙ j.falls_left;
    }

pub judging_all : (bad falls : ℕ → Option ℕ) (base n i : ℕ) (start now : Option ℕ) → i ≡ n
    → Judging bad falls base n i start now → IsJudged (first_of bad base n) (first_of falls base n) start (Ok now)
judging_all bad falls base n i start now all j =
    let none : n - i ≡ 0 = omega arith in (
      sym j.bad_left ∙ first_end bad (base + i) (n - i) none,
      sym (ap (or_else now) (first_end falls (base + i) (n - i) none) ∙ or_none now) ∙ j.falls_left,
    )

pub judging_bad : (bad falls : ℕ → Option ℕ) (base n i at : ℕ) (start now : Option ℕ) (fault : Fault) → i < n
    → at ≡ base + i → Judging bad falls base n i start now → IsJudged (bad at) (falls at) now (Err fault)
    → IsJudged (first_of bad base n) (first_of falls base n) start (Err fault)
judging_bad bad falls base n i at start now fault lt at_is j (number, found) =
    let rest = first_of bad (base + (i + 1)) (n - (i + 1)) in
    (number, sym j.bad_left ∙ first_more bad base i n lt ∙ ap (λ k. or_else (bad k) rest) (sym at_is) ∙ ap (λ o. or_else o rest) found)

-- The first answer to the rows from 1 on, row by row.
use Rattle.std.proofs.Common.{◌≡◌, ℕ, suc, ◌+◌, ◌-◌, ◌<◌, ◌≤◌, Option, Some, None, refl, sym, ap, ◌∙◌, arith}
use Rattle.metadata.specs.Checks.{first_of, or_else}

step : (answer : ℕ → Option ℕ) (from n : ℕ) → first_of answer from (suc n) ≡ or_else (answer from) (first_of answer (from + 1) n)
unfolding first_of
step answer from n = refl

-- the answers after i of n rows
more : (answer : ℕ → Option ℕ) (i n : ℕ) → i < n
    → first_of answer (1 + i) (n - i) ≡ or_else (answer (i + 1)) (first_of answer (1 + (i + 1)) (n - (i + 1)))
more answer i n lt =
    let left : n - i ≡ suc (n - (i + 1)) = omega arith in
    let next : 1 + i + 1 ≡ 1 + (i + 1) = omega arith in
    let here : 1 + i ≡ i + 1 = omega arith in
    ap (λ k. first_of answer (1 + i) k) left
    ∙ step answer (1 + i) (n - (i + 1))
    ∙ ap (λ k. or_else (answer (1 + i)) (first_of answer k (n - (i + 1)))) next
    ∙ ap (λ k. or_else (answer k) (first_of answer (1 + (i + 1)) (n - (i + 1)))) here

end : (answer : ℕ → Option ℕ) (from n : ℕ) → n ≡ 0 → first_of answer from n ≡ None
unfolding first_of
end answer from n none = ap (first_of answer from) none

or_none : (a : Option ℕ) → or_else a None ≡ a
or_none None = refl
or_none (Some x) = refl

or_assoc : (a b c : Option ℕ) → or_else (or_else a b) c ≡ or_else a (or_else b c)
or_assoc None b c = refl
or_assoc (Some x) b c = refl

-- What is known once i of n rows were read: the first that is not placed is among those that are left, and so is the first malformed
-- one where none is known.
pub record Reading (unplaced malformed : ℕ → Option ℕ) (n i : ℕ) (known : Option ℕ) : Type 0 where
  pub unplaced_left : first_of unplaced (1 + i) (n - i) ≡ first_of unplaced 1 n
  pub malformed_left : or_else known (first_of malformed (1 + i) (n - i)) ≡ first_of malformed 1 n

pub reading_none : (unplaced malformed : ℕ → Option ℕ) (n : ℕ) → Reading unplaced malformed n 0 None
reading_none unplaced malformed n =
    let left : n - 0 ≡ n = omega arith in
    record { unplaced_left = ap (first_of unplaced 1) left; malformed_left = ap (first_of malformed 1) left }

pub reading_more : (unplaced malformed : ℕ → Option ℕ) (n i : ℕ) (known found after : Option ℕ) → i < n
    → Reading unplaced malformed n i known
    → unplaced (i + 1) ≡ None → found ≡ malformed (i + 1) → after ≡ or_else known found → Reading unplaced malformed n (i + 1) after
reading_more unplaced malformed n i known found after lt r placed is all =
    let rest = first_of malformed (1 + (i + 1)) (n - (i + 1)) in
    record {
      unplaced_left = sym (ap (λ o. or_else o (first_of unplaced (1 + (i + 1)) (n - (i + 1)))) placed)
          ∙ sym (more unplaced i n lt) ∙ r.unplaced_left;
      malformed_left =
          ap (λ o. or_else o rest) (all ∙ ap (or_else known) is)
          ∙ or_assoc known (malformed (i + 1)) rest
          ∙ ap (or_else known) (sym (more malformed i n lt))
          ∙ r.malformed_left;
    }

-- a row whose body is not placed is the first
pub first_unplaced : (unplaced malformed : ℕ → Option ℕ) (n i at : ℕ) (known : Option ℕ) → i < n → Reading unplaced malformed n i known
    → unplaced (i + 1) ≡ Some at → first_of unplaced 1 n ≡ Some at
first_unplaced unplaced malformed n i at known lt r found =
    sym r.unplaced_left ∙ more unplaced i n lt ∙ ap (λ o. or_else o (first_of unplaced (1 + (i + 1)) (n - (i + 1)))) found

-- after the last row
pub none_unplaced : (unplaced malformed : ℕ → Option ℕ) (n i : ℕ) (known : Option ℕ) → n ≤ i
    → Reading unplaced malformed n i known → first_of unplaced 1 n ≡ None
none_unplaced unplaced malformed n i known last r = sym r.unplaced_left ∙ end unplaced (1 + i) (n - i) (omega (arith, last))

pub first_malformed : (unplaced malformed : ℕ → Option ℕ) (n i : ℕ) (known : Option ℕ) → n ≤ i
    → Reading unplaced malformed n i known → first_of malformed 1 n ≡ known
first_malformed unplaced malformed n i known last r =
    sym r.malformed_left ∙ ap (or_else known) (end malformed (1 + i) (n - i) (omega (arith, last))) ∙ or_none known

-- A row that is in order: what is written by it is read by it, and nothing else.
use Rattle.std.proofs.Common.{◌≡◌, ◌<◌, ◌+◌, ◌^◌, ◌==◌, ◌&&◌, ℕ, Bool, true, false, not, nat_lt, List, [], ◌∷◌, length}
use Rattle.std.proofs.Common.{zero, suc, refl, sym, ap, ◌∙◌, arith, bit_and, slice_index, position, Some}
use Rattle.std.proofs.Common.{option_and_then}
use Rattle.std.specs.List.{list_all}
use Rattle.std.proofs.lemmas.Bool.{eqb-true, eq-eqb, ltb-true}
use Rattle.a64_code.proofs.Positions.{position_here}
use Rattle.a64_code.proofs.Held.{Apart, both, are_apart, held_back, fixed_bits, word_below}
use Rattle.a64_code.specs.Table.{Row}
use Rattle.a64_code.specs.Words.{bits, held, covered, mask, spread, Fit, allowed, by_row}

-- the fields share no bit, and the bases are words that share none with them
abbrev pub is_base : ℕ → ℕ → Bool
is_base taken base = nat_lt base (2 ^ 32) && (bit_and base taken == 0)

-- all numbers of a list differ
abbrev pub are_distinct : List ℕ → Bool
are_distinct [] = true
are_distinct (n ∷ ns) = list_all (λ m. not (n == m)) ns && are_distinct ns

abbrev pub in_order : Row → Bool
in_order row =
    are_apart row.fields && (nat_lt (covered row.fields) (2 ^ 32)
    && (list_all (is_base (covered row.fields)) row.bases && are_distinct row.bases))

-- what a test of all elements says of one of them
pub all_at : (p : ℕ → Bool) (xs : List ℕ) (k : ℕ) → list_all p xs ≡ true → k < length xs → p (slice_index xs k) ≡ true
all_at p [] k h within = absurd (omega arith)
all_at p (x ∷ xs) zero h within = (both (p x) (list_all p xs) h).0
all_at p (x ∷ xs) (suc k) h within = all_at p xs k (both (p x) (list_all p xs) h).1 (omega arith)

distinct_at : (xs : List ℕ) (j k : ℕ) → are_distinct xs ≡ true → j < k → k < length xs → (slice_index xs j == slice_index xs k) ≡ false
distinct_at [] j k h before within = absurd (omega arith)
distinct_at (x ∷ xs) zero (suc k) h before within =
    negated (x == slice_index xs k) (all_at (λ m. not (x == m)) xs k (both _ (are_distinct xs) h).0 (omega arith))
  where
    negated : (b : Bool) → not b ≡ true → b ≡ false
    negated false e = refl
    negated true e = absurd (cc)
distinct_at (x ∷ xs) (suc j) (suc k) h before within =
    distinct_at xs j k (both (list_all (λ m. not (x == m)) xs) (are_distinct xs) h).1 (omega arith) (omega arith)
distinct_at (x ∷ xs) j zero h before within = absurd (omega arith)

pub record InOrder (row : Row) : Type 0 where
  pub apart : are_apart row.fields ≡ true
  pub small : covered row.fields < 2 ^ 32
  pub words : (k : ℕ) → k < length row.bases → slice_index row.bases k < 2 ^ 32
  pub clear : (k : ℕ) → k < length row.bases → Apart (slice_index row.bases k) (covered row.fields)
  pub distinct : (j k : ℕ) → j < k → k < length row.bases → (slice_index row.bases j == slice_index row.bases k) ≡ false

pub is_in_order : (row : Row) → in_order row ≡ true → InOrder row
is_in_order row h =
    let apart = both (are_apart row.fields) _ h in
    let small = both (nat_lt (covered row.fields) (2 ^ 32)) _ apart.1 in
    let bases = both (list_all (is_base (covered row.fields)) row.bases) _ small.1 in
    let one =
    λ (k : ℕ) (within : k < length row.bases). both (nat_lt (slice_index row.bases k) (2 ^ 32)) _
    (all_at (is_base (covered row.fields)) row.bases k bases.0 within) in
    record {
      apart = apart.0;
      small = ltb-true _ _ small.0;
      words = λ k within. ltb-true _ _ (one k within).0;
      clear = λ k within. eqb-true _ _ (one k within).1;
      distinct = λ j k before within. distinct_at row.bases j k bases.1 before within;
    }

-- ---- what is written by a row is read by it

abbrev pub written : Row → ℕ → List ℕ → ℕ
written row base values = slice_index row.bases base + spread row.fields values

pub written_fixed : (row : Row) → InOrder row → (base : ℕ) (values : List ℕ) → base < length row.bases
    → Fit row.fields values → bit_and (written row base values) (mask row.fields) ≡ slice_index row.bases base
written_fixed row o base values within fit =
    fixed_bits (slice_index row.bases base) row.fields values o.apart o.small (o.words base within) (o.clear base within) fit

pub written_below : (row : Row) → InOrder row → (base : ℕ) (values : List ℕ) → base < length row.bases
    → Fit row.fields values → written row base values < 2 ^ 32
written_below row o base values within fit =
    word_below (slice_index row.bases base) row.fields values o.apart o.small (o.words base within) (o.clear base within) fit

pub written_held : (row : Row) → InOrder row → (base : ℕ) (values : List ℕ) → base < length row.bases
    → Fit row.fields values → held (written row base values) row.fields ≡ values
written_held row o base values within fit =
    held_back (slice_index row.bases base) row.fields values o.apart fit (o.clear base within)

-- the base that a word has
pub base_found : (row : Row) → InOrder row → (word base : ℕ) → base < length row.bases
    → bit_and word (mask row.fields) ≡ slice_index row.bases base
    → position (λ b. b == bit_and word (mask row.fields)) row.bases ≡ Some base
base_found row o word base within e =
    position_here (λ b. b == bit_and word (mask row.fields)) row.bases base within
    (λ k before. ap (λ n. slice_index row.bases k == n) e ∙ o.distinct k base before within) (eq-eqb _ _ (sym e))

pub read_back : (row : Row) → InOrder row → (base : ℕ) (values : List ℕ) → base < length row.bases
    → Fit row.fields values → by_row row (written row base values) ≡ allowed (row.inst base (λ field. bits field (written row base values)))
read_back row o base values within fit =
    let word = written row base values in
    ap (option_and_then (λ n. allowed (row.inst n (λ field. bits field word))))
    (base_found row o word base within (written_fixed row o base values within fit))

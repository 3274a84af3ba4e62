-- A search over rows: rows that cannot have a word are passed over.
use Rattle.std.proofs.Common.{◌≡◌, ◌≢◌, subst, ◌<◌, ◌≤◌, ◌+◌, ◌-◌, ◌*◌, ◌/◌, ◌%◌, ◌^◌, ◌==◌, ℕ, Bool, true, false, not}
use Rattle.std.proofs.Common.{cond, List, [], ◌∷◌, ◌++◌, length, zero, suc, refl, sym, ap, ◌∙◌, arith, bit_and}
use Rattle.std.proofs.Common.{slice_index, Some, None, option_and_then}
use Rattle.std.specs.List.{list_all}
use Rattle.std.specs.Option.{option_or}
use Rattle.std.proofs.lemmas.Bool.{eqb-true, eq-eqb, not-true, false_from_ne_true}
use Rattle.std.proofs.lemmas.Nat.{and_comm, and_assoc}
use Rattle.std.proofs.lemmas.Nat.Bits.{and_high}
use Rattle.a64_code.proofs.Positions.{position_nowhere}
use Rattle.a64_code.proofs.Held.{both}
use Rattle.a64_code.proofs.Written.{all_at}
use Rattle.a64_code.specs.declared.inst.Inst.{Inst}
use Rattle.a64_code.specs.Table.{Row}
use Rattle.a64_code.specs.Words.{bits, mask, allowed, by_row, by_rows}

-- none of the bases of a row is what the word has in its fixed bits
pub passed_over : (row : Row) (word : ℕ)
    → ((k : ℕ) → k < length row.bases → (slice_index row.bases k == bit_and word (mask row.fields)) ≡ false) → by_row row word ≡ None
passed_over row word h =
    ap (option_and_then (λ base. allowed (row.inst base (λ field. bits field word))))
    (position_nowhere (λ base. base == bit_and word (mask row.fields)) row.bases h)

-- a test of two numbers that a test made false refutes
refuted : (a b c d : ℕ) → not (c == d) ≡ true → (a ≡ b → c ≡ d) → (a == b) ≡ false
refuted a b c d unlike h =
    false_from_ne_true (a == b) (λ e. differ (sym (eq-eqb c d (h (eqb-true a b e))) ∙ not-true (c == d) unlike))
  where
    differ : true ≡ false → ⊥
    differ d = cc

-- masks one after another, in any order
either_order : (word m n : ℕ) → bit_and (bit_and word m) n ≡ bit_and (bit_and word n) m
either_order word m n = and_assoc n word m ∙ ap (bit_and word) (and_comm m n) ∙ sym (and_assoc m word n)

-- ---- rows of which no word has both

-- in the fixed bits that two rows share, a base of one differs from all bases of the other
abbrev pub base_apart : Row → Row → ℕ → ℕ → Bool
base_apart row other base theirs = not (bit_and theirs (mask row.fields) == bit_and base (mask other.fields))

abbrev pub rows_apart : Row → Row → Bool
rows_apart row other = list_all (λ base. list_all (base_apart row other base) other.bases) row.bases

pub apart_passed : (row other : Row) (word base : ℕ) → rows_apart row other ≡ true → base < length row.bases
    → bit_and word (mask row.fields) ≡ slice_index row.bases base → by_row other word ≡ None
apart_passed row other word base h within e =
    let mine = slice_index row.bases base in
    let all : list_all (base_apart row other mine) other.bases ≡ true =
    all_at (λ b. list_all (base_apart row other b) other.bases) row.bases base h within in
    let shared = λ (theirs : ℕ) (d : theirs ≡ bit_and word (mask other.fields)). ap (λ n. bit_and n (mask row.fields)) d
    ∙ either_order word (mask other.fields) (mask row.fields) ∙ ap (λ n. bit_and n (mask other.fields)) e in
    passed_over other word (λ k below. refuted (slice_index other.bases k) (bit_and word (mask other.fields)) _ _
    (all_at (base_apart row other mine) other.bases k all below) (shared (slice_index other.bases k)))

-- the row that a word has is found after rows apart from it
pub found : (before rest : List Row) (row : Row) (word base : ℕ) (inst : Inst) → list_all (rows_apart row) before ≡ true
    → base < length row.bases → bit_and word (mask row.fields) ≡ slice_index row.bases base
    → by_row row word ≡ Some inst → by_rows (before ++ row ∷ rest) word ≡ Some inst
found [] rest row word base inst h within e here = ap (λ o. option_or o (by_rows rest word)) here
found (other ∷ before) rest row word base inst h within e here =
    let split = both (rows_apart row other) (list_all (rows_apart row) before) h in
    ap (λ o. option_or o (by_rows (before ++ row ∷ rest) word)) (apart_passed row other word base split.0 within e)
    ∙ found before rest row word base inst split.1 within e here

-- ---- groups: the encodings by bits 24 to 28

-- bits 24 to 28
abbrev pub group_bits : ℕ
group_bits = 2 ^ 29 - 2 ^ 24

abbrev pub base_outside : ℕ → ℕ → ℕ → Bool
base_outside group fixed base = not (bit_and base group_bits == bit_and (group * 2 ^ 24) fixed)

-- no word of the group has the row
abbrev pub outside_group : ℕ → Row → Bool
outside_group group row = list_all (base_outside group (mask row.fields)) row.bases

abbrev pub in_group : ℕ → List Row → List Row
in_group group [] = []
in_group group (row ∷ rows) = cond (outside_group group row) (in_group group rows) (row ∷ in_group group rows)

group_passed : (row : Row) (word group : ℕ) → word / 2 ^ 24 % 32 ≡ group → outside_group group row ≡ true → by_row row word ≡ None
group_passed row word group g h =
    let fixed = mask row.fields in
    let shared = λ (base : ℕ) (d : base ≡ bit_and word fixed). ap (λ n. bit_and n group_bits) d
    ∙ either_order word fixed group_bits ∙ ap (λ n. bit_and n fixed) (and_high word 5 24 ∙ ap (λ n. n * 2 ^ 24) g) in
    passed_over row word (λ k below. refuted (slice_index row.bases k) (bit_and word fixed) _ _
    (all_at (base_outside group fixed) row.bases k h below) (shared (slice_index row.bases k)))

-- the rows of a word's group are all that it can have
pub group_alone : (rows : List Row) (word group : ℕ) → word / 2 ^ 24 % 32 ≡ group → by_rows rows word ≡ by_rows (in_group group rows) word
group_alone [] word group g = refl
group_alone (row ∷ rows) word group g =
    let rest = group_alone rows word group g in
    by_test (outside_group group row) refl rest
  where
    by_test : (b : Bool) → outside_group group row ≡ b → by_rows rows word ≡ by_rows (in_group group rows) word
        → by_rows (row ∷ rows) word ≡ by_rows (cond b (in_group group rows) (row ∷ in_group group rows)) word
    by_test true e rest = ap (λ o. option_or o (by_rows rows word)) (group_passed row word group g e) ∙ rest
    by_test false e rest = ap (option_or (by_row row word)) rest

-- so rows that have those of the group in common with others answer the same
pub group_answers : (all rows : List Row) (word group : ℕ) → word / 2 ^ 24 % 32 ≡ group
    → in_group group rows ≡ in_group group all → by_rows rows word ≡ by_rows all word
group_answers all rows word group g same =
    group_alone rows word group g ∙ ap (λ rs. by_rows rs word) same ∙ sym (group_alone all word group g)

-- ---- the same over some groups, one after another

abbrev pub AllFrom : (ℕ → Type 0) → ℕ → ℕ → Type 0
AllFrom P start zero = Unit {0}
AllFrom P start (suc count) = P start × AllFrom P (start + 1) count

from_range : (P : ℕ → Type 0) (start count n : ℕ) → AllFrom P start count → start ≤ n → n < start + count → P n
from_range P start zero n holds low high = absurd (omega arith)
from_range P start (suc count) n holds low high =
    by_test (n == start) refl (λ (above : start + 1 ≤ n). from_range P (start + 1) count n holds.1 above (omega arith))
  where
    by_test : (b : Bool) → (n == start) ≡ b → (start + 1 ≤ n → P n) → P n
    by_test true e later = subst P (sym (eqb-true n start e)) holds.0
    by_test false e later =
        let apart : n ≢ start = λ same. differ (sym e ∙ eq-eqb n start same) in
        later (omega arith)
      where
        differ : false ≡ true → ⊥
        differ d = cc

pub groups_answer : (all rows : List Row) (word start count : ℕ)
    → AllFrom (λ group. in_group group rows ≡ in_group group all) start count → start ≤ word / 2 ^ 24 % 32
    → word / 2 ^ 24 % 32 < start + count → by_rows rows word ≡ by_rows all word
groups_answer all rows word start count same low high =
    group_answers all rows word (word / 2 ^ 24 % 32) refl
    (from_range (λ group. in_group group rows ≡ in_group group all) start count (word / 2 ^ 24 % 32) same low high)

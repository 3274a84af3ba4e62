-- Row counts, one table at a time.
use Rattle.std.proofs.Common.{◌≡◌, ℕ, zero, suc, ◌+◌, ◌-◌, ◌*◌, ◌<◌, ◌≤◌, ◌^◌, Bool, true, false, cond, List, [], ◌∷◌}
use Rattle.std.proofs.Common.{◌++◌, length, map, get_or, Option, Some, None, refl, sym, ap, ◌∙◌, arith, inl, inr}
use Rattle.std.specs.Prelude.{find, sum_by, count_by, ◌&&◌}
use Rattle.std.specs.Option.{option_map}
use Rattle.std.specs.List.{list_all, range_with_len}
use Rattle.std.proofs.lemmas.Bool.{cases_lt, le-ltb, lt-ltb}
use Rattle.std.proofs.lemmas.List.Sums.{sum_by-cons}
use Rattle.std.proofs.lemmas.List.FromFn.{get_or-map-range_with_len, length-map-range_with_len, map-range_with_len_more}
use Rattle.rtr_bytes.specs.Field.{u32_of}
use Rattle.metadata.specs.Tables.{count_at, has_table, row_count, row_counts, tables_below, valid_of}
use Rattle.metadata.specs.Checks.{all_known, first_large, is_large, table_is_known}

-- ---- what is left of some numbers in a row

range_left : (t n : ℕ) → t < n → range_with_len t (n - t) ≡ t ∷ range_with_len (t + 1) (n - (t + 1))
range_left t n h = let left : n - t ≡ suc (n - (t + 1)) = omega arith in ap (range_with_len t) left

none_left : (t n : ℕ) → n ≤ t → range_with_len t (n - t) ≡ []
none_left t n h = let left : n - t ≡ 0 = omega arith in ap (range_with_len t) left

pub all_left : (test : ℕ → Bool) (t n : ℕ) → t < n
    → list_all test (range_with_len t (n - t)) ≡ (test t && list_all test (range_with_len (t + 1) (n - (t + 1))))
all_left test t n h = ap (list_all test) (range_left t n h)

pub all_end : (test : ℕ → Bool) (t n : ℕ) → n ≤ t → list_all test (range_with_len t (n - t)) ≡ true
all_end test t n h = ap (list_all test) (none_left t n h)

pub and_true : (b c : Bool) → b ≡ true → (b && c) ≡ c
and_true true c e = refl
and_true false c e = absurd (let x : ⊥ = cc in x)

pub and_false : (b c : Bool) → b ≡ false → (b && c) ≡ false
and_false true c e = absurd (let x : ⊥ = cc in x)
and_false false c e = refl

-- the first of a test, and what a function makes of it
abbrev pub found_of : (ℕ → ℕ) → (ℕ → Bool) → ℕ → ℕ → Option ℕ
found_of f test t n = option_map f (find test (range_with_len t (n - t)))

pub found_here : (f : ℕ → ℕ) (test : ℕ → Bool) (t n : ℕ) → t < n → test t ≡ true → found_of f test t n ≡ Some (f t)
found_here f test t n h e =
    ap (λ (is : List ℕ). option_map f (find test is)) (range_left t n h)
    ∙ ap (λ b. option_map f (cond b (Some t) (find test (range_with_len (t + 1) (n - (t + 1)))))) e

pub found_later : (f : ℕ → ℕ) (test : ℕ → Bool) (t n : ℕ) → t < n → test t ≡ false → found_of f test t n ≡ found_of f test (t + 1) n
found_later f test t n h e =
    ap (λ (is : List ℕ). option_map f (find test is)) (range_left t n h)
    ∙ ap (λ b. option_map f (cond b (Some t) (find test (range_with_len (t + 1) (n - (t + 1)))))) e

pub found_none : (f : ℕ → ℕ) (test : ℕ → Bool) (t n : ℕ) → n ≤ t → found_of f test t n ≡ None
found_none f test t n h = ap (λ (is : List ℕ). option_map f (find test is)) (none_left t n h)

-- ---- the tables below one

sum_range_more : (g : ℕ → ℕ) (a n j : ℕ) → a + n ≡ j → sum_by g (range_with_len a (suc n)) ≡ sum_by g (range_with_len a n) + g j
sum_range_more g a zero j e =
    let same : g a ≡ g j = ap g (omega (arith, e)) in
    let here = sum_by-cons g a [] in
    omega (arith, same, here)
sum_range_more g a (suc n) j e =
    let later = sum_range_more g (a + 1) n j (omega (arith, e)) in
    let here = sum_by-cons g a (range_with_len (a + 1) (suc n)) in
    let there = sum_by-cons g a (range_with_len (a + 1) n) in
    omega (arith, later, here, there)

abbrev one : Bool → ℕ
one b = cond b 1 0

below_more : (valid t : ℕ) → tables_below valid (t + 1) ≡ tables_below valid t + one (has_table valid t)
unfolding tables_below
below_more valid t =
    let next : t + 1 ≡ suc t = omega arith in
    ap (λ n. count_by (has_table valid) (range_with_len 0 n)) next ∙ sum_range_more (λ x. one (has_table valid x)) 0 t t (omega arith)

abbrev size : Bool → ℕ
size b = cond b 4 0

four : (b : Bool) → 4 * one b ≡ size b
four true = refl
four false = refl

pub step_small : (b : Bool) (n : ℕ) → n ≡ cond b 4 0 → n ≤ 4
step_small true n e = omega (arith, e)
step_small false n e = omega (arith, e)

-- a table's count moves the place of the next
pub place_more : (bytes : List ℕ) (at t valid place step : ℕ) → valid ≡ valid_of bytes at → place ≡ count_at bytes at t
    → step ≡ size (has_table valid t)
    → place + step ≡ count_at bytes at (t + 1)
place_more bytes at t valid place step valid_is place_is step_is =
    let more = below_more (valid_of bytes at) t in
    let fours = four (has_table (valid_of bytes at) t) in
    let same : size (has_table valid t) ≡ size (has_table (valid_of bytes at) t) = ap (λ v. size (has_table v t)) valid_is in
    omega (arith, more, fours, same, place_is, step_is)

pub place_first : (bytes : List ℕ) (at : ℕ) → count_at bytes at 0 ≡ at + 24
unfolding tables_below
place_first bytes at = omega arith

one_small : (b : Bool) → one b ≤ 1
one_small true = omega arith
one_small false = omega arith

pub below_small : (valid t : ℕ) → tables_below valid t ≤ t
unfolding tables_below
below_small valid zero = omega arith
below_small valid (suc t) =
    let before = below_small valid t in
    let more = sum_range_more (λ x. one (has_table valid x)) 0 t t (omega arith) in
    let small = one_small (has_table valid t) in
    omega (arith, before, more, small)

-- ---- counts

pub count_is : (bytes : List ℕ) (at t valid place n : ℕ) → valid ≡ valid_of bytes at → place ≡ count_at bytes at t
    → n ≡ cond (has_table valid t) (u32_of bytes place) 0
    → row_count bytes at t ≡ n
unfolding row_count
count_is bytes at t valid place n valid_is place_is n_is =
    sym (n_is ∙ ap (λ v. cond (has_table v t) (u32_of bytes place) 0) valid_is
    ∙ ap (λ p. cond (has_table (valid_of bytes at) t) (u32_of bytes p) 0) place_is)

pub place_small : (bytes : List ℕ) (at t place : ℕ) → place ≡ count_at bytes at t → place ≤ at + 24 + 4 * t
place_small bytes at t place e = let small = below_small (valid_of bytes at) t in omega (arith, small, e)

pub counts_more : (bytes : List ℕ) (at t n : ℕ) (rows : List ℕ) → rows ≡ map (row_count bytes at) (range_with_len 0 t)
    → row_count bytes at t ≡ n
    → rows ++ n ∷ [] ≡ map (row_count bytes at) (range_with_len 0 (t + 1))
counts_more bytes at t n rows e count =
    ap (λ (is : List ℕ). is ++ n ∷ []) e ∙ ap (λ k. map (row_count bytes at) (range_with_len 0 t) ++ k ∷ []) (sym count)
    ∙ sym (map-range_with_len_more (row_count bytes at) 0 t t (omega arith))

pub counts_end : (bytes : List ℕ) (at t : ℕ) (rows : List ℕ) → rows ≡ map (row_count bytes at) (range_with_len 0 t)
    → t ≡ 64 → rows ≡ row_counts bytes at
unfolding row_counts
counts_end bytes at t rows e is = e ∙ ap (λ n. map (row_count bytes at) (range_with_len 0 n)) is

-- a count by its table
pub count_by_table : (bytes : List ℕ) (at t : ℕ) (rows : List ℕ) → rows ≡ row_counts bytes at → t < 64 → (d : ℕ)
    → get_or rows t d ≡ row_count bytes at t
unfolding row_counts
count_by_table bytes at t rows e h d =
    ap (λ (is : List ℕ). get_or is t d) e ∙ get_or-map-range_with_len (row_count bytes at) 0 64 t t d h (omega arith)

pub counts_length : (bytes : List ℕ) (at : ℕ) (rows : List ℕ) → rows ≡ row_counts bytes at → length rows ≡ 64
unfolding row_counts
counts_length bytes at rows e = ap (λ (is : List ℕ). length is) e ∙ length-map-range_with_len (row_count bytes at) 0 64

-- ---- all tables

pub known_first : (valid : ℕ) → list_all (table_is_known valid) (range_with_len 0 (64 - 0)) ≡ all_known valid
unfolding all_known
known_first valid = refl

pub large_first : (bytes : List ℕ) (at : ℕ) → found_of (count_at bytes at) (is_large bytes at) 0 64 ≡ first_large bytes at
unfolding first_large
large_first bytes at = refl

pub large_here : (bytes : List ℕ) (at t n : ℕ) → row_count bytes at t ≡ n → 2 ^ 24 ≤ n → is_large bytes at t ≡ true
large_here bytes at t n e h = let here : 2 ^ 24 ≤ row_count bytes at t = omega (arith, e, h) in rw (le-ltb _ _ here) refl

pub large_not : (bytes : List ℕ) (at t n : ℕ) → row_count bytes at t ≡ n → n < 2 ^ 24 → is_large bytes at t ≡ false
large_not bytes at t n e h = let here : row_count bytes at t < 2 ^ 24 = omega (arith, e, h) in rw (lt-ltb _ _ here) refl

pub few_more : (bytes : List ℕ) (at t n : ℕ) → row_count bytes at t ≡ n → n < 2 ^ 24
    → ((k : ℕ) → k < t → row_count bytes at k < 2 ^ 24) → (k : ℕ) → k < t + 1 → row_count bytes at k < 2 ^ 24
few_more bytes at t n e h few k k_in = elim (cases_lt k t) [
  | inl below ↦ few k below
  | inr not_below ↦
      let same : row_count bytes at k ≡ row_count bytes at t = ap (row_count bytes at) (omega arith) in omega (arith, same, e, h)
]

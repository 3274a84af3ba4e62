-- The bits of Valid and the counts of rows, read back for any list of tables.
use Rattle.std.proofs.Common.{◌≡◌, ◌≤◌, ◌<◌, ◌+◌, ◌*◌, ◌/◌, ◌%◌, ◌^◌, ℕ, zero, suc, Bool, true, false, cond, List}
use Rattle.std.proofs.Common.{[], ◌∷◌, ◌++◌, length, take, get_or, refl, sym, ap, ◌∙◌, arith, length-append}
use Rattle.std.specs.Prelude.{if◌then◌else◌, ◌==◌, count_by, filter, flat_map}
use Rattle.std.specs.List.{range_with_len}
use Rattle.std.proofs.lemmas.List.Sums.{sum_by-cons}
use Rattle.std.proofs.Math.Nat.{zero-div}
use Rattle.std.proofs.lemmas.Nat.{shr-shr}
use Rattle.byteorder.specs.Endian.{little_bytes}
use Rattle.metadata.specs.Tables.{has_table, tables_below}
use Rattle.asm_builder.specs.File.{counts_bytes, is_there, valid_bits}
use Rattle.asm_builder.proofs.TablesStand.{Stands, stands_as, stands_behind, stands_front}

-- ---- bits

abbrev bit : Bool → ℕ
bit there = if there then 1 else 0

bit_small : (there : Bool) → bit there ≤ 1
bit_small true = omega arith
bit_small false = omega arith

pub valid_small : (tables : List (List (List ℕ))) → valid_bits tables < 2 ^ length tables
valid_small [] = omega arith
valid_small (rows ∷ tables) =
    let later = valid_small tables in
    let small = bit_small (is_there rows) in
    let double : 2 ^ suc (length tables) ≡ 2 * 2 ^ length tables = omega arith in
    omega (arith, later, small, double)

first_bit : (there : Bool) (n : ℕ) → ((bit there + 2 * n) / 1 % 2 == 1) ≡ there
first_bit true n = let e : (1 + 2 * n) / 1 % 2 ≡ 1 = omega arith in rw e refl
first_bit false n = let e : (0 + 2 * n) / 1 % 2 ≡ 0 = omega arith in rw e refl

later_bit : (there : Bool) (n t : ℕ) → has_table (bit there + 2 * n) (suc t) ≡ has_table n t
later_bit there n t =
    let small = bit_small there in
    let half : (bit there + 2 * n) / 2 ^ 1 ≡ n = omega (arith, small) in
    let moved : (bit there + 2 * n) / 2 ^ suc t ≡ n / 2 ^ t =
    ap (λ (k : ℕ). (bit there + 2 * n) / 2 ^ k) (let e : suc t ≡ 1 + t = omega arith in e)
    ∙ sym (shr-shr (bit there + 2 * n) 1 t) ∙ ap (λ (k : ℕ). k / 2 ^ t) half in
    ap (λ (k : ℕ). k % 2 == 1) moved

none_there : (t : ℕ) → has_table 0 t ≡ false
none_there t = let e : 0 / 2 ^ t ≡ 0 = zero-div (2 ^ t) in ap (λ (k : ℕ). k % 2 == 1) e

pub has_bit : (tables : List (List (List ℕ))) (t : ℕ) → has_table (valid_bits tables) t ≡ is_there (get_or tables t [])
has_bit [] t = none_there t
has_bit (rows ∷ tables) zero = first_bit (is_there rows) (valid_bits tables)
has_bit (rows ∷ tables) (suc t) = later_bit (is_there rows) (valid_bits tables) t ∙ has_bit tables t

-- ---- how many are below

counted : (there : Bool) (rows : List (List ℕ)) (others : List (List (List ℕ)))
    → length (cond there (rows ∷ others) others) ≡ cond there 1 0 + length others
counted true rows others = omega arith
counted false rows others = omega arith

counts_below : (test : ℕ → Bool) (from : ℕ) (tables : List (List (List ℕ))) (t : ℕ)
    → ((i : ℕ) → i < length tables → test (from + i) ≡ is_there (get_or tables i [])) → t ≤ length tables
    → count_by test (range_with_len from t) ≡ length (filter is_there (take t tables))
counts_below test from tables zero same below = refl
counts_below test from [] (suc t) same below = absurd (omega arith)
counts_below test from (rows ∷ tables) (suc t) same below =
    let here : test from ≡ is_there rows = ap test (let e : from ≡ from + 0 = omega arith in e) ∙ same 0 (omega arith) in
    let later = counts_below test (from + 1) tables t
    (λ i less. ap test (let e : from + 1 + i ≡ from + suc i = omega arith in e) ∙ same (suc i) (omega arith)) (omega arith) in
    let sum = sum_by-cons (λ (i : ℕ). cond (test i) 1 0) from (range_with_len (from + 1) t) in
    let first : ◌≡◌ {A = ℕ} (cond (test from) 1 0) (cond (is_there rows) 1 0) = ap (λ (b : Bool). cond b 1 0) here in
    omega (arith, sum, first, later, counted (is_there rows) rows (filter is_there (take t tables)))

pub below_is : (tables : List (List (List ℕ))) (t : ℕ) → t ≤ length tables
    → tables_below (valid_bits tables) t ≡ length (filter is_there (take t tables))
unfolding tables_below
below_is tables t below = counts_below (has_table (valid_bits tables)) 0 tables t
    (λ i less. ap (λ (k : ℕ). has_table (valid_bits tables) k) (let e : 0 + i ≡ i = omega arith in e) ∙ has_bit tables i) below

-- ---- counts

kept_counts : (there : Bool) (rows : List (List ℕ)) (others : List (List (List ℕ)))
    → flat_map (λ (r : List (List ℕ)). little_bytes 4 (length r)) (cond there (rows ∷ others) others)
    ≡ cond there (little_bytes 4 (length rows) ++ flat_map (λ (r : List (List ℕ)). little_bytes 4 (length r)) others)
    (flat_map (λ (r : List (List ℕ)). little_bytes 4 (length r)) others)
kept_counts true rows others = refl
kept_counts false rows others = refl

after_first : (bytes : List ℕ) (place : ℕ) (there : Bool) (a b : List ℕ) → length a ≡ 4 → Stands bytes place (cond there (a ++ b) b)
    → Stands bytes (place + 4 * cond there 1 0) b
after_first bytes place true a b size s = stands_behind bytes place (place + 4 * 1) a b (omega (arith, size)) s
after_first bytes place false a b size s = stands_as bytes place (place + 4 * 0) b b (omega arith) refl s

at_first : (bytes : List ℕ) (place : ℕ) (there : Bool) (a b : List ℕ) → there ≡ true → Stands bytes place (cond there (a ++ b) b)
    → Stands bytes place a
at_first bytes place true a b is s = stands_front bytes place a b s
at_first bytes place false a b is s = absurd (let x : ⊥ = cc in x)

pub count_stands : (bytes : List ℕ) (place : ℕ) (tables : List (List (List ℕ))) → Stands bytes place (counts_bytes tables) → (t : ℕ)
    → t < length tables → is_there (get_or tables t []) ≡ true
    → Stands bytes (place + 4 * length (filter is_there (take t tables))) (little_bytes 4 (length (get_or tables t [])))
count_stands bytes place [] s t below there = absurd (omega arith)
count_stands bytes place (rows ∷ tables) s zero below there =
    let others = counts_bytes tables in
    let split =
    stands_as bytes place place (counts_bytes (rows ∷ tables)) (cond (is_there rows) (little_bytes 4 (length rows) ++ others) others) refl
    (kept_counts (is_there rows) rows (filter is_there tables)) s in
    stands_as bytes place (place + 4 * 0) (little_bytes 4 (length rows)) (little_bytes 4 (length rows)) (omega arith) refl
    (at_first bytes place (is_there rows) (little_bytes 4 (length rows)) others there split)
count_stands bytes place (rows ∷ tables) s (suc t) below there =
    let others = counts_bytes tables in
    let count = little_bytes 4 (length rows) in
    let split = stands_as bytes place place (counts_bytes (rows ∷ tables)) (cond (is_there rows) (count ++ others) others) refl
    (kept_counts (is_there rows) rows (filter is_there tables)) s in
    let next = after_first bytes place (is_there rows) count others refl split in
    let later = count_stands bytes (place + 4 * cond (is_there rows) 1 0) tables next t (omega arith) there in
    let number = counted (is_there rows) rows (filter is_there (take t tables)) in
    stands_as bytes _ (place + 4 * length (filter is_there (rows ∷ take t tables))) (little_bytes 4 (length (get_or tables t [])))
    (little_bytes 4 (length (get_or tables t []))) (omega (arith, number)) refl later

length-kept : (there : Bool) (a b : List ℕ) → length a ≡ 4 → length (cond there (a ++ b) b) ≡ 4 * cond there 1 0 + length b
length-kept true a b size = omega (arith, size, length-append a b)
length-kept false a b size = omega arith

pub length-counts : (tables : List (List (List ℕ))) → length (counts_bytes tables) ≡ 4 * length (filter is_there tables)
length-counts [] = omega arith
length-counts (rows ∷ tables) =
    let split = ap (λ (t : List ℕ). length t) (kept_counts (is_there rows) rows (filter is_there tables)) in
    let here = length-kept (is_there rows) (little_bytes 4 (length rows)) (counts_bytes tables) refl in
    let number = counted (is_there rows) rows (filter is_there tables) in
    omega (arith, split, here, number, length-counts tables)

-- a table that is not there has no rows
pub none_of : (rows : List (List ℕ)) → is_there rows ≡ false → length rows ≡ 0
none_of [] h = refl
none_of (row ∷ rows) h = absurd (let x : ⊥ = cc in x)

pub some_of : (rows : List (List ℕ)) → is_there rows ≡ true → 0 < length rows
some_of [] h = absurd (let x : ⊥ = cc in x)
some_of (row ∷ rows) h = omega arith

-- The steps of the loops that append rows, tables, counts and bits.
use Rattle.std.proofs.Common.{◌≡◌, ◌≤◌, ◌<◌, ◌+◌, ◌*◌, ◌%◌, ◌^◌, ℕ, suc, Bool, true, false, cond, List, []}
use Rattle.std.proofs.Common.{◌∷◌, ◌++◌, length, take, drop, get_or, min, refl, sym, ap, ◌∙◌, subst, arith}
use Rattle.std.proofs.Common.{append_assoc, append-nil, inl, inr}
use Rattle.std.specs.Prelude.{not, ◌↔◌, bit_or}
use Rattle.std.proofs.lemmas.Nat.{one_shl, or_comm, or_shifted}
use Rattle.std.proofs.lemmas.Bool.{cases_lt}
use Rattle.std.proofs.lemmas.List.{drop_all, drop_more, length-take-le, take_more}
use Rattle.byteorder.specs.Endian.{little_bytes}
use Rattle.metadata.specs.Tables.{Layout}
use Rattle.asm_builder.specs.Cells.{is_empty}
use Rattle.asm_builder.specs.File.{is_there, row_bytes, table_bytes, tables_from, valid_bits}
use Rattle.asm_builder.proofs.MetadataCounts.{valid_small}

-- what was put and what is left are all
put_step : (old new piece left now all : List ℕ) → new ≡ old ++ piece → left ≡ piece ++ now → old ++ left ≡ all → new ++ now ≡ all
put_step old new piece left now all e split told =
    ap (λ (t : List ℕ). t ++ now) e ∙ append_assoc old piece now ∙ ap (λ (t : List ℕ). old ++ t) (sym split) ∙ told

put_end : (old left all : List ℕ) → left ≡ [] → old ++ left ≡ all → old ≡ all
put_end old left all none told = sym (append-nil old) ∙ ap (λ (t : List ℕ). old ++ t) (sym none) ∙ told

-- ---- a row

row_split : (widths numbers : List ℕ) (i : ℕ) (d e : ℕ) → i < length widths → i < length numbers
    → row_bytes (drop i widths) (drop i numbers)
    ≡ little_bytes (get_or widths i d) (get_or numbers i e) ++ row_bytes (drop (i + 1) widths) (drop (i + 1) numbers)
unfolding row_bytes
row_split widths numbers i d e h k =
    ap (λ (t : List ℕ). row_bytes t (drop i numbers)) (drop_more widths i d h)
    ∙ ap (λ (t : List ℕ). row_bytes (get_or widths i d ∷ drop (i + 1) widths) t) (drop_more numbers i e k)

row_none : (widths : List ℕ) → row_bytes widths [] ≡ []
unfolding row_bytes
row_none [] = refl
row_none (w ∷ widths) = refl

no_widths : (numbers : List ℕ) → row_bytes [] numbers ≡ []
unfolding row_bytes
no_widths numbers = refl

pub row_more : (widths numbers : List ℕ) (i d e : ℕ) (old new all : List ℕ) → i < length widths → i < length numbers
    → new ≡ old ++ little_bytes (get_or widths i d) (get_or numbers i e)
    → old ++ row_bytes (drop i widths) (drop i numbers) ≡ all
    → new ++ row_bytes (drop (i + 1) widths) (drop (i + 1) numbers) ≡ all
row_more widths numbers i d e old new all h k put told =
    put_step old new (little_bytes (get_or widths i d) (get_or numbers i e)) (row_bytes (drop i widths) (drop i numbers))
    (row_bytes (drop (i + 1) widths) (drop (i + 1) numbers)) all put (row_split widths numbers i d e h k) told

pub row_end : (widths numbers : List ℕ) (i : ℕ) (old all : List ℕ) → min (length widths) (length numbers) ≤ i
    → old ++ row_bytes (drop i widths) (drop i numbers) ≡ all → old ≡ all
row_end widths numbers i old all h told =
    let none : row_bytes (drop i widths) (drop i numbers) ≡ [] = elim (cases_lt i (length widths)) [
      | inl below ↦
          ap (λ (t : List ℕ). row_bytes (drop i widths) t) (drop_all i numbers (omega (arith, h, below))) ∙ row_none (drop i widths)
      | inr above ↦ ap (λ (t : List ℕ). row_bytes t (drop i numbers)) (drop_all i widths above) ∙ no_widths (drop i numbers)
    ] in
    put_end old (row_bytes (drop i widths) (drop i numbers)) all none told

-- ---- tables

tables_split : (layout : Layout) (tables : List (List (List ℕ))) (i : ℕ) (d : List (List ℕ)) → i < length tables
    → tables_from layout i (drop i tables) ≡ table_bytes layout i (get_or tables i d) ++ tables_from layout (i + 1) (drop (i + 1) tables)
unfolding tables_from
tables_split layout tables i d h = ap (λ (t : List (List (List ℕ))). tables_from layout i t) (drop_more tables i d h)

pub tables_more : (layout : Layout) (tables : List (List (List ℕ))) (i : ℕ) (d : List (List ℕ)) (old new all : List ℕ) → i < length tables
    → new ≡ old ++ table_bytes layout i (get_or tables i d) → old ++ tables_from layout i (drop i tables) ≡ all
    → new ++ tables_from layout (i + 1) (drop (i + 1) tables) ≡ all
tables_more layout tables i d old new all h put told =
    put_step old new (table_bytes layout i (get_or tables i d)) (tables_from layout i (drop i tables))
    (tables_from layout (i + 1) (drop (i + 1) tables)) all put (tables_split layout tables i d h) told

no_tables : (layout : Layout) (i : ℕ) → tables_from layout i [] ≡ []
unfolding tables_from
no_tables layout i = refl

pub tables_end : (layout : Layout) (tables : List (List (List ℕ))) (i : ℕ) (old all : List ℕ) → length tables ≤ i
    → old ++ tables_from layout i (drop i tables) ≡ all → old ≡ all
tables_end layout tables i old all h told =
    put_end old (tables_from layout i (drop i tables)) all
    (ap (λ (t : List (List (List ℕ))). tables_from layout i t) (drop_all i tables h) ∙ no_tables layout i) told

-- ---- counts

pub empty_is : (rows : List (List ℕ)) → rows ≡ [] → is_empty rows ≡ true
empty_is [] e = refl
empty_is (row ∷ rows) e = absurd (let x : ⊥ = cc in x)

-- ---- bits

abbrev pub weight : Bool → ℕ → ℕ
weight there n = cond there (2 ^ n) 0

twice : (there : Bool) (n : ℕ) → 2 * weight there n ≡ weight there (suc n)
twice true n = let e : 2 ^ suc n ≡ 2 * 2 ^ n = omega arith in sym e
twice false n = omega arith

one_bit : (there : Bool) → cond there 1 0 + 2 * 0 ≡ weight there 0
one_bit true = refl
one_bit false = refl

bits_push : (tables : List (List (List ℕ))) (rows : List (List ℕ))
    → valid_bits (tables ++ rows ∷ []) ≡ valid_bits tables + weight (is_there rows) (length tables)
bits_push [] rows = let e = one_bit (is_there rows) in omega (arith, e)
bits_push (x ∷ tables) rows =
    let later = bits_push tables rows in
    let double = twice (is_there rows) (length tables) in
    omega (arith, later, double)

pub bits_more : (tables : List (List (List ℕ))) (i : ℕ) (d : List (List ℕ)) → i < length tables
    → valid_bits (take (i + 1) tables) ≡ valid_bits (take i tables) + weight (is_there (get_or tables i d)) i
bits_more tables i d h =
    let size : length (take i tables) ≡ i = length-take-le i tables (omega arith) in
    ap valid_bits (take_more tables i d h) ∙ bits_push (take i tables) (get_or tables i d)
    ∙ ap (λ (n : ℕ). valid_bits (take i tables) + weight (is_there (get_or tables i d)) n) size

pub bits_low : (tables : List (List (List ℕ))) (i : ℕ) → i ≤ length tables → valid_bits (take i tables) < 2 ^ i
bits_low tables i h =
    let size : length (take i tables) ≡ i = length-take-le i tables h in
    subst (λ (n : ℕ). valid_bits (take i tables) < 2 ^ n) size (valid_small (take i tables))

pub bits_set : (tables : List (List (List ℕ))) (i valid : ℕ) (d : List (List ℕ)) → i < length tables → i < 64
    → is_empty (get_or tables i d) ≡ false → valid ≡ valid_bits (take i tables)
    → bit_or valid ((1 * 2 ^ i) % 2 ^ 64) ≡ valid_bits (take (i + 1) tables)
bits_set tables i valid d h narrow some is =
    let there : is_there (get_or tables i d) ≡ true = ap not some in
    let more = bits_more tables i d h in
    let one : weight (is_there (get_or tables i d)) i ≡ 2 ^ i = ap (λ (b : Bool). weight b i) there in
    let low = bits_low tables i (omega (arith, h)) in
    let shifted : (1 * 2 ^ i) % 2 ^ 64 ≡ 2 ^ i = one_shl i 64 narrow in
    let same : 2 ^ i ≡ 1 * 2 ^ i = omega arith in
    let put : bit_or (1 * 2 ^ i) valid ≡ 1 * 2 ^ i + valid = or_shifted 1 i valid (omega (arith, low, is)) in
    let turned : bit_or valid ((1 * 2 ^ i) % 2 ^ 64) ≡ 1 * 2 ^ i + valid =
    or_comm valid ((1 * 2 ^ i) % 2 ^ 64) ∙ ap (λ (n : ℕ). bit_or n valid) (shifted ∙ same) ∙ put in
    omega (arith, turned, more, one, is)

pub bits_kept : (tables : List (List (List ℕ))) (i valid : ℕ) (d : List (List ℕ)) → i < length tables
    → is_empty (get_or tables i d) ≡ true → valid ≡ valid_bits (take i tables) → valid ≡ valid_bits (take (i + 1) tables)
bits_kept tables i valid d h none is =
    let there : is_there (get_or tables i d) ≡ false = ap not none in
    let more = bits_more tables i d h in
    let zero : weight (is_there (get_or tables i d)) i ≡ 0 = ap (λ (b : Bool). weight b i) there in
    omega (arith, more, zero, is)

-- a test for no rows
pub empty_by : (b : Bool) (rows : List (List ℕ)) → ((b ≡ true) ↔ (rows ≡ [])) → is_empty rows ≡ b
empty_by true rows h = empty_is rows (h.0 refl)
empty_by false [] h = absurd (let e : false ≡ true = h.1 refl in let x : ⊥ = cc in x)
empty_by false (row ∷ rows) h = refl

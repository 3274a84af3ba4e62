-- Rows, tables and all tables as bytes: how long they are, and where each part is.
use Rattle.std.proofs.Common.{◌≡◌, ◌<◌, ◌+◌, ◌*◌, ◌^◌, ℕ, zero, suc, List, [], ◌∷◌, length, get_or, take, Some}
use Rattle.std.proofs.Common.{refl, sym, ap, ◌∙◌, subst, arith, length-append}
use Rattle.std.specs.Prelude.{sum_by, flat_map}
use Rattle.std.specs.List.{AllByRecursion, AllZip, range_with_len}
use Rattle.std.proofs.lemmas.List.Sums.{sum_by-cons}
use Rattle.byteorder.specs.Endian.{little_bytes}
use Rattle.byteorder.specs.Numbers.{length-bytes_low_first}
use Rattle.rtr_bytes.specs.Field.{field_at}
use Rattle.metadata.specs.Tables.{Layout}
use Rattle.asm_builder.specs.File.{row_bytes, table_bytes, tables_from}
use Rattle.asm_builder.proofs.TablesStand.{Stands, length-records, number_stands, stands_as, stands_behind, stands_front}

-- a number fits a column of so many bytes
abbrev pub Fits : ℕ → ℕ → Type 0
Fits width number = number < 256 ^ width

-- ---- a row

-- each column is at the sum of the widths before it
pub row_back : (bytes : List ℕ) (at : ℕ) (widths numbers : List ℕ) → AllZip Fits widths numbers → Stands bytes at (row_bytes widths numbers)
    → (i : ℕ) → i < length widths
    → field_at (get_or widths i 0) bytes (at + sum_by (λ w. w) (take i widths)) ≡ Some (get_or numbers i 0)
unfolding row_bytes
row_back bytes at [] numbers fit s i below = absurd (omega arith)
row_back bytes at (w ∷ widths) [] fit s i below = absurd fit
row_back bytes at (w ∷ widths) (n ∷ numbers) (fit, fits) s zero below =
    let here = number_stands w n bytes at fit (stands_front bytes at (little_bytes w n) (row_bytes widths numbers) s) in
    let place : at ≡ at + 0 = omega arith in
    ap (λ (p : ℕ). field_at w bytes p) (sym place) ∙ here
row_back bytes at (w ∷ widths) (n ∷ numbers) (fit, fits) s (suc i) below =
    let size = length-bytes_low_first 0 w n in
    let next = stands_behind bytes at (at + w) (little_bytes w n) (row_bytes widths numbers) (omega (arith, size)) s in
    let later = row_back bytes (at + w) widths numbers fits next i (omega arith) in
    let sum = sum_by-cons (λ (w : ℕ). w) w (take i widths) in
    let place : at + sum_by (λ w. w) (w ∷ take i widths) ≡ at + w + sum_by (λ w. w) (take i widths) = omega (arith, sum) in
    ap (λ (p : ℕ). field_at (get_or widths i 0) bytes p) place ∙ later

pub length-row : (widths numbers : List ℕ) → AllZip Fits widths numbers → length (row_bytes widths numbers) ≡ sum_by (λ w. w) widths
unfolding row_bytes
length-row [] [] fit = refl
length-row [] (n ∷ numbers) fit = absurd fit
length-row (w ∷ widths) [] fit = absurd fit
length-row (w ∷ widths) (n ∷ numbers) (fit, fits) =
    omega (
      arith,
      length-append (little_bytes w n)
          (row_bytes widths numbers),
      length-bytes_low_first 0 w n,
      length-row widths numbers fits,
      sum_by-cons (λ (w : ℕ). w) w widths,
    )

-- ---- a table

pub rows_sized : (widths : List ℕ) (rows : List (List ℕ)) → AllByRecursion (AllZip Fits widths) rows
    → AllByRecursion (λ (row : List ℕ). length (row_bytes widths row) ≡ sum_by (λ w. w) widths) rows
rows_sized widths [] fit = tt
rows_sized widths (row ∷ rows) (fit, fits) = (length-row widths row fit, rows_sized widths rows fits)

pub length-table : (widths : List ℕ) (rows : List (List ℕ)) → AllByRecursion (AllZip Fits widths) rows
    → length (flat_map (row_bytes widths) rows) ≡ length rows * sum_by (λ w. w) widths
length-table widths rows fit = length-records (row_bytes widths) (sum_by (λ w. w) widths) rows (rows_sized widths rows fit)

-- ---- tables one after the other, by the size of each

-- each has its size
abbrev pub HaveSizes : Layout → (ℕ → ℕ) → ℕ → List (List (List ℕ)) → Type 0
HaveSizes layout size from [] = Unit {0}
HaveSizes layout size from (rows ∷ tables) = (length (table_bytes layout from rows) ≡ size from) × HaveSizes layout size (from + 1) tables

pub have_sizes : (layout : Layout) (size : ℕ → ℕ) (from : ℕ) (tables : List (List (List ℕ)))
    → ((i : ℕ) → i < length tables → length (table_bytes layout (from + i) (get_or tables i [])) ≡ size (from + i))
    → HaveSizes layout size from tables
have_sizes layout size from [] each = tt
have_sizes layout size from (rows ∷ tables) each =
    let first : length (table_bytes layout from rows) ≡ size from =
    subst (λ (t : ℕ). length (table_bytes layout t rows) ≡ size t) (let e : from + 0 ≡ from = omega arith in e) (each 0 (omega arith)) in (
      first,
      have_sizes layout size (from + 1) tables (λ i below.
          subst (λ (t : ℕ). length (table_bytes layout t (get_or tables i [])) ≡ size t)
          (let e : from + suc i ≡ from + 1 + i = omega arith in e)
          (each (suc i) (omega arith))),
    )

pub tables_stand : (layout : Layout) (size : ℕ → ℕ) (bytes : List ℕ) (from : ℕ) (tables : List (List (List ℕ))) (at : ℕ)
    → HaveSizes layout size from tables → Stands bytes at (tables_from layout from tables) → (i : ℕ) → i < length tables
    → Stands bytes (at + sum_by size (range_with_len from i)) (table_bytes layout (from + i) (get_or tables i []))
unfolding tables_from
tables_stand layout size bytes from [] at sizes s i below = absurd (omega arith)
tables_stand layout size bytes from (rows ∷ tables) at (here, sizes) s zero below =
    let number : from ≡ from + 0 = omega arith in
    stands_as bytes at (at + 0) (table_bytes layout from rows) (table_bytes layout (from + 0) rows) (omega arith)
    (ap (λ (t : ℕ). table_bytes layout t rows) number)
    (stands_front bytes at (table_bytes layout from rows) (tables_from layout (from + 1) tables) s)
tables_stand layout size bytes from (rows ∷ tables) at (here, sizes) s (suc i) below =
    let next =
    stands_behind bytes at (at + size from) (table_bytes layout from rows) (tables_from layout (from + 1) tables) (omega (arith, here)) s in
    let later = tables_stand layout size bytes (from + 1) tables (at + size from) sizes next i (omega arith) in
    let sum = sum_by-cons size from (range_with_len (from + 1) i) in
    let place : at + size from + sum_by size (range_with_len (from + 1) i) ≡ at + sum_by size (range_with_len from (suc i)) =
    omega (arith, sum) in
    let number : from + 1 + i ≡ from + suc i = omega arith in
    stands_as bytes (at + size from + sum_by size (range_with_len (from + 1) i)) (at + sum_by size (range_with_len from (suc i)))
    (table_bytes layout (from + 1 + i) (get_or tables i [])) (table_bytes layout (from + suc i) (get_or tables i [])) place
    (ap (λ (t : ℕ). table_bytes layout t (get_or tables i [])) number) later

pub length-tables : (layout : Layout) (size : ℕ → ℕ) (from : ℕ) (tables : List (List (List ℕ))) → HaveSizes layout size from tables
    → length (tables_from layout from tables) ≡ sum_by size (range_with_len from (length tables))
unfolding tables_from
length-tables layout size from [] sizes = refl
length-tables layout size from (rows ∷ tables) (here, sizes) =
    let later = length-tables layout size (from + 1) tables sizes in
    let both = length-append (table_bytes layout from rows) (tables_from layout (from + 1) tables) in
    let sum = sum_by-cons size from (range_with_len (from + 1) (length tables)) in
    omega (arith, here, later, both, sum)

-- Each number of what was asked fits its column, by the kind of its cell.
use Rattle.std.proofs.Common.{◌≡◌, ◌≤◌, ◌<◌, ◌+◌, ◌-◌, ◌*◌, ◌/◌, ◌%◌, ◌^◌, ℕ, zero, suc, Bool, true, false, not, cond}
use Rattle.std.proofs.Common.{List, [], ◌∷◌, ◌++◌, length, map, get_or, Some, inl, inr, refl, sym, ap, ◌∙◌, subst}
use Rattle.std.proofs.Common.{arith, length-append}
use Rattle.std.specs.Prelude.{◌==◌, ◌||◌, is_some, nat_le, nat_lt, slice_get, unwrap_or}
use Rattle.std.specs.List.{AllZip}
use Rattle.std.proofs.lemmas.Bool.{and_parts, leb-false, leb-true, ltb-true, not-false, or_cases}
use Rattle.std.proofs.lemmas.Nat.{mul-add-lt}
use Rattle.metadata.specs.declared.schema.Table.{Table}
use Rattle.metadata.specs.declared.schema.Heap.TheVariants as heap_kinds
use Rattle.metadata.specs.declared.schema.CodedKind.{CodedKind}
use Rattle.metadata.specs.declared.schema.ColumnKind.{ColumnKind}
use Rattle.metadata.specs.declared.schema.ColumnKind.TheVariants as columns
use Rattle.metadata.specs.declared.schema.TheConstants.{CODED_TABLES}
use Rattle.metadata.specs.Schema.{columns_of, table_number, tag_bits}
use Rattle.metadata.specs.Tables.{Layout, is_short, rows_of, width, width_of, widths_of}
use Rattle.asm_builder.specs.Asked.{Asked}
use Rattle.asm_builder.specs.Cells.{Cell, Number, Text, Blob, Coded, is_empty, tables_of}
use Rattle.asm_builder.specs.Content.{Heaps, all_after, all_numbers, blob_bytes, coded_index, content_of, heaps_after}
use Rattle.asm_builder.specs.Content.{heaps_after_all, no_heaps, number_of, padded4, row_after, row_numbers}
use Rattle.asm_builder.specs.Content.{spelled_all, table_after, table_numbers, tag_in, tag_of, text_bytes}
use Rattle.asm_builder.specs.File.{sized}
use Rattle.asm_builder.specs.Sound.{IsSound, is_row, rows_asked, takes}
use Rattle.asm_builder.proofs.AllTables.{small_heaps}
use Rattle.asm_builder.proofs.CellsNamed.{rows_counted}
use Rattle.asm_builder.proofs.Coded.{bits_few, index_small, tag_fits, tag_small, tagged_holds}
use Rattle.asm_builder.proofs.Counts.{counted_few}
use Rattle.asm_builder.proofs.Growth.{GoesOn, goes_on_list, goes_on_row, goes_on_same, goes_on_table, goes_on_then}
use Rattle.asm_builder.proofs.Padding.{aligned4_up, length-padded4}
use Rattle.asm_builder.proofs.Suits.{Suits, all_suit}
use Rattle.asm_builder.proofs.TablesInRow.{Fits}

-- ---- widths

-- a number fits four bytes, and two where the column isn't wide
fits_width : (wide : Bool) (number : ℕ) → number < 2 ^ 32 → (wide ≡ false → number < 2 ^ 16) → number < 256 ^ width wide
fits_width true number big small = omega arith
fits_width false number big small = let here = small refl in omega (arith, here)

string_bit : (s g b : Bool) → ((cond s 1 0 + cond g 2 0 + cond b 4 0) / 1 % 2 == 1) ≡ s
string_bit true true true = refl
string_bit true true false = refl
string_bit true false true = refl
string_bit true false false = refl
string_bit false true true = refl
string_bit false true false = refl
string_bit false false true = refl
string_bit false false false = refl

blob_bit : (s g b : Bool) → ((cond s 1 0 + cond g 2 0 + cond b 4 0) / 4 % 2 == 1) ≡ b
blob_bit true true true = refl
blob_bit true true false = refl
blob_bit true false true = refl
blob_bit true false false = refl
blob_bit false true true = refl
blob_bit false true false = refl
blob_bit false false true = refl
blob_bit false false false = refl

power_split : (k : ℕ) → k ≤ 5 → 2 ^ k * 2 ^ (16 - k) ≡ 2 ^ 16
power_split zero h = refl
power_split (suc zero) h = refl
power_split (suc (suc zero)) h = refl
power_split (suc (suc (suc zero))) h = refl
power_split (suc (suc (suc (suc zero)))) h = refl
power_split (suc (suc (suc (suc (suc zero))))) h = refl
power_split (suc (suc (suc (suc (suc (suc k)))))) h = absurd (omega arith)

place_below : (b : Bool) (before after : ℕ) → before ≤ after → cond b 0 before ≤ after
place_below true before after le = omega arith
place_below false before after le = le

-- ---- in a content with these heaps and tables

module _ (asked : Asked) (sound : IsSound asked) where
  abbrev rows : List ℕ
  rows = rows_asked (tables_of asked)

  abbrev final : Heaps
  final = all_after no_heaps (tables_of asked)

  abbrev layout : Layout
  layout = sized (content_of asked)

  row_counts : (n : ℕ) → rows_of layout n ≡ get_or rows n 0
  unfolding content_of
  row_counts n = ap (λ (l : List ℕ). get_or l n 0) (rows_counted no_heaps (tables_of asked))

  strings_wide : (layout.heap_sizes / 1 % 2 == 1) ≡ nat_le (2 ^ 16) (length (padded4 final.strings))
  unfolding content_of
  strings_wide = string_bit (nat_le (2 ^ 16) (length (padded4 final.strings))) false (nat_le (2 ^ 16) (length (padded4 final.blobs)))

  blobs_wide : (layout.heap_sizes / 4 % 2 == 1) ≡ nat_le (2 ^ 16) (length (padded4 final.blobs))
  unfolding content_of
  blobs_wide = blob_bit (nat_le (2 ^ 16) (length (padded4 final.strings))) false (nat_le (2 ^ 16) (length (padded4 final.blobs)))

  -- a place in the heaps
  place_fits : (wide : Bool) (heap : List ℕ) (number : ℕ) → wide ≡ nat_le (2 ^ 16) (length (padded4 heap))
      → length heap < 2 ^ 24 → number ≤ length heap
      → number < 256 ^ width wide
  place_fits wide heap number is small within =
      let size = length-padded4 heap in
      let up = aligned4_up (length heap) in
      fits_width wide number (omega (arith, small, within)) (λ narrow.
      let below = leb-false (2 ^ 16) (length (padded4 heap)) (sym is ∙ narrow) in
      omega (arith, below, size, up, within))

  text_fits : (heaps : Heaps) (text : List ℕ) → GoesOn (heaps_after heaps (Text text)) final
      → number_of heaps (Text text) < 256 ^ width (layout.heap_sizes / 1 % 2 == 1)
  text_fits heaps text on =
      let all = ap (λ (l : List ℕ). length l) on.strings_are ∙ length-append (heaps.strings ++ text_bytes text) on.strings in
      let sum = length-append heaps.strings (text_bytes text) in
      place_fits (layout.heap_sizes / 1 % 2 == 1) final.strings (number_of heaps (Text text)) strings_wide (small_heaps asked sound).0
      (place_below (is_empty text) (length heaps.strings) (length final.strings) (omega (arith, all, sum)))

  blob_fits : (heaps : Heaps) (blob : List ℕ) → GoesOn (heaps_after heaps (Blob blob)) final
      → number_of heaps (Blob blob) < 256 ^ width (layout.heap_sizes / 4 % 2 == 1)
  blob_fits heaps blob on =
      let all = ap (λ (l : List ℕ). length l) on.blobs_are ∙ length-append (heaps.blobs ++ blob_bytes blob) on.blobs in
      let sum = length-append heaps.blobs (blob_bytes blob) in
      place_fits (layout.heap_sizes / 4 % 2 == 1) final.blobs (number_of heaps (Blob blob)) blobs_wide (small_heaps asked sound).1
      (place_below (is_empty blob) (length heaps.blobs) (length final.blobs) (omega (arith, all, sum)))

  -- a coded index
  limit_of : (kind : CodedKind) (table : ℕ) → is_short layout kind ≡ true → is_some (tag_in CODED_TABLES kind table) ≡ true
      → rows_of layout table < 2 ^ (16 - tag_bits kind)
  unfolding is_short
  limit_of kind table short some =
      ltb-true (rows_of layout table) (2 ^ (16 - tag_bits kind))
      (tagged_holds (λ n. nat_lt (rows_of layout n) (2 ^ (16 - tag_bits kind))) CODED_TABLES kind table some short)

  tag_some : (kind : CodedKind) (token : ℕ) → is_some (tag_of kind token) ≡ true
      → is_some (tag_in CODED_TABLES kind (token / 2 ^ 24)) ≡ true
  unfolding tag_of
  tag_some kind token some = some

  tag_below : (kind : CodedKind) (token : ℕ) → unwrap_or (tag_of kind token) 0 < 32
  unfolding tag_of
  tag_below kind token = tag_small kind (token / 2 ^ 24)

  index_fits : (kind : CodedKind) (token : ℕ) → takes rows kind token ≡ true
      → coded_index kind token < 256 ^ width_of layout (columns.Coded kind)
  index_fits kind token ok =
      let parts = and_parts (is_some (tag_of kind token)) (is_row rows token) ok in
      let row = and_parts (nat_lt 0 (token % 2 ^ 24)) (nat_le (token % 2 ^ 24) (get_or rows (token / 2 ^ 24) 0)) parts.1 in
      let there = leb-true (token % 2 ^ 24) (get_or rows (token / 2 ^ 24) 0) row.1 in
      let big =
      index_small (token % 2 ^ 24) (tag_bits kind) (unwrap_or (tag_of kind token) 0) (omega arith) (bits_few kind)
      (tag_below kind token) in
      fits_width (not (is_short layout kind)) (coded_index kind token) (omega (arith, big)) (λ narrow.
      let short = not-false (is_short layout kind) narrow in
      let few = limit_of kind (token / 2 ^ 24) short (tag_some kind token parts.0) in
      let count = row_counts (token / 2 ^ 24) in
      let below =
      mul-add-lt (token % 2 ^ 24) (2 ^ tag_bits kind) (unwrap_or (tag_of kind token) 0) (2 ^ (16 - tag_bits kind))
      (omega (arith, few, count, there)) (tag_fits kind token parts.0) in
      subst (λ n. coded_index kind token < n) (power_split (tag_bits kind) (bits_few kind)) below)

  -- the first of a list
  list_fits : (table : Table) (n : ℕ) → n ≤ get_or rows (table_number table) 0 + 1
      → (nat_le (2 ^ 16) (get_or rows (table_number table) 0) || nat_lt n (2 ^ 16)) ≡ true → n < 256 ^ width_of layout (columns.List table)
  list_fits table n within fits =
      let count = row_counts (table_number table) in
      let few = counted_few (tables_of asked) (table_number table) sound.few in
      fits_width (nat_le (2 ^ 16) (rows_of layout (table_number table))) n (omega (arith, within, few)) (λ narrow.
      let below = leb-false (2 ^ 16) (rows_of layout (table_number table)) narrow in
      elim (or_cases (nat_le (2 ^ 16) (get_or rows (table_number table) 0)) (nat_lt n (2 ^ 16)) fits) [
        | inl many ↦ let past = leb-true (2 ^ 16) (get_or rows (table_number table) 0) many in absurd (omega (arith, below, past, count))
        | inr small ↦ ltb-true n (2 ^ 16) small
      ])

  pub cell_fits : (heaps : Heaps) (kind : ColumnKind) (cell : Cell) → Suits rows kind cell → GoesOn (heaps_after heaps cell) final
      → number_of heaps cell < 256 ^ width_of layout kind
  cell_fits heaps columns.UInt16 (Number n) suit on = omega (arith, suit)
  cell_fits heaps columns.UInt32 (Number n) suit on = omega (arith, suit)
  cell_fits heaps (columns.Heap heap_kinds.Strings) (Text text) suit on = text_fits heaps text on
  cell_fits heaps (columns.Heap heap_kinds.Blobs) (Blob blob) suit on = blob_fits heaps blob on
  cell_fits heaps (columns.Heap heap_kinds.Guids) (Number n) suit on =
      fits_width (layout.heap_sizes / 2 % 2 == 1) n (omega (arith, suit)) (λ narrow. omega (arith, suit))
  cell_fits heaps (columns.Coded kind) (Number n) suit on =
      let zero_is = suit.0 in fits_width (not (is_short layout kind)) n (omega (arith, zero_is)) (λ narrow. omega (arith, zero_is))
  cell_fits heaps (columns.Coded kind) (Coded own token) (same, ok) on =
      subst (λ k. coded_index own token < 256 ^ width_of layout (columns.Coded k)) same (index_fits own token ok)
  cell_fits heaps (columns.List table) (Number n) (within, fits) on = list_fits table n within fits
  cell_fits heaps kind cell suit on = absurd suit

  -- ---- rows and tables

  row_fits : (heaps : Heaps) (kinds : List ColumnKind) (cells : List Cell) → AllZip (Suits rows) kinds cells
      → GoesOn (row_after heaps cells) final
      → AllZip Fits (map (width_of layout) kinds) (row_numbers heaps cells)
  row_fits heaps [] [] suit on = tt
  row_fits heaps [] (cell ∷ cells) suit on = absurd suit
  row_fits heaps (kind ∷ kinds) [] suit on = absurd suit
  row_fits heaps (kind ∷ kinds) (cell ∷ cells) suit on =
      let next = heaps_after heaps cell in (
        cell_fits heaps kind cell suit.0 (goes_on_then next (row_after next cells) final (goes_on_row next cells) on),
        row_fits next kinds cells suit.1 on,
      )

  table_fits : (heaps : Heaps) (kinds : List ColumnKind) (table : List (List Cell))
      → ((i : ℕ) (row : List Cell) → slice_get table i ≡ Some row → AllZip (Suits rows) kinds row) → GoesOn (table_after heaps table) final
      → (i : ℕ) (numbers : List ℕ) → slice_get (table_numbers heaps table) i ≡ Some numbers
      → AllZip Fits (map (width_of layout) kinds) numbers
  table_fits heaps kinds [] suit on i numbers e = absurd (let h : ⊥ = cc in h)
  table_fits heaps kinds (row ∷ table) suit on zero numbers e =
      let next = row_after heaps row in
      let same : row_numbers heaps row ≡ numbers = cc in
      subst (λ (n : List ℕ). AllZip Fits (map (width_of layout) kinds) n) same
      (row_fits heaps kinds row (suit 0 row refl) (goes_on_then next (table_after next table) final (goes_on_table next table) on))
  table_fits heaps kinds (row ∷ table) suit on (suc i) numbers e =
      table_fits (row_after heaps row) kinds table (λ j r f. suit (suc j) r f) on i numbers e

  all_fit : (heaps : Heaps) (kinds : List ColumnKind) (all : List (List (List Cell))) (number : ℕ)
      → ((i : ℕ) (row : List Cell) → slice_get (get_or all number []) i ≡ Some row → AllZip (Suits rows) kinds row)
      → GoesOn (heaps_after_all table_after heaps all) final → (i : ℕ) (numbers : List ℕ)
      → slice_get (get_or (spelled_all table_after table_numbers heaps all) number []) i ≡ Some numbers
      → AllZip Fits (map (width_of layout) kinds) numbers
  all_fit heaps kinds [] number suit on i numbers e = absurd (let h : ⊥ = cc in h)
  all_fit heaps kinds (table ∷ all) zero suit on i numbers e =
      let next = table_after heaps table in
      table_fits heaps kinds table suit
      (goes_on_then next (heaps_after_all table_after next all) final (goes_on_list table_after goes_on_table next all) on) i numbers e
  all_fit heaps kinds (table ∷ all) (suc number) suit on i numbers e =
      all_fit (table_after heaps table) kinds all number suit on i numbers e

  same_heaps : GoesOn (heaps_after_all table_after no_heaps (tables_of asked)) final
  unfolding all_after
  same_heaps = goes_on_same final

  pub numbers_fit : (number i : ℕ) (numbers : List ℕ) → slice_get (get_or (content_of asked).tables number []) i ≡ Some numbers
      → AllZip Fits (widths_of layout number) numbers
  unfolding content_of all_numbers widths_of
  numbers_fit number i numbers e =
      all_fit no_heaps (columns_of number) (tables_of asked) number (all_suit asked sound number) same_heaps i numbers e

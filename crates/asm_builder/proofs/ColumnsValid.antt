-- Each column of a built file is valid, and no list falls: the checks 42 and 43.
use Rattle.std.proofs.Common.{◌≡◌, ◌≤◌, ◌<◌, ◌+◌, ◌-◌, ◌/◌, ◌%◌, ◌^◌, ◌++◌, ℕ, zero, suc, true, false, not}
use Rattle.std.proofs.Common.{cond, List, [], length, drop, get_or, Option, Some, None, inl, inr, refl, sym}
use Rattle.std.proofs.Common.{ap, ◌∙◌, subst, arith}
use Rattle.std.specs.Prelude.{◌==◌, ◌&&◌, is_some, nat_le, nat_lt, slice_get}
use Rattle.std.specs.List.{AllZip}
use Rattle.std.specs.Option.{option_and_then}
use Rattle.std.proofs.lemmas.Bool.{and_left, and_right, cases_Bool, cases_lt, le-leb, le-ltb}
use Rattle.std.proofs.lemmas.List.{get_or_past}
use Rattle.std.proofs.lemmas.List.FromFn.{get_or-map-range_with_len}
use Rattle.std.proofs.lemmas.Option.{slice_get-get_or}
use Rattle.std.proofs.Math.ListN.{get_or-map}
use Rattle.rtr_bytes.specs.Checks.{fault_or, first_fault, holds_or}
use Rattle.metadata.specs.declared.schema.Table.{Table}
use Rattle.metadata.specs.declared.schema.Heap.TheVariants as heap_kinds
use Rattle.metadata.specs.declared.schema.CodedKind.{CodedKind}
use Rattle.metadata.specs.declared.schema.ColumnKind.{ColumnKind}
use Rattle.metadata.specs.declared.schema.ColumnKind.TheVariants as columns
use Rattle.metadata.specs.Checks.{bad_column, column_checks, fallen_column, falls, first_column, first_in_row}
use Rattle.metadata.specs.Checks.{first_in_table, first_of, is_list, kind_of, or_else}
use Rattle.metadata.specs.Heaps.{coded_token as coded_by_layout, is_valid, row_token as row_by_layout}
use Rattle.metadata.specs.Heaps.{string_of, blob_of, blob_in, text_in, token}
use Rattle.metadata.specs.Schema.{columns_of, table_number, tag_bits, tagged_table}
use Rattle.metadata.specs.Tables.{Layout, column_at, layout_of, number_of, row_of, rows_of, table_of}
use Rattle.cli_assembly.specs.Assemblies.{Assembly, blob_at, coded_token, row_count, row_token, string_at}
use Rattle.asm_builder.specs.Asked.{Asked}
use Rattle.asm_builder.specs.Built.{Names}
use Rattle.asm_builder.specs.Cells.{Cell, Number, Text, Blob, Coded, tables_of}
use Rattle.asm_builder.specs.Content.{all_numbers, content_of, no_heaps}
use Rattle.asm_builder.specs.File.{metadata_at, metadata_bytes}
use Rattle.asm_builder.proofs.Sizes.{content_layout}
use Rattle.asm_builder.specs.Sound.{IsSound, rows_asked}
use Rattle.asm_builder.proofs.BuiltRecord.{built_assembly, has_heaps}
use Rattle.asm_builder.proofs.CellsNamed.{rows_counted, tables_named}
use Rattle.asm_builder.proofs.Coded.{bits_few}
use Rattle.asm_builder.proofs.MetadataBack.{layout_is, span_in}
use Rattle.asm_builder.proofs.PeBack.{IsShort}
use Rattle.asm_builder.proofs.Rises.{cell_in, number_in, rises}
use Rattle.asm_builder.proofs.Rows.{count_at, is_spelled, tables_are, tables_count}
use Rattle.asm_builder.proofs.RowsBuilt.{zip_at, zip_length}
use Rattle.asm_builder.proofs.Suits.{Suits, all_suit}
use Rattle.asm_builder.proofs.TablesBack.{blobs_back, strings_back, table_back}

zero_over : (k : ℕ) → k ≤ 5 → (0 / 2 ^ k ≡ 0) × (0 % 2 ^ k ≡ 0)
zero_over zero h = (refl, refl)
zero_over (suc zero) h = (refl, refl)
zero_over (suc (suc zero)) h = (refl, refl)
zero_over (suc (suc (suc zero))) h = (refl, refl)
zero_over (suc (suc (suc (suc zero)))) h = (refl, refl)
zero_over (suc (suc (suc (suc (suc zero))))) h = (refl, refl)
zero_over (suc (suc (suc (suc (suc (suc k)))))) h = absurd (omega arith)

-- the first answer is none where each is
none_of : (answer : ℕ → Option ℕ) (from n : ℕ) → ((k : ℕ) → from ≤ k → k < from + n → answer k ≡ None) → first_of answer from n ≡ None
unfolding first_of
none_of answer from zero all = refl
none_of answer from (suc n) all =
    ap (λ (o : Option ℕ). or_else o (first_of answer (from + 1) n)) (all from (omega arith) (omega arith))
    ∙ none_of answer (from + 1) n (λ k low high. all k (omega (arith, low)) (omega (arith, high)))

none_column : (layout : Layout) (answer : ℕ → ℕ → ℕ → Option ℕ)
    → ((table row column : ℕ) → 1 ≤ row → row ≤ rows_of layout table → column < length (columns_of table) → answer table row column ≡ None)
    → first_column layout answer ≡ None
unfolding first_column
none_column layout answer all =
    none_of (first_in_table layout answer) 0 64 (λ table _ _.
    none_of (first_in_row answer table) 1 (rows_of layout table) (λ row low high.
    none_of (answer table row) 0 (length (columns_of table))
    (λ column _ below. all table row column low (omega (arith, high)) (omega (arith, below)))))

module _ (bytes : List ℕ) (asked : Asked) (sound : IsSound asked) (short : IsShort (content_of asked)) (rest : List ℕ)
    (stands : drop (metadata_at (content_of asked)) bytes ≡ metadata_bytes (content_of asked) ++ rest) where
  abbrev layout : Layout
  layout = content_layout (content_of asked)

  abbrev rows : List ℕ
  rows = rows_asked (tables_of asked)

  abbrev a : Assembly
  a = built_assembly asked 0

  -- ---- the layout and the assembly have the same rows and heaps

  layout_rows : (n : ℕ) → rows_of layout n ≡ get_or rows n 0
  unfolding content_layout content_of
  layout_rows n = ap (λ (l : List ℕ). get_or l n 0) (rows_counted no_heaps (tables_of asked))

  layout_count : (n : ℕ) → rows_of layout n ≡ length (get_or (content_of asked).tables n [])
  unfolding content_layout
  layout_count n = get_or-map (λ (l : List (List ℕ)). length l) (content_of asked).tables n []

  assembly_tables : a.tables ≡ (content_of asked).tables
  unfolding built_assembly
  assembly_tables = refl

  assembly_strings : a.strings ≡ (content_of asked).strings
  unfolding built_assembly
  assembly_strings = refl

  assembly_blobs : a.blobs ≡ (content_of asked).blobs
  unfolding built_assembly
  assembly_blobs = refl

  same_count : (table : Table) → rows_of layout (table_number table) ≡ row_count a table
  same_count table = layout_count (table_number table)
      ∙ ap (λ (l : List (List (List ℕ))). length (get_or l (table_number table) [])) (sym assembly_tables)

  same_string : (at : ℕ) → string_of bytes layout at ≡ string_at a at
  unfolding string_of string_at
  same_string at =
      ap (λ (l : List ℕ). cond (at == 0) (Some []) (text_in (drop at l)))
      (strings_back bytes (content_of asked) (is_spelled asked sound) short rest stands ∙ sym assembly_strings)

  same_blob : (at : ℕ) → blob_of bytes layout at ≡ blob_at a at
  unfolding blob_of blob_at
  same_blob at =
      ap (λ (l : List ℕ). cond (at == 0) (Some []) (blob_in (drop at l)))
      (blobs_back bytes (content_of asked) (is_spelled asked sound) short rest stands ∙ sym assembly_blobs)

  same_row : (row : ℕ) (o : Option Table) → option_and_then (row_by_layout layout row) o ≡ option_and_then (row_token a row) o
  same_row row None = refl
  same_row row (Some table) = ap (λ n. cond (nat_le row n) (Some (token (table_number table) row)) None) (same_count table)

  same_coded : (kind : CodedKind) (value : ℕ) → coded_by_layout layout kind value ≡ coded_token a kind value
  unfolding coded_by_layout coded_token
  same_coded kind value = same_row (value / 2 ^ tag_bits kind) (tagged_table kind (value % 2 ^ tag_bits kind))

  guids_len : layout.guids.len ≡ 16
  unfolding content_layout content_of
  guids_len = refl

  -- ---- one cell

  some_row : (o : Option Table) → is_some o ≡ true → is_some (option_and_then (row_by_layout layout 0) o) ≡ true
  some_row None some = some
  some_row (Some table) some =
      let first : nat_le 0 (rows_of layout (table_number table)) ≡ true = le-leb _ _ (omega arith) in
      ap (λ b. is_some (cond b (Some (token (table_number table) 0)) None)) first

  no_row_valid : (kind : CodedKind) → is_some (tagged_table kind 0) ≡ true → is_some (coded_by_layout layout kind 0) ≡ true
  unfolding coded_by_layout
  no_row_valid kind some =
      let over = zero_over (tag_bits kind) (bits_few kind) in
      ap (λ r. is_some (option_and_then (row_by_layout layout r) (tagged_table kind (0 % 2 ^ tag_bits kind)))) over.0
      ∙ ap (λ t. is_some (option_and_then (row_by_layout layout 0) (tagged_table kind t))) over.1
      ∙ some_row (tagged_table kind 0) some

  cell_valid : (kind : ColumnKind) (cell : Cell) (value : ℕ) → Suits rows kind cell → Names a cell value
      → is_valid bytes layout kind value ≡ true
  unfolding is_valid
  cell_valid columns.UInt16 (Number n) value suit named = refl
  cell_valid columns.UInt32 (Number n) value suit named = refl
  cell_valid (columns.Heap heap_kinds.Strings) (Text text) value suit named = ap is_some (same_string value ∙ named)
  cell_valid (columns.Heap heap_kinds.Blobs) (Blob blob) value suit named = ap is_some (same_blob value ∙ named)
  cell_valid (columns.Heap heap_kinds.Guids) (Number n) value suit named =
      let one : layout.guids.len / 16 ≡ 1 = ap (λ k. k / 16) guids_len in
      le-leb value (layout.guids.len / 16) (omega (arith, one, suit, named))
  cell_valid (columns.Coded kind) (Number n) value (none, some) named =
      ap (λ v. is_some (coded_by_layout layout kind v)) (named ∙ none) ∙ no_row_valid kind some
  cell_valid (columns.Coded kind) (Coded own token) value (same, ok) named =
      ap (λ k. is_some (coded_by_layout layout k value)) (sym same) ∙ ap is_some (same_coded own value ∙ named)
  cell_valid (columns.List table) (Number n) value (within, fits) named =
      let count = layout_rows (table_number table) in
      le-leb value (rows_of layout (table_number table) + 1) (omega (arith, within, named, count))
  cell_valid kind cell value suit named = absurd suit

  -- ---- the numbers that are read

  number_is : (table i column : ℕ) → table < 64 → i < rows_of layout table → column < length (columns_of table)
      → number_of bytes layout table (i + 1) column ≡ get_or (get_or (get_or (content_of asked).tables table []) i []) column 0
  unfolding table_of
  number_is table i column small lt below =
      let back = table_back bytes (content_of asked) (is_spelled asked sound) short rest stands table small in
      let row : get_or (table_of bytes layout table) i [] ≡ row_of bytes layout table (i + 1) =
      get_or-map-range_with_len (row_of bytes layout table) 1 (rows_of layout table) i (i + 1) [] lt (omega arith) in
      let cell =
      get_or-map-range_with_len (number_of bytes layout table (i + 1)) 0 (length (columns_of table)) column column 0
      below (omega arith) in
      sym cell ∙ ap (λ (l : List ℕ). get_or l column 0) (sym row) ∙ ap (λ (t : List (List ℕ)). get_or (get_or t i []) column 0) back

  few_tables : (table row : ℕ) → 1 ≤ row → row ≤ rows_of layout table → table < 64
  few_tables table row first last = elim (cases_lt table 64) [
    | inl small ↦ small
    | inr past ↦
        let count = tables_count asked sound in
        let none = ap (λ (l : List (List ℕ)). length l) (get_or_past (content_of asked).tables table [] (omega (arith, count, past))) in
        let rows_none = layout_count table in
        absurd (omega (arith, none, rows_none, first, last))
  ]

  cells_there : (table i : ℕ) → i < rows_of layout table
      → slice_get (get_or (tables_of asked) table []) i ≡ Some (get_or (get_or (tables_of asked) table []) i [])
  cells_there table i lt =
      let count = layout_count table ∙ count_at asked sound table in
      slice_get-get_or (get_or (tables_of asked) table []) i [] (omega (arith, count, lt))

  row_suits : (table i : ℕ) → i < rows_of layout table
      → AllZip (Suits rows) (columns_of table) (get_or (get_or (tables_of asked) table []) i [])
  row_suits table i lt = all_suit asked sound table i (get_or (get_or (tables_of asked) table []) i []) (cells_there table i lt)

  column_suits : (table i column : ℕ) → i < rows_of layout table → column < length (columns_of table)
      → Suits rows (kind_of table column) (cell_in asked table i column)
  column_suits table i column lt below =
      zip_at (Suits rows) (columns_of table) (get_or (get_or (tables_of asked) table []) i []) column
      (kind_of table column) (Number 0) (row_suits table i lt)
      (slice_get-get_or (columns_of table) column columns.UInt16 below)

  column_named : (table i column : ℕ) → table < 64 → i < rows_of layout table → column < length (columns_of table)
      → Names a (cell_in asked table i column) (number_of bytes layout table (i + 1) column)
  column_named table i column small lt below =
      let cells = get_or (tables_of asked) table [] in
      let all = tables_named a rows (tables_of asked) (has_heaps asked 0 sound) sound.cells table in
      let row = zip_at (AllZip (Names a)) (get_or (tables_of asked) table []) (get_or (all_numbers no_heaps (tables_of asked)) table []) i
      (get_or (get_or (tables_of asked) table []) i []) [] all (cells_there table i lt) in
      let width = zip_length (Suits rows) (columns_of table) (get_or (get_or (tables_of asked) table []) i []) (row_suits table i lt) in
      let cell =
      zip_at (Names a) (get_or (get_or (tables_of asked) table []) i [])
      (get_or (get_or (all_numbers no_heaps (tables_of asked)) table []) i []) column
      (cell_in asked table i column) 0 row
      (slice_get-get_or (get_or (get_or (tables_of asked) table []) i []) column (Number 0) (omega (arith, width, below))) in
      let value : get_or (get_or (get_or (all_numbers no_heaps (tables_of asked)) table []) i []) column 0
      ≡ number_of bytes layout table (i + 1) column =
      ap (λ (t : List (List (List ℕ))). get_or (get_or (get_or t table []) i []) column 0) (sym (tables_are asked sound))
      ∙ sym (number_is table i column small lt below) in
      subst (λ v. Names a (cell_in asked table i column) v) value cell

  valid_at : (table i column : ℕ) → table < 64 → i < rows_of layout table → column < length (columns_of table)
      → is_valid bytes layout (kind_of table column) (number_of bytes layout table (i + 1) column) ≡ true
  valid_at table i column small lt below =
      cell_valid (kind_of table column) (cell_in asked table i column) (number_of bytes layout table (i + 1) column)
      (column_suits table i column lt below)
      (column_named table i column small lt below)

  no_column : (table column value : ℕ) → length (columns_of table) ≤ column → is_valid bytes layout (kind_of table column) value ≡ true
  unfolding is_valid
  no_column table column value past =
      ap (λ (k : ColumnKind). is_valid bytes layout k value) (get_or_past (columns_of table) column columns.UInt16 past)

  pub columns_valid : (table row column : ℕ) → 1 ≤ row → row ≤ rows_of layout table
      → is_valid bytes layout (kind_of table column) (number_of bytes layout table row column) ≡ true
  columns_valid table row column first last = elim (cases_lt column (length (columns_of table))) [
    | inl below ↦
        let at : row - 1 + 1 ≡ row = omega arith in
        subst (λ r. is_valid bytes layout (kind_of table column) (number_of bytes layout table r column) ≡ true) at
        (valid_at table (row - 1) column (few_tables table row first last) (omega (arith, first, last)) below)
    | inr past ↦ no_column table column (number_of bytes layout table row column) past
  ]

  -- ---- lists

  list_number : (kind : ColumnKind) (cell : Cell) (value : ℕ) → is_list kind ≡ true → Suits rows kind cell
      → Names a cell value → value ≡ number_in cell
  list_number (columns.List table) (Number n) value list suit named = named
  list_number (columns.List table) (Text text) value list suit named = absurd suit
  list_number (columns.List table) (Blob blob) value list suit named = absurd suit
  list_number (columns.List table) (Coded kind token) value list suit named = absurd suit
  list_number columns.UInt16 cell value list suit named = absurd (let h : ⊥ = cc in h)
  list_number columns.UInt32 cell value list suit named = absurd (let h : ⊥ = cc in h)
  list_number (columns.Heap heap) cell value list suit named = absurd (let h : ⊥ = cc in h)
  list_number (columns.Row table) cell value list suit named = absurd (let h : ⊥ = cc in h)
  list_number (columns.Coded kind) cell value list suit named = absurd (let h : ⊥ = cc in h)

  no_fall : (table row column : ℕ) → 1 < row → row ≤ rows_of layout table → column < length (columns_of table)
      → is_list (kind_of table column) ≡ true
      → falls bytes layout table row column ≡ false
  no_fall table row column second last below list =
      let small = few_tables table row (omega (arith, second)) last in
      let i = row - 2 in
      let this : number_of bytes layout table (row - 1 + 1) column ≡ number_in (cell_in asked table (row - 1) column) =
      list_number (kind_of table column) (cell_in asked table (row - 1) column) (number_of bytes layout table (row - 1 + 1) column) list
      (column_suits table (row - 1) column (omega (arith, second, last)) below)
      (column_named table (row - 1) column small (omega (arith, second, last)) below) in
      let before : number_of bytes layout table (row - 2 + 1) column ≡ number_in (cell_in asked table (row - 2) column) =
      list_number (kind_of table column) (cell_in asked table (row - 2) column) (number_of bytes layout table (row - 2 + 1) column) list
      (column_suits table (row - 2) column (omega (arith, second, last)) below)
      (column_named table (row - 2) column small (omega (arith, second, last)) below) in
      let same : number_of bytes layout table (row - 1 + 1) column ≡ number_of bytes layout table row column =
      ap (λ r. number_of bytes layout table r column) (let e : row - 1 + 1 ≡ row = omega arith in e) in
      let same_before : number_of bytes layout table (row - 2 + 1) column ≡ number_of bytes layout table (row - 1) column =
      ap (λ r. number_of bytes layout table r column) (let e : row - 2 + 1 ≡ row - 1 = omega arith in e) in
      let count = layout_count table ∙ count_at asked sound table in
      let up = rises asked sound table (row - 2) (row - 1) column (omega (arith, second)) (omega (arith, second, last, count)) list in
      le-ltb _ _ (omega (arith, this, before, same, same_before, up))

  fallen_none : (table row column : ℕ) → 1 ≤ row → row ≤ rows_of layout table → column < length (columns_of table)
      → ((is_list (kind_of table column) && nat_lt 1 row) && falls bytes layout table row column) ≡ false
  fallen_none table row column first last below = elim (cases_Bool (is_list (kind_of table column))) [
    | inr other ↦
        and_left (is_list (kind_of table column) && nat_lt 1 row) (falls bytes layout table row column)
        (and_left (is_list (kind_of table column)) (nat_lt 1 row) other)
    | inl list ↦ elim (cases_lt 1 row) [
      | inl second ↦
          and_right (is_list (kind_of table column) && nat_lt 1 row) (falls bytes layout table row column)
          (no_fall table row column second last below list)
      | inr not_second ↦
          and_left (is_list (kind_of table column) && nat_lt 1 row) (falls bytes layout table row column)
          (and_right (is_list (kind_of table column)) (nat_lt 1 row) (le-ltb _ _ not_second))
    ]
  ]

  bad_none : first_column layout (bad_column bytes layout) ≡ None
  bad_none =
      none_column layout (bad_column bytes layout) (λ table row column first last below.
      ap (λ b. holds_or b (column_at layout table row column)) (columns_valid table row column first last))

  falls_none : first_column layout (fallen_column bytes layout) ≡ None
  falls_none =
      none_column layout (fallen_column bytes layout) (λ table row column first last below.
      ap (λ b. holds_or (not b) (column_at layout table row column)) (fallen_none table row column first last below))

  pub columns_pass : first_fault (column_checks (span_in (content_of asked))) bytes ≡ None
  columns_pass =
      let is = layout_is bytes (content_of asked) (is_spelled asked sound) short rest stands in
      let of = layout_of bytes (span_in (content_of asked)) in
      ap (λ (o : Option ℕ). fault_or 42 o (fault_or 43 (first_column of (fallen_column bytes of)) None))
      (ap (λ (l : Layout). first_column l (bad_column bytes l)) is ∙ bad_none)
      ∙ ap (λ (o : Option ℕ). fault_or 43 o None) (ap (λ (l : Layout). first_column l (fallen_column bytes l)) is ∙ falls_none)

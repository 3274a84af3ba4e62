-- The rows of a built file, read back, for any content whose numbers fit their columns: nothing is asked of a single table.
use Rattle.std.proofs.Common.{◌≡◌, ◌<◌, ◌+◌, ◌-◌, ◌*◌, ◌/◌, ◌%◌, ◌^◌, ◌==◌, ℕ, List, [], ◌∷◌, ◌++◌, length, map, get_or}
use Rattle.std.proofs.Common.{drop, take, Option, refl, sym, ap, ◌∙◌, subst, arith}
use Rattle.std.specs.Prelude.{All, IsTrue, sum_by, not, unwrap_or, nat_le, nat_lt}
use Rattle.std.specs.List.{AllByRecursion, AllZip, filter, list_all, range_with_len}
use Rattle.std.proofs.lemmas.List.{ext_get_or, get_or-map, length-map, take_at}
use Rattle.std.proofs.lemmas.List.Elements.{length_all_zip, recursion_from_All}
use Rattle.std.proofs.lemmas.List.FromFn.{fill_by_all, get_or-map-range_with_len, length-map-range_with_len}
use Rattle.rtr_bytes.specs.Field.{field_at}
use Rattle.metadata.specs.declared.schema.CodedTable.{CodedTable}
use Rattle.metadata.specs.declared.schema.ColumnKind.{ColumnKind}
use Rattle.metadata.specs.declared.schema.ColumnKind.TheVariants as columns
use Rattle.metadata.specs.declared.schema.TheConstants.{CODED_TABLES}
use Rattle.metadata.specs.Checks.{is_known}
use Rattle.metadata.specs.Heaps.{heap_bytes}
use Rattle.metadata.specs.Schema.{columns_of, kind_number, table_number, tag_bits}
use Rattle.metadata.specs.Tables.{Layout, column_at, heap_bit, is_short, number_of, row_at, row_of, row_size, rows_of}
use Rattle.metadata.specs.Tables.{table_at, table_of, table_size, width, width_of, widths_of}
use Rattle.asm_builder.specs.declared.content.Content.{Content}
use Rattle.asm_builder.specs.File.{metadata_at, metadata_bytes, row_bytes, sized, table_bytes}
use Rattle.asm_builder.proofs.Sizes.{content_layout}
use Rattle.asm_builder.proofs.PeBack.{IsShort}
use Rattle.asm_builder.proofs.MetadataStand.{MetadataStands, TablesStand, length-metadata_parts, metadata_stands}
use Rattle.asm_builder.proofs.MetadataStand.{rows_bytes, rows_place_in, tables_place, tables_stand_in}
use Rattle.asm_builder.proofs.TablesInRow.{Fits, HaveSizes, have_sizes, length-table, row_back, rows_sized, tables_stand}
use Rattle.asm_builder.proofs.TablesStand.{Stands, record_stands, stands_as, stands_here}

-- the rows of a table fit its columns, one number each
abbrev pub RowsFit : Content → ℕ → Type 0
RowsFit content table = All (AllZip Fits (widths_of (sized content) table)) (get_or content.tables table [])

-- 64 tables, of which only those of the standard have rows, and fewer than 2^24; each number fits; and heaps are multiples of 4
pub record IsSpelled (content : Content) : Type 0 where
  pub count : length content.tables ≡ 64
  pub few : All (λ (rows : List (List ℕ)). length rows < 2 ^ 24) content.tables
  pub known : (table : ℕ) → 0 < length (get_or content.tables table []) → IsTrue (is_known table)
  pub fit : (table : ℕ) → RowsFit content table
  pub strings : (n : ℕ) × (length content.strings ≡ 4 * n)
  pub user_strings : (n : ℕ) × (length content.user_strings ≡ 4 * n)
  pub guids : length content.guids ≡ 16
  pub blobs : (n : ℕ) × (length content.blobs ≡ 4 * n)
  pub bodies : (n : ℕ) × (length content.bodies ≡ 4 * n)

-- ---- widths depend on HeapSizes and the numbers of rows alone

width_same : (a b : Layout) → a.heap_sizes ≡ b.heap_sizes → a.rows ≡ b.rows → (kind : ColumnKind) → width_of a kind ≡ width_of b kind
unfolding is_short
width_same a b heaps rows columns.UInt16 = refl
width_same a b heaps rows columns.UInt32 = refl
width_same a b heaps rows (columns.Heap heap) = ap (λ (h : ℕ). width (h / heap_bit heap % 2 == 1)) heaps
width_same a b heaps rows (columns.Row table) = ap (λ (r : List ℕ). width (nat_le (2 ^ 16) (get_or r (table_number table) 0))) rows
width_same a b heaps rows (columns.Coded kind) =
    ap (λ (r : List ℕ). width
    (not (list_all (λ (t : CodedTable). nat_lt (get_or r (table_number t.table) 0) (2 ^ (16 - tag_bits kind)))
    (filter (λ (t : CodedTable). kind_number t.kind == kind_number kind) CODED_TABLES)))) rows
width_same a b heaps rows (columns.List table) = ap (λ (r : List ℕ). width (nat_le (2 ^ 16) (get_or r (table_number table) 0))) rows

map_same : {X Y : Type 0} (f g : X → Y) (xs : List X) → ((x : X) → f x ≡ g x) → map f xs ≡ map g xs
map_same f g [] same = refl
map_same f g (x ∷ xs) same = rw (same x, map_same f g xs same) refl

pub widths_same : (a b : Layout) (table : ℕ) → a.heap_sizes ≡ b.heap_sizes → a.rows ≡ b.rows → widths_of a table ≡ widths_of b table
unfolding widths_of
widths_same a b table heaps rows = map_same (width_of a) (width_of b) (columns_of table) (width_same a b heaps rows)

pub length-widths : (layout : Layout) (table : ℕ) → length (widths_of layout table) ≡ length (columns_of table)
unfolding widths_of
length-widths layout table = length-map (columns_of table) (width_of layout)

-- ---- in a layout with the widths and the counts of a content

pub record IsLaid (layout : Layout) (content : Content) (at : ℕ) : Type 0 where
  pub heap_sizes : layout.heap_sizes ≡ (sized content).heap_sizes
  pub rows : layout.rows ≡ map length content.tables
  pub rows_at : layout.rows_at ≡ rows_place_in content at

module _ (bytes : List ℕ) (content : Content) (is : IsSpelled content) (layout : Layout) (at : ℕ)
    (laid : IsLaid layout content at) (stand : TablesStand bytes content at) where
  widths : ℕ → List ℕ
  widths table = widths_of (sized content) table

  abbrev rows_in : ℕ → List (List ℕ)
  rows_in table = get_or content.tables table []

  widths_are : (table : ℕ) → widths_of layout table ≡ widths_of (sized content) table
  widths_are table = widths_same layout (sized content) table laid.heap_sizes laid.rows

  size_is : (table : ℕ) → row_size layout table ≡ sum_by (λ w. w) (widths_of (sized content) table)
  unfolding row_size
  size_is table = ap (λ (ws : List ℕ). sum_by (λ w. w) ws) (widths_are table)

  pub count_is : (table : ℕ) → table < 64 → rows_of layout table ≡ length (rows_in table)
  count_is table below =
      let count = is.count in
      ap (λ (r : List ℕ). get_or r table 0) laid.rows
      ∙ get_or-map (λ (r : List (List ℕ)). length r) content.tables table [] 0 (omega (arith, below, count))

  fit_in : (table : ℕ) → AllByRecursion (AllZip Fits (widths_of (sized content) table)) (rows_in table)
  fit_in table = recursion_from_All (AllZip Fits (widths_of (sized content) table)) (rows_in table) (is.fit table)

  length-table_in : (table : ℕ) → table < 64 → length (table_bytes (sized content) table (rows_in table)) ≡ table_size layout table
  length-table_in table below =
      length-table (widths_of (sized content) table) (rows_in table) (fit_in table)
      ∙ ap (λ (n : ℕ). n * sum_by (λ w. w) (widths_of (sized content) table)) (sym (count_is table below))
      ∙ ap (λ (n : ℕ). rows_of layout table * n) (sym (size_is table))

  pub sizes_in : HaveSizes (sized content) (table_size layout) 0 content.tables
  sizes_in = have_sizes (sized content) (table_size layout) 0 content.tables (λ i below.
      let count = is.count in
      let same : i ≡ 0 + i = omega arith in
      subst (λ (t : ℕ). length (table_bytes (sized content) t (rows_in i)) ≡ table_size layout t) same
      (length-table_in i (omega (arith, below, count))))

  rows_stand : (table : ℕ) → table < 64 → Stands bytes (table_at layout table) (table_bytes (sized content) table (rows_in table))
  unfolding table_at
  rows_stand table below =
      let count = is.count in
      let start = laid.rows_at in
      let whole =
      stands_as bytes (rows_place_in content at) layout.rows_at (rows_bytes content) (rows_bytes content) (sym start) refl stand.rows in
      let here =
      tables_stand (sized content) (table_size layout) bytes 0 content.tables layout.rows_at sizes_in whole table
      (omega (arith, below, count)) in
      let same : 0 + table ≡ table = omega arith in
      stands_as bytes (table_at layout table) (table_at layout table) (table_bytes (sized content) (0 + table) (rows_in table))
      (table_bytes (sized content) table (rows_in table))
      refl (ap (λ (t : ℕ). table_bytes (sized content) t (rows_in table)) same) here

  -- rows count from 1
  row_stands : (table i : ℕ) → table < 64 → i < length (rows_in table)
      → Stands bytes (row_at layout table (i + 1)) (row_bytes (widths_of (sized content) table) (get_or (rows_in table) i []))
  row_stands table i below less =
      let ws = widths_of (sized content) table in
      let here =
      record_stands (row_bytes ws) (sum_by (λ w. w) ws) bytes (rows_in table) (table_at layout table)
      (rows_sized ws (rows_in table) (fit_in table)) (rows_stand table below) i [] less in
      let size = size_is table in
      let place : table_at layout table + i * sum_by (λ w. w) ws ≡ row_at layout table (i + 1) =
      ap (λ (n : ℕ). table_at layout table + i * n) (sym size)
      ∙ ap (λ (n : ℕ). table_at layout table + n * row_size layout table) (let e : i ≡ i + 1 - 1 = omega arith in e) in
      stands_as bytes (table_at layout table + i * sum_by (λ w. w) ws) (row_at layout table (i + 1))
      (row_bytes ws (get_or (rows_in table) i [])) (row_bytes ws (get_or (rows_in table) i [])) place refl here

  pub number_back : (table i column : ℕ) → table < 64 → i < length (rows_in table) → column < length (widths_of (sized content) table)
      → number_of bytes layout table (i + 1) column ≡ get_or (get_or (rows_in table) i []) column 0
  unfolding number_of column_at
  number_back table i column below less inside =
      let ws = widths_of (sized content) table in
      let at_row = row_at layout table (i + 1) in
      ap (λ (v : List ℕ). unwrap_or (field_at (get_or v column 0) bytes (at_row + sum_by (λ w. w) (take column v))) 0) (widths_are table)
      ∙ ap (λ (o : Option ℕ). unwrap_or o 0)
      (row_back bytes at_row ws (get_or (rows_in table) i []) (is.fit table i [] less) (row_stands table i below less) column inside)

  pub row_is : (table i : ℕ) → table < 64 → i < length (rows_in table) → row_of bytes layout table (i + 1) ≡ get_or (rows_in table) i []
  row_is table i below less =
      let ws = widths_of (sized content) table in
      let row = get_or (rows_in table) i [] in
      let same : length ws ≡ length row = length_all_zip Fits ws row (is.fit table i [] less) in
      let size : length ws ≡ length (columns_of table) = length-widths (sized content) table in
      sym (fill_by_all (number_of bytes layout table (i + 1)) row (length (columns_of table)) 0 (omega (arith, same, size))
      (λ k inside. sym (number_back table i k below less (omega (arith, size, inside)))))

  pub table_is : (table : ℕ) → table < 64 → table_of bytes layout table ≡ rows_in table
  unfolding table_of
  table_is table below =
      let n = rows_of layout table in
      let read = map (row_of bytes layout table) (range_with_len 1 n) in
      let size : length read ≡ n = length-map-range_with_len (row_of bytes layout table) 1 n in
      let count = count_is table below in
      ext_get_or [] read (rows_in table) (omega (arith, size, count)) (λ i less.
      let inside : i < n = omega (arith, less, size) in
      get_or-map-range_with_len (row_of bytes layout table) 1 n i (i + 1) [] inside (omega arith)
      ∙ row_is table i below (omega (arith, inside, count)))

-- ---- the content's layout

pub content_laid : (content : Content) → IsLaid (content_layout content) content (tables_place (metadata_at content))
unfolding content_layout
content_laid content = record { heap_sizes = refl; rows = refl; rows_at = refl }

pub all_stands : (bytes : List ℕ) (content : Content) (rest : List ℕ) → drop (metadata_at content) bytes ≡ metadata_bytes content ++ rest
    → MetadataStands bytes content (metadata_at content)
all_stands bytes content rest stands =
    metadata_stands bytes content (metadata_at content)
    (stands_here bytes (metadata_at content) (metadata_bytes content) rest
    (let size = length-metadata_parts content in omega (arith, size)) stands)

heap_back : (bytes : List ℕ) (at : ℕ) (heap : List ℕ) → Stands bytes at heap → take (length heap) (drop at bytes) ≡ heap
heap_back bytes at heap s = ap (λ (t : List ℕ). take (length heap) t) s.is ∙ take_at heap s.rest (length heap) refl

module _ (bytes : List ℕ) (content : Content) (is : IsSpelled content) (short : IsShort content) (rest : List ℕ)
    (stands : drop (metadata_at content) bytes ≡ metadata_bytes content ++ rest) where
  -- each table, and each heap, at the places of the content's layout
  pub table_back : (table : ℕ) → table < 64 → table_of bytes (content_layout content) table ≡ get_or content.tables table []
  table_back table below =
      let all = all_stands bytes content rest stands in
      table_is bytes content is (content_layout content) (tables_place (metadata_at content)) (content_laid content)
      (tables_stand_in bytes content (tables_place (metadata_at content)) all.tables) table below

  -- each number of a row: rows count from 1
  pub number_is : (table i column : ℕ) → table < 64 → i < length (get_or content.tables table [])
      → column < length (widths_of (sized content) table)
      → number_of bytes (content_layout content) table (i + 1) column ≡ get_or (get_or (get_or content.tables table []) i []) column 0
  number_is table i column below less inside =
      let all = all_stands bytes content rest stands in
      number_back bytes content is (content_layout content) (tables_place (metadata_at content)) (content_laid content)
      (tables_stand_in bytes content (tables_place (metadata_at content)) all.tables) table i column below less inside

  pub strings_back : heap_bytes bytes (content_layout content).strings ≡ content.strings
  unfolding content_layout
  strings_back = heap_back bytes _ content.strings (all_stands bytes content rest stands).strings

  pub user_strings_back : heap_bytes bytes (content_layout content).user_strings ≡ content.user_strings
  unfolding content_layout
  user_strings_back = heap_back bytes _ content.user_strings (all_stands bytes content rest stands).user_strings

  pub guids_back : heap_bytes bytes (content_layout content).guids ≡ content.guids
  unfolding content_layout
  guids_back = heap_back bytes _ content.guids (all_stands bytes content rest stands).guids

  pub blobs_back : heap_bytes bytes (content_layout content).blobs ≡ content.blobs
  unfolding content_layout
  blobs_back = heap_back bytes _ content.blobs (all_stands bytes content rest stands).blobs

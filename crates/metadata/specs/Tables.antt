-- The tables of metadata (ECMA-335 II.24.2.6), each column of each row by its place.
use Rattle.std.specs.Prelude.{ℕ, ◌+◌, ◌-◌, ◌*◌, ◌/◌, ◌%◌, ◌^◌, ◌==◌, ◌&&◌, Bool, true, false, not, List, length, map}
use Rattle.std.specs.Prelude.{take, get_or, filter, count_by, sum_by, Option, Some, None, nat_lt, nat_le, if◌then◌else◌}
use Rattle.std.specs.Prelude.{unwrap_or, slice_index}
use Rattle.std.specs.List.{list_all, range_with_len}
use Rattle.rtr_bytes.specs.declared.fault.Span.{Span}
use Rattle.rtr_bytes.specs.Field.{field_at, u32_of}
use Rattle.metadata.specs.declared.schema.Heap.{Heap}
use Rattle.metadata.specs.declared.schema.Heap.TheVariants as heaps
use Rattle.metadata.specs.declared.schema.Table.{Table}
use Rattle.metadata.specs.declared.schema.CodedKind.{CodedKind}
use Rattle.metadata.specs.declared.schema.CodedTable.{CodedTable}
use Rattle.metadata.specs.declared.schema.TheConstants.{CODED_TABLES}
use Rattle.metadata.specs.declared.schema.ColumnKind.{ColumnKind}
use Rattle.metadata.specs.declared.schema.ColumnKind.TheVariants as columns
use Rattle.metadata.specs.Schema.{columns_of, kind_number, table_number, tag_bits}
use Rattle.metadata.specs.Streams.{blobs_name, guids_name, stream_of, strings_name, tables_name, user_strings_name}

-- What a reader keeps of metadata: where its heaps are, how many rows each of 64 tables has, which heap indexes have four
-- bytes, and where the rows begin.
pub record Layout : Type 0 where
  pub strings : Span
  pub user_strings : Span
  pub guids : Span
  pub blobs : Span
  pub heap_sizes : ℕ
  pub rows : List ℕ
  pub rows_at : ℕ

-- ---- the header of the tables' stream, by the stream's place

-- HeapSizes, Valid
abbrev pub heap_sizes_of : List ℕ → ℕ → ℕ
heap_sizes_of bytes at = slice_index bytes (at + 6)

abbrev pub valid_of : List ℕ → ℕ → ℕ
valid_of bytes at = unwrap_or (field_at 8 bytes (at + 8)) 0

-- a table is there where its bit of Valid is set
abbrev pub has_table : ℕ → ℕ → Bool
has_table valid table = valid / 2 ^ table % 2 == 1

-- how many tables below one are there: so many counts come before its own
unfoldable pub tables_below : ℕ → ℕ → ℕ
tables_below valid table = count_by (has_table valid) (range_with_len 0 table)

abbrev pub count_at : List ℕ → ℕ → ℕ → ℕ
count_at bytes at table = at + 24 + 4 * tables_below (valid_of bytes at) table

unfoldable pub row_count : List ℕ → ℕ → ℕ → ℕ
row_count bytes at table = if has_table (valid_of bytes at) table then u32_of bytes (count_at bytes at table) else 0

-- how many rows each of 64 tables has
unfoldable pub row_counts : List ℕ → ℕ → List ℕ
row_counts bytes at = map (row_count bytes at) (range_with_len 0 64)

-- the rows begin after the last count
abbrev pub rows_place : List ℕ → ℕ → ℕ
rows_place bytes at = count_at bytes at 64

unfoldable pub layout_of : List ℕ → Span → Layout
layout_of bytes span =
    let at = (stream_of bytes span tables_name).start in
    record {
      strings = stream_of bytes span strings_name;
      user_strings = stream_of bytes span user_strings_name;
      guids = stream_of bytes span guids_name;
      blobs = stream_of bytes span blobs_name;
      heap_sizes = heap_sizes_of bytes at;
      rows = row_counts bytes at;
      rows_at = rows_place bytes at;
    }

-- ---- widths

abbrev pub rows_of : Layout → ℕ → ℕ
rows_of layout table = get_or layout.rows table 0

abbrev pub heap_bit : Heap → ℕ
heap_bit heaps.Strings = 1
heap_bit heaps.Guids = 2
heap_bit heaps.Blobs = 4

-- an index into a table, or into one of several, has two bytes where they hold each of its values
abbrev pub is_wide_row : Layout → Table → Bool
is_wide_row layout table = nat_le (2 ^ 16) (rows_of layout (table_number table))

abbrev pub is_short_in : List CodedTable → Layout → CodedKind → Bool
is_short_in tagged layout kind =
    list_all (λ t. nat_lt (rows_of layout (table_number t.table)) (2 ^ (16 - tag_bits kind)))
    (filter (λ t. kind_number t.kind == kind_number kind) tagged)

unfoldable pub is_short : Layout → CodedKind → Bool
is_short layout kind = is_short_in CODED_TABLES layout kind

-- a column has four bytes
abbrev pub is_wide : Layout → ColumnKind → Bool
is_wide layout columns.UInt16 = false
is_wide layout columns.UInt32 = true
is_wide layout (columns.Heap heap) = layout.heap_sizes / heap_bit heap % 2 == 1
is_wide layout (columns.Row table) = is_wide_row layout table
is_wide layout (columns.Coded kind) = not (is_short layout kind)
is_wide layout (columns.List table) = is_wide_row layout table

-- and else two
abbrev pub width : Bool → ℕ
width wide = if wide then 4 else 2

abbrev pub width_of : Layout → ColumnKind → ℕ
width_of layout kind = width (is_wide layout kind)

unfoldable pub widths_of : Layout → ℕ → List ℕ
widths_of layout table = map (width_of layout) (columns_of table)

unfoldable pub row_size : Layout → ℕ → ℕ
row_size layout table = sum_by (λ w. w) (widths_of layout table)

-- ---- places: tables one after the other by number, rows from 1, columns from 0

abbrev pub table_size : Layout → ℕ → ℕ
table_size layout table = rows_of layout table * row_size layout table

unfoldable pub table_at : Layout → ℕ → ℕ
table_at layout table = layout.rows_at + sum_by (table_size layout) (range_with_len 0 table)

abbrev pub row_at : Layout → ℕ → ℕ → ℕ
row_at layout table row = table_at layout table + (row - 1) * row_size layout table

unfoldable pub column_at : Layout → ℕ → ℕ → ℕ → ℕ
column_at layout table row column = row_at layout table row + sum_by (λ w. w) (take column (widths_of layout table))

-- the number of a column
unfoldable pub number_of : List ℕ → Layout → ℕ → ℕ → ℕ → ℕ
number_of bytes layout table row column =
    unwrap_or (field_at (get_or (widths_of layout table) column 0) bytes (column_at layout table row column)) 0

-- a row, and a table, as lists of numbers
abbrev pub row_of : List ℕ → Layout → ℕ → ℕ → List ℕ
row_of bytes layout table row = map (number_of bytes layout table row) (range_with_len 0 (length (columns_of table)))

unfoldable pub table_of : List ℕ → Layout → ℕ → List (List ℕ)
table_of bytes layout table = map (row_of bytes layout table) (range_with_len 1 (rows_of layout table))

-- the column of a row, where there is one: rows count from 1, columns from 0
abbrev pub has_column : Layout → ℕ → ℕ → ℕ → Bool
has_column layout table row column = nat_le 1 row && (nat_le row (rows_of layout table) && nat_lt column (length (columns_of table)))

unfoldable pub column_of : List ℕ → Layout → ℕ → ℕ → ℕ → Option ℕ
column_of bytes layout table row column =
    if has_column layout table row column then Some (number_of bytes layout table row column) else None

-- its place in the file
unfoldable pub column_place : Layout → ℕ → ℕ → ℕ → Option ℕ
column_place layout table row column =
    if has_column layout table row column then Some (column_at layout table row column) else None

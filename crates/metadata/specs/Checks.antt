-- The checks of metadata at a range of the file, each computed from the bytes alone.
use Rattle.std.specs.Prelude.{ℕ, zero, suc, ◌+◌, ◌-◌, ◌%◌, ◌^◌, ◌==◌, ◌&&◌, ◌||◌, not, Bool, true, false, List, [], ◌∷◌}
use Rattle.std.specs.Prelude.{◌++◌, length, get_or, find, Option, Some, None, nat_le, nat_lt, is_some}
use Rattle.std.specs.Option.{option_map}
use Rattle.std.specs.List.{list_all, list_any, range_with_len}
use Rattle.rtr_bytes.specs.declared.fault.Span.{Span}
use Rattle.rtr_bytes.specs.Field.{u32_of}
use Rattle.rtr_bytes.specs.Checks.{Check, check, holds_or}
use Rattle.metadata.specs.declared.schema.Table.TheVariants as tables
use Rattle.metadata.specs.declared.schema.ColumnKind.{ColumnKind}
use Rattle.metadata.specs.declared.schema.ColumnKind.TheVariants as columns
use Rattle.metadata.specs.declared.schema.TheConstants.{COLUMNS}
use Rattle.metadata.specs.Schema.{is_of, columns_of, table_number}
use Rattle.metadata.specs.Streams.{end_of, first_cut, first_outside, first_repeated, header_named, headers_at}
use Rattle.metadata.specs.Streams.{headers_in, stream_count, stream_of, tables_name, version_length}
use Rattle.metadata.specs.Tables.{Layout, column_at, count_at, has_table, heap_sizes_of, layout_of, number_of}
use Rattle.metadata.specs.Tables.{row_count, rows_of, rows_place, table_at, valid_of}
use Rattle.metadata.specs.Heaps.{is_valid}

-- the root
abbrev pub root_checks : Span → List Check
root_checks span =
    -- it has 20 bytes and the signature "BSJB"
    check 30 (λ bytes. holds_or (nat_le 20 span.len && u32_of bytes span.start == 0x424A5342) span.start)
    -- the version's length, and the version with the two fields after it
    ∷ check 31 (λ bytes. let length = version_length bytes span.start in
    holds_or (nat_le length 255 && length % 4 == 0 && nat_le (20 + length) span.len) (span.start + 12))
    ∷ []

-- the stream headers
abbrev pub stream_checks : Span → List Check
stream_checks span =
    check 32 (λ bytes. first_cut bytes (end_of span) (headers_at bytes span.start) (stream_count bytes span.start))
    ∷ check 33 (λ bytes. first_outside span (headers_in bytes span))
    ∷ check 34 (λ bytes. first_repeated [] (headers_in bytes span))
    ∷ check 35 (λ bytes. holds_or (is_some (header_named tables_name (headers_in bytes span))) span.start)
    ∷ []

-- the header of the tables' stream
abbrev pub tables_of : List ℕ → Span → Span
tables_of bytes span = stream_of bytes span tables_name

-- a table that the standard has
abbrev pub is_known : ℕ → Bool
is_known table = list_any (is_of table) COLUMNS

-- the stream has its header and its counts
abbrev pub cut_header : List ℕ → Span → Option ℕ
cut_header bytes stream =
    holds_or (nat_le 24 stream.len && nat_le (rows_place bytes stream.start) (end_of stream)) stream.start

-- HeapSizes has no bit but 1, 2 and 4
abbrev pub unknown_heap : List ℕ → ℕ → Option ℕ
unknown_heap bytes at = holds_or (nat_lt (heap_sizes_of bytes at) 8) (at + 6)

-- Valid has bits of known tables alone
abbrev pub table_is_known : ℕ → ℕ → Bool
table_is_known valid table = not (has_table valid table) || is_known table

unfoldable pub all_known : ℕ → Bool
all_known valid = list_all (table_is_known valid) (range_with_len 0 64)

abbrev pub unknown_table : List ℕ → ℕ → Option ℕ
unknown_table bytes at = holds_or (all_known (valid_of bytes at)) (at + 8)

-- the first count that has more than 24 bits
abbrev pub is_large : List ℕ → ℕ → ℕ → Bool
is_large bytes at table = not (nat_lt (row_count bytes at table) (2 ^ 24))

unfoldable pub first_large : List ℕ → ℕ → Option ℕ
first_large bytes at = option_map (count_at bytes at) (find (is_large bytes at) (range_with_len 0 64))

abbrev pub header_checks : Span → List Check
header_checks span =
    check 36 (λ bytes. cut_header bytes (tables_of bytes span))
    ∷ check 37 (λ bytes. unknown_heap bytes (tables_of bytes span).start)
    ∷ check 38 (λ bytes. unknown_table bytes (tables_of bytes span).start)
    ∷ check 39 (λ bytes. first_large bytes (tables_of bytes span).start)
    ∷ []

-- the rows
abbrev pub all_rows_fit : Span → Layout → Bool
all_rows_fit stream layout = nat_le (table_at layout 64) (end_of stream)

abbrev pub has_one_assembly : Layout → Bool
has_one_assembly layout = rows_of layout (table_number tables.Module) == 1 && rows_of layout (table_number tables.Assembly) == 1

abbrev pub row_checks : Span → List Check
row_checks span =
    check 40 (λ bytes. let stream = tables_of bytes span in holds_or (all_rows_fit stream (layout_of bytes span)) stream.start)
    ∷ check 41 (λ bytes. holds_or (has_one_assembly (layout_of bytes span)) ((tables_of bytes span).start + 8))
    ∷ []

-- ---- the columns

-- the first answer to some numbers in a row
abbrev pub or_else : Option ℕ → Option ℕ → Option ℕ
or_else None later = later
or_else (Some at) later = Some at

unfoldable pub first_of : (ℕ → Option ℕ) → ℕ → ℕ → Option ℕ
first_of answer from zero = None
first_of answer from (suc n) = or_else (answer from) (first_of answer (from + 1) n)

-- the first answer of a row's columns, of a table's rows, and of the tables
abbrev pub first_in_row : (ℕ → ℕ → ℕ → Option ℕ) → ℕ → ℕ → Option ℕ
first_in_row answer table row = first_of (answer table row) 0 (length (columns_of table))

abbrev pub first_in_table : Layout → (ℕ → ℕ → ℕ → Option ℕ) → ℕ → Option ℕ
first_in_table layout answer table = first_of (first_in_row answer table) 1 (rows_of layout table)

unfoldable pub first_column : Layout → (ℕ → ℕ → ℕ → Option ℕ) → Option ℕ
first_column layout answer = first_of (first_in_table layout answer) 0 64

-- a column whose number names nothing
abbrev pub kind_of : ℕ → ℕ → ColumnKind
kind_of table column = get_or (columns_of table) column columns.UInt16

abbrev pub bad_column : List ℕ → Layout → ℕ → ℕ → ℕ → Option ℕ
bad_column bytes layout table row column =
    holds_or (is_valid bytes layout (kind_of table column) (number_of bytes layout table row column)) (column_at layout table row column)

-- the first row of a list comes before that of the row before
abbrev pub is_list : ColumnKind → Bool
is_list (columns.List table) = true
is_list kind = false

abbrev pub falls : List ℕ → Layout → ℕ → ℕ → ℕ → Bool
falls bytes layout table row column = nat_lt (number_of bytes layout table row column) (number_of bytes layout table (row - 1) column)

abbrev pub fallen_column : List ℕ → Layout → ℕ → ℕ → ℕ → Option ℕ
fallen_column bytes layout table row column =
    holds_or (not ((is_list (kind_of table column) && nat_lt 1 row) && falls bytes layout table row column))
    (column_at layout table row column)

abbrev pub column_checks : Span → List Check
column_checks span =
    check 42 (λ bytes. let layout = layout_of bytes span in first_column layout (bad_column bytes layout))
    ∷ check 43 (λ bytes. let layout = layout_of bytes span in first_column layout (fallen_column bytes layout))
    ∷ []

-- those of the rows and columns
abbrev pub layout_checks : Span → List Check
layout_checks span = row_checks span ++ column_checks span

-- all of them, in their order
unfoldable pub metadata_checks : Span → List Check
metadata_checks span = root_checks span ++ (stream_checks span ++ (header_checks span ++ layout_checks span))

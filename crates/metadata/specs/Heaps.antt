-- The heaps of metadata (ECMA-335 II.24.2.3 and II.24.2.4), and what a column's number names.
use Rattle.std.specs.Prelude.{ℕ, ◌+◌, ◌-◌, ◌*◌, ◌/◌, ◌%◌, ◌^◌, ◌==◌, Bool, true, List, [], length, take, drop, position}
use Rattle.std.specs.Prelude.{Option, Some, None, nat_le, if◌then◌else◌, is_some}
use Rattle.std.specs.Option.{option_and_then}
use Rattle.std.specs.Str.{is_utf8}
use Rattle.rtr_bytes.specs.declared.fault.Span.{Span}
use Rattle.rtr_bytes.specs.Compressed.{compressed_in}
use Rattle.metadata.specs.declared.schema.Heap.{Heap}
use Rattle.metadata.specs.declared.schema.Heap.TheVariants as heaps
use Rattle.metadata.specs.declared.schema.Table.{Table}
use Rattle.metadata.specs.declared.schema.CodedKind.{CodedKind}
use Rattle.metadata.specs.declared.schema.ColumnKind.{ColumnKind}
use Rattle.metadata.specs.declared.schema.ColumnKind.TheVariants as columns
use Rattle.metadata.specs.Schema.{kind_numbered, table_number, tag_bits, tagged_table}
use Rattle.metadata.specs.Tables.{Layout, rows_of}

-- the bytes of a heap
abbrev pub heap_bytes : List ℕ → Span → List ℕ
heap_bytes bytes span = take span.len (drop span.start bytes)

-- ---- texts

abbrev pub text_of : List ℕ → Option (List ℕ)
text_of text = if is_utf8 text then Some text else None

-- the text that bytes begin with: up to the first zero, in UTF-8
unfoldable pub text_in : List ℕ → Option (List ℕ)
text_in bytes = option_and_then (λ n. text_of (take n bytes)) (position (λ b. b == 0) bytes)

-- the text at an offset of `#Strings`; at 0 it is empty, whatever the heap holds
unfoldable pub string_of : List ℕ → Layout → ℕ → Option (List ℕ)
string_of bytes layout at = if at == 0 then Some [] else text_in (drop at (heap_bytes bytes layout.strings))

-- ---- blobs

-- so many bytes, where they are all there
abbrev pub front_if : ℕ → List ℕ → Option (List ℕ)
front_if len bytes = if nat_le len (length bytes) then Some (take len bytes) else None

-- the bytes after a compressed length
abbrev pub counted : List ℕ → ℕ × ℕ → Option (List ℕ)
counted bytes (len, size) = front_if len (drop size bytes)

unfoldable pub blob_in : List ℕ → Option (List ℕ)
blob_in bytes = option_and_then (counted bytes) (compressed_in bytes)

-- the blob at an offset of `#Blob`; at 0 it is empty, whatever the heap holds
unfoldable pub blob_of : List ℕ → Layout → ℕ → Option (List ℕ)
blob_of bytes layout at = if at == 0 then Some [] else blob_in (drop at (heap_bytes bytes layout.blobs))

-- a user string is a blob of `#US` of odd length: UTF-16 units and one more byte
abbrev pub without_last : List ℕ → Option (List ℕ)
without_last blob = if length blob % 2 == 1 then Some (take (length blob - 1) blob) else None

unfoldable pub user_string_of : List ℕ → Layout → ℕ → Option (List ℕ)
user_string_of bytes layout at = option_and_then without_last (blob_in (drop at (heap_bytes bytes layout.user_strings)))

-- ---- coded indexes

-- a token: the table's number above 24 bits of the row
abbrev pub token : ℕ → ℕ → ℕ
token table row = table * 2 ^ 24 + row

abbrev pub row_token : Layout → ℕ → Table → Option ℕ
row_token layout row table = if nat_le row (rows_of layout (table_number table)) then Some (token (table_number table) row) else None

-- the token that an index of a kind names: its tag is listed, and its row is at most the last of that table
unfoldable pub coded_token : Layout → CodedKind → ℕ → Option ℕ
coded_token layout kind value =
    option_and_then (row_token layout (value / 2 ^ tag_bits kind)) (tagged_table kind (value % 2 ^ tag_bits kind))

-- the same by the kind's number
abbrev pub coded_of : Layout → ℕ → ℕ → Option ℕ
coded_of layout kind value = option_and_then (λ k. coded_token layout k value) (kind_numbered kind)

-- ---- whether a column's number names what it should

abbrev pub is_in_heap : List ℕ → Layout → Heap → ℕ → Bool
is_in_heap bytes layout heaps.Strings value = is_some (string_of bytes layout value)
is_in_heap bytes layout heaps.Guids value = nat_le value (layout.guids.len / 16)
is_in_heap bytes layout heaps.Blobs value = is_some (blob_of bytes layout value)

unfoldable pub is_valid : List ℕ → Layout → ColumnKind → ℕ → Bool
is_valid bytes layout columns.UInt16 value = true
is_valid bytes layout columns.UInt32 value = true
is_valid bytes layout (columns.Heap heap) value = is_in_heap bytes layout heap value
is_valid bytes layout (columns.Row table) value = nat_le value (rows_of layout (table_number table))
is_valid bytes layout (columns.Coded kind) value = is_some (coded_token layout kind value)
is_valid bytes layout (columns.List table) value = nat_le value (rows_of layout (table_number table) + 1)

-- What the parts of the reader of metadata give one another.
use Rattle.std.specs.Prelude.{◌≡◌, ◌≤◌, ◌<◌, ◌^◌, ℕ, List, All}
use Rattle.rtr_bytes.specs.declared.fault.Span.{Span}
use Rattle.metadata.specs.declared.streams.Streams.{Streams}
use Rattle.metadata.specs.declared.header.TablesHeader.{TablesHeader}
use Rattle.metadata.specs.Streams.{blobs_name, end_of, guids_name, stream_of, strings_name, tables_name, user_strings_name}
use Rattle.metadata.specs.Tables.{Layout, heap_sizes_of, row_counts, rows_place}

-- a range is empty or in some bytes
abbrev pub IsInside : Span → ℕ → Type 0
IsInside span length = 0 < span.len → end_of span ≤ length

-- the streams of the metadata at a range
pub record AreStreams (bytes : List ℕ) (span : Span) (streams : Streams) : Type 0 where
  pub tables : streams.tables ≡ stream_of bytes span tables_name
  pub strings : streams.strings ≡ stream_of bytes span strings_name
  pub user_strings : streams.user_strings ≡ stream_of bytes span user_strings_name
  pub guids : streams.guids ≡ stream_of bytes span guids_name
  pub blobs : streams.blobs ≡ stream_of bytes span blobs_name

-- each is in the metadata
pub record AreInside (span : Span) (streams : Streams) : Type 0 where
  pub tables : end_of streams.tables ≤ end_of span
  pub strings : end_of streams.strings ≤ end_of span
  pub user_strings : end_of streams.user_strings ≤ end_of span
  pub guids : end_of streams.guids ≤ end_of span
  pub blobs : end_of streams.blobs ≤ end_of span

-- what the header of the tables' stream at a place says
pub record AreCounts (bytes : List ℕ) (at : ℕ) (header : TablesHeader) : Type 0 where
  pub heap_sizes : header.heap_sizes ≡ heap_sizes_of bytes at
  pub rows : header.rows.items ≡ row_counts bytes at
  pub rows_at : header.rows_at ≡ rows_place bytes at

-- and no count has more than 24 bits
pub record IsHeader (bytes : List ℕ) (at : ℕ) (header : TablesHeader) : Type 0 where
  pub heap_sizes : header.heap_sizes ≡ heap_sizes_of bytes at
  pub rows : header.rows.items ≡ row_counts bytes at
  pub rows_at : header.rows_at ≡ rows_place bytes at
  pub few : All (λ n. n < 2 ^ 24) header.rows.items

-- the layout by the streams and the header of the tables' stream
abbrev pub layout_by : Streams → TablesHeader → Layout
layout_by streams header = record {
  strings = streams.strings;
  user_strings = streams.user_strings;
  guids = streams.guids;
  blobs = streams.blobs;
  heap_sizes = header.heap_sizes;
  rows = header.rows.items;
  rows_at = header.rows_at;
}

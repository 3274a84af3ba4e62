-- The metadata root, its streams and the header of the tables' stream, read back: a reader's layout is the content's, and the
-- checks 30 to 41 pass.
use Rattle.std.proofs.Common.{◌≡◌, ◌≤◌, ◌<◌, ◌+◌, ◌%◌, ◌++◌, ◌==◌, ◌&&◌, ℕ, Bool, true, List, [], length, drop}
use Rattle.std.proofs.Common.{get_or, Option, None, refl, ap, ◌∙◌, arith}
use Rattle.std.specs.Prelude.{sum_by, nat_le, nat_lt, unwrap_or, is_some}
use Rattle.std.specs.List.{range_with_len}
use Rattle.std.proofs.lemmas.Bool.{and_from, eq-eqb, le-leb, lt-ltb}
use Rattle.byteorder.specs.Endian.{little_bytes}
use Rattle.rtr_bytes.specs.declared.fault.Fault.{Fault}
use Rattle.rtr_bytes.specs.declared.fault.Span.{Span}
use Rattle.rtr_bytes.specs.Checks.{fault_or, first_fault, holds_or}
use Rattle.rtr_bytes.specs.Field.{u16_of, u32_of}
use Rattle.metadata.specs.Checks.{all_known, all_rows_fit, cut_header, first_large, has_one_assembly, header_checks}
use Rattle.metadata.specs.Checks.{root_checks, row_checks, stream_checks, tables_of, unknown_heap, unknown_table}
use Rattle.metadata.specs.Names.{is_taken}
use Rattle.metadata.specs.Streams.{StreamHeader, blobs_name, end_of, first_cut, first_outside, first_repeated}
use Rattle.metadata.specs.Streams.{guids_name, header_named, headers_at, headers_from, headers_in, span_of}
use Rattle.metadata.specs.Streams.{stream_count, stream_of, strings_name, tables_name, user_strings_name}
use Rattle.metadata.specs.Streams.{version_length}
use Rattle.metadata.specs.Tables.{Layout, heap_sizes_of, layout_of, row_counts, rows_of, rows_place, table_at, table_size, valid_of}
use Rattle.metadata.specs.declared.schema.Table.TheVariants as tables
use Rattle.metadata.specs.Schema.{table_number}
use Rattle.asm_builder.specs.declared.content.Content.{Content}
use Rattle.asm_builder.specs.File.{first_stream, metadata_at, metadata_bytes, root_bytes}
use Rattle.asm_builder.proofs.Sizes.{content_layout}
use Rattle.asm_builder.specs.File.{sized, streams_of, tables_stream, version_text}
use Rattle.asm_builder.proofs.TablesBack.{IsSpelled, all_stands, content_laid, count_is, sizes_in}
use Rattle.asm_builder.proofs.TablesInRow.{length-tables}
use Rattle.asm_builder.proofs.TablesStand.{Stands, number_stands, stands_behind, stands_front}
use Rattle.asm_builder.proofs.MetadataStand.{MetadataStands, TablesStand, length-headers, length-metadata_parts}
use Rattle.asm_builder.proofs.MetadataStand.{tables_place, tables_stand_in}
use Rattle.asm_builder.proofs.MetadataStreams.{bytes_of_all, headers_back, headers_of_streams, none_outside}
use Rattle.asm_builder.proofs.MetadataHeader.{counts_read, heap_sizes_read, known_read, none_large, rows_place_read}
use Rattle.asm_builder.proofs.MetadataHeader.{sizes_small, length-tables_header}
use Rattle.asm_builder.proofs.PeBack.{IsShort}

abbrev pub span_in : Content → Span
span_in content = record { start = metadata_at content; len = length (metadata_bytes content) }

-- ---- the root

version_read : (bytes : List ℕ) (at : ℕ) → Stands bytes at root_bytes → version_length bytes at ≡ 12
version_read bytes at s =
    let front = little_bytes 4 0x424A5342 ++ (little_bytes 2 1 ++ (little_bytes 2 1 ++ little_bytes 4 0)) in
    let after = version_text ++ (little_bytes 2 0 ++ little_bytes 2 5) in
    let there = stands_behind bytes at (at + 12) front (little_bytes 4 12 ++ after) refl s in
    ap (λ (o : Option ℕ). unwrap_or o 0)
    (number_stands 4 12 bytes (at + 12) (omega arith) (stands_front bytes (at + 12) (little_bytes 4 12) after there))

signature_read : (bytes : List ℕ) (at : ℕ) → Stands bytes at root_bytes → u32_of bytes at ≡ 0x424A5342
signature_read bytes at s =
    let after =
    little_bytes 2 1 ++
    (little_bytes 2 1 ++ (little_bytes 4 0 ++ (little_bytes 4 12 ++ (version_text ++ (little_bytes 2 0 ++ little_bytes 2 5))))) in
    ap (λ (o : Option ℕ). unwrap_or o 0)
    (number_stands 4 0x424A5342 bytes at (omega arith) (stands_front bytes at (little_bytes 4 0x424A5342) after s))

count_read : (bytes : List ℕ) (at : ℕ) → Stands bytes at root_bytes → stream_count bytes at ≡ 5
count_read bytes at s =
    let front =
    little_bytes 4 0x424A5342 ++
    (little_bytes 2 1 ++ (little_bytes 2 1 ++ (little_bytes 4 0 ++ (little_bytes 4 12 ++ (version_text ++ little_bytes 2 0))))) in
    let there = stands_behind bytes at (at + 30) front (little_bytes 2 5) refl s in
    let version = version_read bytes at s in
    let place : at + 18 + version_length bytes at ≡ at + 30 = omega (arith, version) in
    ap (λ (p : ℕ). u16_of bytes p) place ∙ ap (λ (o : Option ℕ). unwrap_or o 0) (number_stands 2 5 bytes (at + 30) (omega arith) there)

-- ---- the streams

abbrev headers : Content → List StreamHeader
headers content = headers_of_streams (metadata_at content + 32) first_stream (streams_of content)

all_bytes : (content : Content) → first_stream + bytes_of_all (streams_of content) ≡ length (metadata_bytes content)
all_bytes content = let size = length-metadata_parts content in omega (arith, size)

span_same : (start start' len : ℕ) → start ≡ start'
    → ◌≡◌ {A = Span} (record { start = start; len = len }) (record { start = start'; len = len })
span_same start start' len e = ap (λ (t : ℕ). record { start = t; len = len }) e

module _ (bytes : List ℕ) (content : Content) (short : IsShort content) (all : MetadataStands bytes content (metadata_at content)) where
  both_read : (headers_in bytes (span_in content) ≡ headers content)
      × (first_cut bytes (end_of (span_in content)) (headers_at bytes (metadata_at content)) (stream_count bytes (metadata_at content))
      ≡ None)
  unfolding headers_in
  both_read =
      let start = metadata_at content in
      let end = end_of (span_in content) in
      let root = all.root in
      let version = version_read bytes start root in
      let place : headers_at bytes start ≡ start + 32 = omega (arith, version) in
      let count = count_read bytes start root in
      let size = length-metadata_parts content in
      let sum = all_bytes content in
      let heads = length-headers content in
      let read =
      headers_back bytes end (start + 32) first_stream (streams_of content) all.headers (omega (arith, size, heads)) refl
      (omega (arith, sum, short)) in (
        ap (λ (p : ℕ). headers_from bytes end p (stream_count bytes start)) place
            ∙ ap (λ (n : ℕ). headers_from bytes end (start + 32) n) count ∙ read.0,
        ap (λ (p : ℕ). first_cut bytes end p (stream_count bytes start)) place
            ∙ ap (λ (n : ℕ). first_cut bytes end (start + 32) n) count ∙ read.1,
      )

  stream_read : (name : List ℕ) → stream_of bytes (span_in content) name ≡ span_of (span_in content) (header_named name (headers content))
  unfolding stream_of
  stream_read name = ap (λ (hs : List StreamHeader). span_of (span_in content) (header_named name hs)) both_read.0

  tables_read : stream_of bytes (span_in content) tables_name
      ≡ record { start = tables_place (metadata_at content); len = length (tables_stream content) }
  tables_read = stream_read tables_name

  tables_start : (tables_of bytes (span_in content)).start ≡ tables_place (metadata_at content)
  tables_start = ap (λ (s : Span). s.start) tables_read

  none_cut_is : first_cut bytes (end_of (span_in content)) (headers_at bytes (metadata_at content))
      (stream_count bytes (metadata_at content)) ≡ None
  none_cut_is = both_read.1

  outside_is : first_outside (span_in content) (headers_in bytes (span_in content)) ≡ None
  outside_is =
      ap (λ (hs : List StreamHeader). first_outside (span_in content) hs) both_read.0
      ∙ none_outside (span_in content) (metadata_at content + 32) first_stream (streams_of content)
      (let sum = all_bytes content in omega (arith, sum))

  repeated_is : first_repeated [] (headers_in bytes (span_in content)) ≡ None
  unfolding first_repeated is_taken
  repeated_is = ap (λ (hs : List StreamHeader). first_repeated [] hs) both_read.0

  found_is : is_some (header_named tables_name (headers_in bytes (span_in content))) ≡ true
  found_is = ap (λ (hs : List StreamHeader). is_some (header_named tables_name hs)) both_read.0

-- ---- a list of checks that pass

passes : (n : ℕ) (o : Option ℕ) (others : Option Fault) → o ≡ None → others ≡ None → fault_or n o others ≡ None
passes n o others e h = ap (λ (t : Option ℕ). fault_or n t others) e ∙ h

holds : (test : Bool) (place : ℕ) → test ≡ true → holds_or test place ≡ None
holds test place e = ap (λ (b : Bool). holds_or b place) e

layout_same : (strings strings' user_strings user_strings' guids guids' blobs blobs' : Span) (sizes sizes' : ℕ) (rows rows' : List ℕ)
    (at at' : ℕ)
    → strings ≡ strings' → user_strings ≡ user_strings' → guids ≡ guids' → blobs ≡ blobs' → sizes ≡ sizes' → rows ≡ rows' → at ≡ at'
    → ◌≡◌ {A = Layout}
    (record { strings = strings; user_strings = user_strings; guids = guids; blobs = blobs; heap_sizes = sizes; rows = rows; rows_at = at })
    (record {
      strings = strings';
      user_strings = user_strings';
      guids = guids';
      blobs = blobs';
      heap_sizes = sizes';
      rows =
          rows';
      rows_at = at';
    })
layout_same strings strings' user_strings user_strings' guids guids' blobs blobs' sizes sizes' rows rows' at at' s u g l h r p =
    rw (s, u, g, l, h, r, p) refl

module _ (bytes : List ℕ) (content : Content) (is : IsSpelled content) (short : IsShort content) (rest : List ℕ)
    (stands : drop (metadata_at content) bytes ≡ metadata_bytes content ++ rest) where
  all : MetadataStands bytes content (metadata_at content)
  all = all_stands bytes content rest stands

  stand : TablesStand bytes content (tables_place (metadata_at content))
  stand = tables_stand_in bytes content (tables_place (metadata_at content)) all.tables

  pub layout_is : layout_of bytes (span_in content) ≡ content_layout content
  unfolding layout_of content_layout
  layout_is =
      let read = stream_read bytes content short all in
      let place = tables_start bytes content short all in
      let start = metadata_at content in
      let t = length (tables_stream content) in
      let s = length content.strings in
      let u = length content.user_strings in
      let g = length content.guids in
      let strings_is = read strings_name ∙ span_same (start + (108 + t)) (start + 108 + t) s (omega arith) in
      let user_strings_is = read user_strings_name ∙ span_same (start + (108 + t + s)) (start + 108 + t + s) u (omega arith) in
      let guids_is = read guids_name ∙ span_same (start + (108 + t + s + u)) (start + 108 + t + s + u) g (omega arith) in
      let blobs_is = read blobs_name
      ∙ span_same (start + (108 + t + s + u + g)) (start + 108 + t + s + u + g) (length content.blobs) (omega arith) in
      layout_same _ _ _ _ _ _ _ _ _ _ _ _ _ _ strings_is user_strings_is guids_is blobs_is
      (ap (λ (p : ℕ). heap_sizes_of bytes p) place ∙ heap_sizes_read bytes content (tables_place start) stand.header)
      (ap (λ (p : ℕ). row_counts bytes p) place ∙ counts_read bytes content (tables_place start) is stand.header)
      (ap (λ (p : ℕ). rows_place bytes p) place ∙ rows_place_read bytes content (tables_place start) is.count stand.header)

  pub root_passes : first_fault (root_checks (span_in content)) bytes ≡ None
  root_passes =
      let start = metadata_at content in
      let len = length (metadata_bytes content) in
      let size = length-metadata_parts content in
      let version = version_read bytes start all.root in
      let signed : (u32_of bytes start == 0x424A5342) ≡ true =
      eq-eqb (u32_of bytes start) 0x424A5342 (signature_read bytes start all.root) in
      let long : nat_le 20 len ≡ true = le-leb 20 len (omega (arith, size)) in
      let first = and_from (nat_le 20 len) (u32_of bytes start == 0x424A5342) long signed in
      let n = version_length bytes start in
      let small : nat_le n 255 ≡ true = le-leb n 255 (omega (arith, version)) in
      let fours : (n % 4 == 0) ≡ true = ap (λ (k : ℕ). k % 4 == 0) version in
      let inside : nat_le (20 + n) len ≡ true = le-leb (20 + n) len (omega (arith, version, size)) in
      let second = and_from (nat_le n 255 && n % 4 == 0) (nat_le (20 + n) len) (and_from (nat_le n 255) (n % 4 == 0) small fours) inside in
      passes 30 (holds_or (nat_le 20 len && u32_of bytes start == 0x424A5342) start) _ (holds _ start first)
      (passes 31 (holds_or (nat_le n 255 && n % 4 == 0 && nat_le (20 + n) len) (start + 12)) None (holds _ (start + 12) second) refl)

  pub streams_pass : first_fault (stream_checks (span_in content)) bytes ≡ None
  streams_pass =
      let span = span_in content in
      let found = found_is bytes content short all in
      passes 32 (first_cut bytes (end_of span) (headers_at bytes span.start) (stream_count bytes span.start)) _
      (none_cut_is bytes content short all)
      (passes 33 (first_outside span (headers_in bytes span)) _ (outside_is bytes content short all)
      (passes 34 (first_repeated [] (headers_in bytes span)) _ (repeated_is bytes content short all)
      (passes 35 (holds_or (is_some (header_named tables_name (headers_in bytes span))) span.start) None (holds _ span.start found) refl)))

  abbrev stream : Span
  stream = record { start = tables_place (metadata_at content); len = length (tables_stream content) }

  cut_is : cut_header bytes stream ≡ None
  cut_is =
      let place = rows_place_read bytes content (tables_place (metadata_at content)) is.count stand.header in
      let end = stand.end in
      let size = length-tables_header content in
      let long : nat_le 24 stream.len ≡ true = le-leb 24 stream.len (omega (arith, end, size)) in
      let inside : nat_le (rows_place bytes stream.start) (end_of stream) ≡ true =
      le-leb (rows_place bytes stream.start) (end_of stream) (omega (arith, place, end)) in
      holds (nat_le 24 stream.len && nat_le (rows_place bytes stream.start) (end_of stream)) stream.start
      (and_from (nat_le 24 stream.len) (nat_le (rows_place bytes stream.start) (end_of stream)) long inside)

  heap_is : unknown_heap bytes (tables_place (metadata_at content)) ≡ None
  heap_is =
      let place = tables_place (metadata_at content) in
      let read = heap_sizes_read bytes content place stand.header in
      let small : nat_lt (heap_sizes_of bytes place) 8 ≡ true =
      lt-ltb (heap_sizes_of bytes place) 8 (omega (arith, read, sizes_small content)) in
      holds (nat_lt (heap_sizes_of bytes place) 8) (place + 6) small

  pub header_passes : first_fault (header_checks (span_in content)) bytes ≡ None
  header_passes =
      let span = span_in content in
      let place = tables_place (metadata_at content) in
      let read = tables_read bytes content short all in
      let start = tables_start bytes content short all in
      let known = known_read bytes content place is stand.header in
      passes 36 (cut_header bytes (tables_of bytes span)) _ (ap (λ (s : Span). cut_header bytes s) read ∙ cut_is)
      (passes 37 (unknown_heap bytes (tables_of bytes span).start) _ (ap (λ (p : ℕ). unknown_heap bytes p) start ∙ heap_is)
      (passes 38 (unknown_table bytes (tables_of bytes span).start) _
      (ap (λ (p : ℕ). unknown_table bytes p) start ∙ holds (all_known (valid_of bytes place)) (place + 8) known)
      (passes 39 (first_large bytes (tables_of bytes span).start) None
      (ap (λ (p : ℕ). first_large bytes p) start ∙ none_large bytes content place is stand.header) refl)))

  rows_end : table_at (content_layout content) 64 ≤ end_of stream
  unfolding table_at
  rows_end =
      let layout = content_layout content in
      let place = tables_place (metadata_at content) in
      let laid = content_laid content in
      let count = is.count in
      let size = length-tables (sized content) (table_size layout) 0 content.tables (sizes_in bytes content is layout place laid stand)
      ∙ ap (λ (n : ℕ). sum_by (table_size layout) (range_with_len 0 n)) count in
      let start = laid.rows_at in
      let end = stand.end in
      omega (arith, size, start, end)

  one_is : (table : ℕ) → table < 64 → length (get_or content.tables table []) ≡ 1 → rows_of (content_layout content) table ≡ 1
  one_is table below one =
      count_is bytes content is (content_layout content) (tables_place (metadata_at content)) (content_laid content) stand table below ∙ one

  pub rows_pass : length (get_or content.tables (table_number tables.Module) []) ≡ 1
      → length (get_or content.tables (table_number tables.Assembly) []) ≡ 1
      → first_fault (row_checks (span_in content)) bytes ≡ None
  rows_pass module_one assembly_one =
      let span = span_in content in
      let read = tables_read bytes content short all in
      let layout = content_layout content in
      let fit : all_rows_fit stream layout ≡ true = le-leb (table_at layout 64) (end_of stream) rows_end in
      let first : all_rows_fit (tables_of bytes span) (layout_of bytes span) ≡ true =
      ap (λ (s : Span). all_rows_fit s (layout_of bytes span)) read ∙ ap (λ (l : Layout). all_rows_fit stream l) layout_is ∙ fit in
      let one = one_is (table_number tables.Module) (omega arith) module_one in
      let other = one_is (table_number tables.Assembly) (omega arith) assembly_one in
      let second : has_one_assembly (layout_of bytes span) ≡ true =
      ap (λ (l : Layout). has_one_assembly l) layout_is
      ∙ and_from (rows_of layout (table_number tables.Module) == 1) (rows_of layout (table_number tables.Assembly) == 1)
      (eq-eqb (rows_of layout (table_number tables.Module)) 1 one) (eq-eqb (rows_of layout (table_number tables.Assembly)) 1 other) in
      passes 40 (holds_or (all_rows_fit (tables_of bytes span) (layout_of bytes span)) (tables_of bytes span).start) _
      (holds _ (tables_of bytes span).start first)
      (passes 41 (holds_or (has_one_assembly (layout_of bytes span)) ((tables_of bytes span).start + 8)) None
      (holds _ ((tables_of bytes span).start + 8) second) refl)

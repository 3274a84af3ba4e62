-- The parts of metadata, each in one piece at its place.
use Rattle.std.proofs.Common.{◌≡◌, ◌≤◌, ◌+◌, ◌-◌, ℕ, List, [], ◌++◌, length, refl, ap, ◌∙◌, arith, length-append}
use Rattle.std.specs.Prelude.{replicate}
use Rattle.pe_image.specs.Places.{aligned}
use Rattle.asm_builder.specs.declared.content.Content.{Content}
use Rattle.asm_builder.specs.File.{first_stream, metadata_bytes, root_bytes, stream_headers, streams_of, tables_from}
use Rattle.asm_builder.specs.File.{tables_header, tables_stream, sized}
use Rattle.asm_builder.proofs.Padding.{length-padded4}
use Rattle.asm_builder.proofs.TablesStand.{Stands, stands_as, stands_behind, stands_front}

abbrev pub tables_place : ℕ → ℕ
tables_place at = at + first_stream

abbrev pub strings_place : Content → ℕ → ℕ
strings_place content at = tables_place at + length (tables_stream content)

abbrev pub user_strings_place : Content → ℕ → ℕ
user_strings_place content at = strings_place content at + length content.strings

abbrev pub guids_place : Content → ℕ → ℕ
guids_place content at = user_strings_place content at + length content.user_strings

abbrev pub blobs_place : Content → ℕ → ℕ
blobs_place content at = guids_place content at + length content.guids

pub record MetadataStands (bytes : List ℕ) (content : Content) (at : ℕ) : Type 0 where
  pub root : Stands bytes at root_bytes
  pub headers : Stands bytes (at + 32) (stream_headers first_stream (streams_of content))
  pub tables : Stands bytes (tables_place at) (tables_stream content)
  pub strings : Stands bytes (strings_place content at) content.strings
  pub user_strings : Stands bytes (user_strings_place content at) content.user_strings
  pub guids : Stands bytes (guids_place content at) content.guids
  pub blobs : Stands bytes (blobs_place content at) content.blobs

abbrev heaps_of : Content → List ℕ
heaps_of content = content.strings ++ (content.user_strings ++ (content.guids ++ (content.blobs ++ [])))

pub length-headers : (content : Content) → length (stream_headers first_stream (streams_of content)) ≡ 76
unfolding aligned
length-headers content = refl

pub metadata_is : (content : Content)
    → metadata_bytes content
    ≡ root_bytes ++ (stream_headers first_stream (streams_of content) ++ (tables_stream content ++ heaps_of content))
unfolding metadata_bytes
metadata_is content = refl

pub length-metadata_parts : (content : Content) → length (metadata_bytes content)
    ≡ first_stream + length (tables_stream content) +
    (length content.strings + (length content.user_strings + (length content.guids + length content.blobs)))
length-metadata_parts content =
    let whole = ap (λ (t : List ℕ). length t) (metadata_is content) in
    let headers = length-headers content in
    let a = length-append root_bytes (stream_headers first_stream (streams_of content) ++ (tables_stream content ++ heaps_of content)) in
    let b = length-append (stream_headers first_stream (streams_of content)) (tables_stream content ++ heaps_of content) in
    let c = length-append (tables_stream content) (heaps_of content) in
    let d = length-append content.strings (content.user_strings ++ (content.guids ++ (content.blobs ++ []))) in
    let e = length-append content.user_strings (content.guids ++ (content.blobs ++ [])) in
    let f = length-append content.guids (content.blobs ++ []) in
    let g = length-append content.blobs [] in
    let root : length root_bytes ≡ 32 = refl in
    omega (arith, whole, headers, a, b, c, d, e, f, g, root)

pub metadata_stands : (bytes : List ℕ) (content : Content) (at : ℕ) → Stands bytes at (metadata_bytes content)
    → MetadataStands bytes content at
metadata_stands bytes content at s =
    let headers = stream_headers first_stream (streams_of content) in
    let tables = tables_stream content in
    let root : length root_bytes ≡ 32 = refl in
    let whole =
    stands_as bytes at at (metadata_bytes content) (root_bytes ++ (headers ++ (tables ++ heaps_of content))) refl (metadata_is content) s in
    let after_root = stands_behind bytes at (at + 32) root_bytes (headers ++ (tables ++ heaps_of content)) (omega (arith, root)) whole in
    let behind =
    stands_behind bytes (at + 32) (tables_place at) headers (tables ++ heaps_of content) (omega (arith, length-headers content))
    after_root in
    let strings = stands_behind bytes (tables_place at) (strings_place content at) tables (heaps_of content) refl behind in
    let user_strings = stands_behind bytes (strings_place content at) (user_strings_place content at) content.strings
    (content.user_strings ++ (content.guids ++ (content.blobs ++ []))) refl strings in
    let guids = stands_behind bytes (user_strings_place content at) (guids_place content at) content.user_strings
    (content.guids ++ (content.blobs ++ [])) refl user_strings in
    let blobs = stands_behind bytes (guids_place content at) (blobs_place content at) content.guids (content.blobs ++ []) refl guids in
    record {
      root = stands_front bytes at root_bytes (headers ++ (tables ++ heaps_of content)) whole;
      headers = stands_front bytes (at + 32) headers (tables ++ heaps_of content) after_root;
      tables = stands_front bytes (tables_place at) tables (heaps_of content) behind;
      strings =
          stands_front bytes (strings_place content at) content.strings (content.user_strings ++ (content.guids ++ (content.blobs ++ [])))
          strings;
      user_strings =
          stands_front bytes (user_strings_place content at) content.user_strings (content.guids ++ (content.blobs ++ [])) user_strings;
      guids = stands_front bytes (guids_place content at) content.guids (content.blobs ++ []) guids;
      blobs = stands_front bytes (blobs_place content at) content.blobs [] blobs;
    }

-- ---- the tables' stream: its header, the rows, and zeros

abbrev pub rows_place_in : Content → ℕ → ℕ
rows_place_in content at = at + length (tables_header content)

abbrev pub rows_bytes : Content → List ℕ
rows_bytes content = tables_from (sized content) 0 content.tables

pub record TablesStand (bytes : List ℕ) (content : Content) (at : ℕ) : Type 0 where
  pub header : Stands bytes at (tables_header content)
  pub rows : Stands bytes (rows_place_in content at) (rows_bytes content)
  pub end : rows_place_in content at + length (rows_bytes content) ≤ at + length (tables_stream content)

tables_parts : (content : Content) → (zeros : List ℕ) × (tables_stream content ≡ (tables_header content ++ rows_bytes content) ++ zeros)
unfolding tables_stream
tables_parts content =
    let all = tables_header content ++ rows_bytes content in (replicate (aligned 4 (length all) - length all) 0, refl)

pub length-tables_stream : (content : Content)
    → length (tables_stream content) ≡ aligned 4 (length (tables_header content) + length (rows_bytes content))
unfolding tables_stream
length-tables_stream content =
    let header = tables_header content in
    let rows = rows_bytes content in
    length-padded4 (header ++ rows) ∙ ap (λ (n : ℕ). aligned 4 n) (length-append header rows)

pub tables_stand_in : (bytes : List ℕ) (content : Content) (at : ℕ) → Stands bytes at (tables_stream content) → TablesStand bytes content at
tables_stand_in bytes content at s =
    let parts = tables_parts content in
    let header = tables_header content in
    let rows = rows_bytes content in
    let whole =
    stands_front bytes at (header ++ rows) parts.0
    (stands_as bytes at at (tables_stream content) ((header ++ rows) ++ parts.0) refl parts.1 s) in
    let all = ap (λ (t : List ℕ). length t) parts.1 in
    record {
      header = stands_front bytes at header rows whole;
      rows = stands_behind bytes at (rows_place_in content at) header rows refl whole;
      end = omega (arith, all, length-append (header ++ rows) parts.0, length-append header rows);
    }

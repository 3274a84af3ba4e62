-- The length of a built file by the lengths of its parts, and where its tables and heaps are.
use Rattle.std.specs.Prelude.{ℕ, ◌+◌, ◌*◌, length, map, filter, sum_by}
use Rattle.std.specs.List.{range_with_len}
use Rattle.metadata.specs.Tables.{Layout, table_size}
use Rattle.pe_image.specs.Places.{aligned}
use Rattle.asm_builder.specs.declared.content.Content.{Content}
use Rattle.asm_builder.specs.File.{first_stream, heap_sizes, is_there, metadata_at, section_at, sized, tables_header, tables_stream}

-- ---- the length, by the lengths of the content's parts
abbrev pub rows_size : Content → ℕ
rows_size content = sum_by (table_size (sized content)) (range_with_len 0 64)

abbrev pub tables_size : Content → ℕ
tables_size content = aligned 4 (24 + 4 * length (filter is_there content.tables) + rows_size content)

abbrev pub metadata_length : Content → ℕ
metadata_length content =
    first_stream + tables_size content
    + (length content.strings + (length content.user_strings + (length content.guids + length content.blobs)))

unfoldable pub file_length : Content → ℕ
file_length content = section_at + aligned 512 (72 + (length content.bodies + metadata_length content))

-- ---- the layout that a reader finds

unfoldable pub content_layout : Content → Layout
content_layout content =
    let tables_at = metadata_at content + first_stream in
    let strings_at = tables_at + length (tables_stream content) in
    let user_strings_at = strings_at + length content.strings in
    let guids_at = user_strings_at + length content.user_strings in
    let blobs_at = guids_at + length content.guids in
    record {
      strings = record { start = strings_at; len = length content.strings };
      user_strings = record { start = user_strings_at; len = length content.user_strings };
      guids = record { start = guids_at; len = length content.guids };
      blobs = record { start = blobs_at; len = length content.blobs };
      heap_sizes = heap_sizes content;
      rows = map length content.tables;
      rows_at = tables_at + length (tables_header content);
    }

-- The bytes of a built file, by their parts: a PE32 file with one section (PE/COFF 2 to 4), which has the CLI header, the bodies and
-- the metadata (ECMA-335 II.24 and II.25).
use Rattle.std.specs.Prelude.{ℕ, ◌<◌, ◌+◌, ◌*◌, ◌^◌, ◌==◌, not, Bool, List, [], ◌∷◌, ◌++◌, length, map}
use Rattle.std.specs.Prelude.{filter, flat_map, codes, nat_le, if◌then◌else◌}
use Rattle.byteorder.specs.Endian.{little_bytes}
use Rattle.metadata.specs.Streams.{blobs_name, guids_name, strings_name, tables_name, user_strings_name}
use Rattle.metadata.specs.Tables.{Layout, widths_of}
use Rattle.pe_image.specs.declared.section.PeSection.{PeSection}
use Rattle.pe_image.specs.Places.{aligned}
use Rattle.pe_image.specs.Raw.{padded}
use Rattle.pe_image.specs.Written.{HeaderField, at}
use Rattle.pe_image.specs.Pieces.{fields_bytes, section_bytes}
use Rattle.asm_builder.specs.Cells.{bodies_rva, is_empty}
use Rattle.asm_builder.specs.declared.content.Content.{Content}
use Rattle.asm_builder.specs.Content.{padded4}

-- ---- places: the section is at 512 in the file and at 0x2000 in the image; the bodies are after the 72 bytes of the CLI header, and
-- the metadata is after them

abbrev pub section_at : ℕ
section_at = 512

abbrev pub section_rva : ℕ
section_rva = 0x2000

abbrev pub bodies_at : ℕ
bodies_at = section_at + 72

abbrev pub metadata_at : Content → ℕ
metadata_at content = bodies_at + length content.bodies

abbrev pub metadata_rva : Content → ℕ
metadata_rva content = bodies_rva + length content.bodies

-- each heap has fewer than 2^31 bytes
pub record AreSmall (content : Content) : Type 0 where
  pub strings : length content.strings < 2 ^ 31
  pub user_strings : length content.user_strings < 2 ^ 31
  pub guids : length content.guids < 2 ^ 31
  pub blobs : length content.blobs < 2 ^ 31
  pub bodies : length content.bodies < 2 ^ 31

-- ---- the tables' stream (II.24.2.6)

-- an index into a heap has four bytes where the heap has 2^16 bytes or more
abbrev pub heap_size_bit : ℕ → List ℕ → ℕ
heap_size_bit bit heap = if nat_le (2 ^ 16) (length heap) then bit else 0

abbrev pub heap_sizes : Content → ℕ
heap_sizes content = heap_size_bit 1 content.strings + heap_size_bit 2 content.guids + heap_size_bit 4 content.blobs

abbrev pub is_there : List (List ℕ) → Bool
is_there rows = not (is_empty rows)

-- a bit for each table that has rows, the first table's lowest
abbrev pub valid_bits : List (List (List ℕ)) → ℕ
valid_bits [] = 0
valid_bits (rows ∷ tables) = (if is_there rows then 1 else 0) + 2 * valid_bits tables

-- and a count for each
abbrev pub counts_bytes : List (List (List ℕ)) → List ℕ
counts_bytes tables = flat_map (λ rows. little_bytes 4 (length rows)) (filter is_there tables)

-- reserved, the version 2.0, HeapSizes, a reserved 1, Valid, and Sorted: rows are in the order in which they were asked for
abbrev pub tables_header : Content → List ℕ
tables_header content =
    little_bytes 4 0 ++ (little_bytes 2 2 ++ (little_bytes 1 (heap_sizes content) ++ (little_bytes 1 1
    ++ (little_bytes 8 (valid_bits content.tables) ++ (little_bytes 8 0 ++ counts_bytes content.tables)))))

-- the widths of columns, by the number of each table's rows and the sizes of the heaps
abbrev pub sized : Content → Layout
sized content = record {
  strings = record { start = 0; len = 0 };
  user_strings = record { start = 0; len = 0 };
  guids = record { start = 0; len = 0 };
  blobs = record { start = 0; len = 0 };
  heap_sizes = heap_sizes content;
  rows = map length content.tables;
  rows_at = 0;
}

-- a row: each number in its column's width
unfoldable pub row_bytes : List ℕ → List ℕ → List ℕ
row_bytes [] numbers = []
row_bytes (w ∷ widths) [] = []
row_bytes (w ∷ widths) (n ∷ numbers) = little_bytes w n ++ row_bytes widths numbers

abbrev pub table_bytes : Layout → ℕ → List (List ℕ) → List ℕ
table_bytes layout table rows = flat_map (row_bytes (widths_of layout table)) rows

-- tables one after the other, from a number on
unfoldable pub tables_from : Layout → ℕ → List (List (List ℕ)) → List ℕ
tables_from layout table [] = []
tables_from layout table (rows ∷ tables) = table_bytes layout table rows ++ tables_from layout (table + 1) tables

unfoldable pub tables_stream : Content → List ℕ
tables_stream content = padded4 (tables_header content ++ tables_from (sized content) 0 content.tables)

-- ---- the metadata root and its stream headers (II.24.2.1 and II.24.2.2)

pub record Stream : Type 0 where
  pub name : List ℕ
  pub bytes : List ℕ

abbrev pub streams_of : Content → List Stream
streams_of content =
    record { name = tables_name; bytes = tables_stream content } ∷ record { name = strings_name; bytes = content.strings }
    ∷ record { name = user_strings_name; bytes = content.user_strings } ∷ record { name = guids_name; bytes = content.guids }
    ∷ record { name = blobs_name; bytes = content.blobs } ∷ []

-- a stream header: offset, size, and the name with its zero, padded to a multiple of 4
abbrev pub stream_header : ℕ → Stream → List ℕ
stream_header offset s = little_bytes 4 offset ++ (little_bytes 4 (length s.bytes) ++ padded4 (s.name ++ 0 ∷ []))

abbrev pub stream_headers : ℕ → List Stream → List ℕ
stream_headers offset [] = []
stream_headers offset (s ∷ streams) = stream_header offset s ++ stream_headers (offset + length s.bytes) streams

-- the root's bytes up to the stream headers: its signature, versions, and the number of streams
abbrev pub version_text : List ℕ
version_text = codes "v4.0.30319" ++ 0 ∷ 0 ∷ []

abbrev pub root_bytes : List ℕ
root_bytes =
    little_bytes 4 0x424A5342 ++ (little_bytes 2 1 ++ (little_bytes 2 1 ++ (little_bytes 4 0 ++ (little_bytes 4 12
    ++ (version_text ++ (little_bytes 2 0 ++ little_bytes 2 5))))))

-- how far the first stream is from the root: 32 bytes, and five headers of 76 in all
abbrev pub first_stream : ℕ
first_stream = 108

unfoldable pub metadata_bytes : Content → List ℕ
metadata_bytes content =
    root_bytes ++ (stream_headers first_stream (streams_of content) ++ flat_map (λ s. s.bytes) (streams_of content))

-- ---- the section

-- the CLI header: its size, the runtime version 2.5, the metadata, flags (IL only) and the entry token; all other directories are 0
abbrev pub cli_fields : Content → ℕ → List HeaderField
cli_fields content entry =
    at 512 4 72 ∷ at 516 2 2 ∷ at 518 2 5 ∷ at 520 4 (metadata_rva content) ∷ at 524 4 (length (metadata_bytes content))
    ∷ at 528 4 1 ∷ at 532 4 entry ∷ at 536 8 0 ∷ at 544 8 0 ∷ at 552 8 0 ∷ at 560 8 0 ∷ at 568 8 0 ∷ at 576 4 0 ∷ at 580 4 0
    ∷ []

unfoldable pub section_content : Content → ℕ → List ℕ
section_content content entry = fields_bytes (cli_fields content entry) ++ (content.bodies ++ metadata_bytes content)

abbrev pub section_size : Content → ℕ
section_size content = 72 + (length content.bodies + length (metadata_bytes content))

-- ---- the headers before it

-- for i386; an executable image of 32 bits, and a library where there is no entry
abbrev pub characteristics : ℕ → ℕ
characteristics entry = if entry == 0 then 0x2102 else 0x0102

abbrev pub coff_fields : ℕ → List HeaderField
coff_fields entry =
    at 0 60 0x5A4D ∷ at 60 4 64 ∷ at 64 4 0x4550 ∷ at 68 2 0x014C ∷ at 70 2 1 ∷ at 72 4 0 ∷ at 76 4 0 ∷ at 80 4 0
    ∷ at 84 2 224 ∷ at 86 2 (characteristics entry) ∷ []

abbrev pub image_size : ℕ → ℕ
image_size size = section_rva + aligned section_rva size

-- the optional header of PE32 up to its data directories, for a section of some size
abbrev pub optional_fields : ℕ → List HeaderField
optional_fields size =
    at 88 2 0x10B ∷ at 90 1 8 ∷ at 91 1 0 ∷ at 92 4 (aligned 512 size) ∷ at 96 4 0 ∷ at 100 4 0 ∷ at 104 4 0
    ∷ at 108 4 section_rva ∷ at 112 4 0 ∷ at 116 4 0x40_0000 ∷ at 120 4 section_rva ∷ at 124 4 512
    ∷ at 128 2 4 ∷ at 130 2 0 ∷ at 132 2 0 ∷ at 134 2 0 ∷ at 136 2 4 ∷ at 138 2 0 ∷ at 140 4 0
    ∷ at 144 4 (image_size size) ∷ at 148 4 section_at ∷ at 152 4 0 ∷ at 156 2 3 ∷ at 158 2 0x8540
    ∷ at 160 4 0x10_0000 ∷ at 164 4 0x1000 ∷ at 168 4 0x10_0000 ∷ at 172 4 0x1000 ∷ at 176 4 0 ∷ at 180 4 16 ∷ []

-- the sixteen data directories: all are 0 but the CLI header's
abbrev pub directory_fields : List HeaderField
directory_fields =
    at 184 8 0 ∷ at 192 8 0 ∷ at 200 8 0 ∷ at 208 8 0 ∷ at 216 8 0 ∷ at 224 8 0 ∷ at 232 8 0 ∷ at 240 8 0 ∷ at 248 8 0
    ∷ at 256 8 0 ∷ at 264 8 0 ∷ at 272 8 0 ∷ at 280 8 0 ∷ at 288 8 0 ∷ at 296 4 section_rva ∷ at 300 4 72 ∷ at 304 8 0 ∷ []

-- the one section, code that is read and executed
abbrev pub text_section : ℕ → PeSection
text_section size = record {
  name = codes ".text" ++ 0 ∷ 0 ∷ 0 ∷ [];
  virtual_size = size;
  rva = section_rva;
  raw_size = aligned 512 size;
  raw_at = section_at;
  flags = 0x6000_0020;
}

unfoldable pub header_bytes : Content → ℕ → List ℕ
header_bytes content entry =
    fields_bytes (coff_fields entry ++ (optional_fields (section_size content) ++ directory_fields))
    ++ section_bytes (text_section (section_size content))

-- ---- the file

unfoldable pub file_of : Content → ℕ → List ℕ
file_of content entry = padded (header_bytes content entry) ++ padded (section_content content entry)

-- What is in a PE file with a CLI header, each at its place (PE/COFF 2.5 to 3.4, ECMA-335 II.25.3.3).
use Rattle.std.specs.Prelude.{ℕ, ◌+◌, ◌-◌, ◌==◌, ◌&&◌, List, Bool, Option, Some, None, if◌then◌else◌, unwrap_or}
use Rattle.rtr_bytes.specs.declared.fault.Span.{Span}
use Rattle.rtr_bytes.specs.Field.{u16_of, u32_of}
use Rattle.rtr_bytes.specs.Checks.{records}
use Rattle.pe_image.specs.declared.section.PeSection.{PeSection}
use Rattle.pe_image.specs.Sections.{section_at, slice_of_rva}

-- the place of the PE signature, which the MS-DOS header has at 60
abbrev pub pe_at : List ℕ → ℕ
pe_at bytes = u32_of bytes 60

-- COFF header: Machine, NumberOfSections, SizeOfOptionalHeader
abbrev pub machine_of : List ℕ → ℕ
machine_of bytes = u16_of bytes (pe_at bytes + 4)

abbrev pub section_count : List ℕ → ℕ
section_count bytes = u16_of bytes (pe_at bytes + 6)

abbrev pub optional_size : List ℕ → ℕ
optional_size bytes = u16_of bytes (pe_at bytes + 20)

-- the optional header begins with Magic, 0x20B for PE32+
abbrev pub optional_at : List ℕ → ℕ
optional_at bytes = pe_at bytes + 24

abbrev pub magic_of : List ℕ → ℕ
magic_of bytes = u16_of bytes (optional_at bytes)

abbrev pub is_wide : List ℕ → Bool
is_wide bytes = magic_of bytes == 0x20B

-- how far into the optional header the data directories are: after their count, NumberOfRvaAndSizes
abbrev pub directories_offset : List ℕ → ℕ
directories_offset bytes = if is_wide bytes then 112 else 96

abbrev pub directory_count_at : List ℕ → ℕ
directory_count_at bytes = optional_at bytes + directories_offset bytes - 4

-- data directory 14, of the CLI header: an RVA and a size
abbrev pub cli_directory_at : List ℕ → ℕ
cli_directory_at bytes = optional_at bytes + directories_offset bytes + 112

-- the section table is after the optional header
abbrev pub section_table_at : List ℕ → ℕ
section_table_at bytes = optional_at bytes + optional_size bytes

abbrev pub sections_of : List ℕ → List PeSection
sections_of bytes = records (section_at bytes) (section_table_at bytes) 40 (section_count bytes)

-- where a range of RVAs is in the file
abbrev pub place_of : List ℕ → ℕ → ℕ → Option ℕ
place_of bytes rva len = slice_of_rva (sections_of bytes) rva len

-- the CLI header: the 72 bytes that directory 14 names
abbrev pub cli_at : List ℕ → ℕ
cli_at bytes = unwrap_or (place_of bytes (u32_of bytes (cli_directory_at bytes)) 72) 0

-- the metadata, where the CLI header says
abbrev pub metadata_size : List ℕ → ℕ
metadata_size bytes = u32_of bytes (cli_at bytes + 12)

abbrev pub metadata_place : List ℕ → Option ℕ
metadata_place bytes = place_of bytes (u32_of bytes (cli_at bytes + 8)) (metadata_size bytes)

-- ManagedNativeHeader of the CLI header, an RVA and a size: none where both are 0
abbrev pub native_span : ℕ → ℕ → Option Span
native_span rva size = if rva == 0 && size == 0 then None else Some (record { start = rva; len = size })

abbrev pub native_of : List ℕ → Option Span
native_of bytes = native_span (u32_of bytes (cli_at bytes + 64)) (u32_of bytes (cli_at bytes + 68))

-- what a reader of the headers exposes
pub record Headers : Type 0 where
  pub machine : ℕ
  pub wide : Bool
  pub sections : List PeSection
  pub cli : Span
  pub metadata : Span
  pub cli_flags : ℕ
  pub entry_token : ℕ
  pub native : Option Span

abbrev pub headers_of : List ℕ → Headers
headers_of bytes = record {
  machine = machine_of bytes;
  wide = is_wide bytes;
  sections = sections_of bytes;
  cli = record { start = cli_at bytes; len = 72 };
  metadata = record { start = unwrap_or (metadata_place bytes) 0; len = metadata_size bytes };
  cli_flags = u32_of bytes (cli_at bytes + 16);
  entry_token = u32_of bytes (cli_at bytes + 20);
  native = native_of bytes;
}

-- A written PE file: when one can be written, the numbers of its headers by their places (PE/COFF 2 to 4), and the
-- bytes that its RVAs keep.
use Rattle.std.specs.Prelude.{◌≡◌, ℕ, ◌+◌, ◌^◌, ◌<◌, ◌≤◌, ◌==◌, ◌||◌, List, [], ◌∷◌, ◌++◌, length, take, drop, All}
use Rattle.std.specs.Prelude.{nat_le, Some, IsSome, None, if◌then◌else◌}
use Rattle.std.specs.List.{AllZip}
use Rattle.rtr_bytes.specs.declared.fault.Span.{Span}
use Rattle.rtr_bytes.specs.declared.fault.Fault.{Fault}
use Rattle.rtr_bytes.specs.Checks.{first_fault}
use Rattle.rtr_bytes.specs.Field.{field_at, u32_of}
use Rattle.pe_image.specs.declared.section.PeSection.{PeSection}
use Rattle.pe_image.specs.declared.values.CoffHeader.{CoffHeader}
use Rattle.pe_image.specs.declared.values.OptionalHeader.{OptionalHeader}
use Rattle.pe_image.specs.declared.values.Sizes.{Sizes}
use Rattle.pe_image.specs.declared.values.HeaderValues.{HeaderValues}
use Rattle.pe_image.specs.Sections.{slice_of_rva}
use Rattle.pe_image.specs.Headers.{optional_at, directories_offset, place_of, cli_at}
use Rattle.pe_image.specs.Checks.{pe_checks}
use Rattle.pe_image.specs.Places.{aligned, highest_end, dat_rva, cod_rva, headers_end, alignment_room, length_bound}
use Rattle.pe_image.specs.Raw.{raw_of, padded}

-- When a file can be written with so many bytes after the sections of an input.
pub record IsWritable (sections : List PeSection) (dat_len cod_len cli_at : ℕ) : Type 0 where
  -- at most 65,535 sections in all, whose headers end at or below each VirtualAddress
  pub room_for_headers : (length sections ≤ 65533) × All (λ s. headers_end (length sections + 2) ≤ s.rva) sections
  -- each RVA has 32 bits
  pub room_in_image : highest_end sections + dat_len + cod_len + alignment_room < 2 ^ 32
  -- each place in the file has 32 bits
  pub room_in_file : length_bound sections dat_len cod_len < 2 ^ 32
  -- the new CLI header's 72 bytes are among those of `.r2rdat`
  pub cli_in_dat : (dat_rva sections ≤ cli_at) × (cli_at + 72 ≤ dat_rva sections + dat_len)

-- SectionAlignment of the optional header, at the same place in both forms
abbrev pub section_alignment_of : List ℕ → ℕ
section_alignment_of bytes = u32_of bytes (optional_at bytes + 32)

-- data directory 2 of the input, of the resources: an RVA and a size
abbrev pub resources_of : List ℕ → Span
resources_of bytes = let at =
    optional_at bytes + directories_offset bytes + 16 in record { start = u32_of bytes at; len = u32_of bytes (at + 4) }

-- SizeOfImage: the end of the last section as a multiple of SectionAlignment, and that end itself where there is no
-- such multiple of 32 bits
abbrev pub image_size : ℕ → ℕ → ℕ
image_size alignment image_end =
    if alignment == 0 || nat_le (2 ^ 32) (aligned alignment image_end) then image_end else aligned alignment image_end

-- the COFF header of a written file (PE/COFF 3.3): for A64, an executable image, aware of large addresses, a library
abbrev pub coff_header : ℕ → CoffHeader
coff_header section_count = record {
  machine = 0xAA64;
  number_of_sections = section_count;
  time_date_stamp = 0;
  pointer_to_symbol_table = 0;
  number_of_symbols = 0;
  size_of_optional_header = 240;
  characteristics = 0x2022;
}

-- the optional header of a written file before its directories, of PE32+ (PE/COFF 3.4)
abbrev pub optional_header : Sizes → OptionalHeader
optional_header z = record {
  magic = 0x20B;
  major_linker_version = 14;
  minor_linker_version = 0;
  size_of_code = z.size_of_code;
  size_of_initialized_data = z.size_of_initialized_data;
  size_of_uninitialized_data = 0;
  address_of_entry_point = 0;
  base_of_code = z.base_of_code;
  image_base = 0x1_8000_0000;
  section_alignment = z.section_alignment;
  file_alignment = 512;
  major_operating_system_version = 6;
  minor_operating_system_version = 2;
  major_image_version = 0;
  minor_image_version = 0;
  major_subsystem_version = 6;
  minor_subsystem_version = 2;
  win32_version_value = 0;
  size_of_image = z.size_of_image;
  size_of_headers = z.size_of_headers;
  check_sum = 0;
  -- of a console
  subsystem = 3;
  -- any address of 64 bits, no execution of data, aware of terminal servers
  dll_characteristics = 0x8160;
  size_of_stack_reserve = 0x10_0000;
  size_of_stack_commit = 0x1000;
  size_of_heap_reserve = 0x10_0000;
  size_of_heap_commit = 0x1000;
  loader_flags = 0;
  number_of_rva_and_sizes = 16;
}

-- what it says of the file's sections, and the input's section alignment
unfoldable pub header_sizes : List PeSection → List ℕ → ℕ → ℕ → Sizes
header_sizes sections bytes dat_len cod_len = record {
  size_of_code = aligned 512 cod_len;
  size_of_initialized_data = aligned 512 dat_len;
  base_of_code = cod_rva sections dat_len;
  section_alignment = section_alignment_of bytes;
  size_of_image = image_size (section_alignment_of bytes) (cod_rva sections dat_len + cod_len);
  size_of_headers = aligned 512 (headers_end (length sections + 2));
}

abbrev pub header_values : List PeSection → List ℕ → ℕ → ℕ → ℕ → HeaderValues
header_values sections bytes dat_len cod_len cli_at = record {
  coff = coff_header (length sections + 2);
  optional = optional_header (header_sizes sections bytes dat_len cod_len);
  resource_table = resources_of bytes;
  cli_header = record { start = cli_at; len = 72 };
}

-- a number of so many bytes at a file offset, the lowest byte first
pub record HeaderField : Type 0 where
  pub place : ℕ
  pub width : ℕ
  pub number : ℕ

abbrev pub at : ℕ → ℕ → ℕ → HeaderField
at place width number = record { place = place; width = width; number = number }

abbrev pub StandsIn : List ℕ → HeaderField → Type 0
StandsIn bytes f = field_at f.width bytes f.place ≡ Some f.number

-- fields that cover the bytes from one place to another, one after the other
abbrev pub Covers : ℕ → List HeaderField → ℕ → Type 0
Covers from [] to = from ≡ to
Covers from (f ∷ fields) to = (f.place ≡ from) × Covers (from + f.width) fields to

-- the MS-DOS header, which is "MZ" and zeros up to the place of the signature at 60, and the signature, "PE" and two zeros
abbrev pub dos_fields : List HeaderField
dos_fields = at 0 60 0x5A4D ∷ at 60 4 64 ∷ at 64 4 0x4550 ∷ []

abbrev pub coff_fields : CoffHeader → List HeaderField
coff_fields h =
    at 68 2 h.machine ∷ at 70 2 h.number_of_sections ∷ at 72 4 h.time_date_stamp ∷ at 76 4 h.pointer_to_symbol_table
    ∷ at 80 4 h.number_of_symbols ∷ at 84 2 h.size_of_optional_header ∷ at 86 2 h.characteristics ∷ []

-- the optional header before its directories
abbrev pub optional_fields : OptionalHeader → List HeaderField
optional_fields h =
    at 88 2 h.magic ∷ at 90 1 h.major_linker_version ∷ at 91 1 h.minor_linker_version ∷ at 92 4 h.size_of_code
    ∷ at 96 4 h.size_of_initialized_data ∷ at 100 4 h.size_of_uninitialized_data ∷ at 104 4 h.address_of_entry_point
    ∷ at 108 4 h.base_of_code ∷ at 112 8 h.image_base ∷ at 120 4 h.section_alignment ∷ at 124 4 h.file_alignment
    ∷ at 128 2 h.major_operating_system_version ∷ at 130 2 h.minor_operating_system_version
    ∷ at 132 2 h.major_image_version ∷ at 134 2 h.minor_image_version
    ∷ at 136 2 h.major_subsystem_version ∷ at 138 2 h.minor_subsystem_version ∷ at 140 4 h.win32_version_value
    ∷ at 144 4 h.size_of_image ∷ at 148 4 h.size_of_headers ∷ at 152 4 h.check_sum
    ∷ at 156 2 h.subsystem ∷ at 158 2 h.dll_characteristics
    ∷ at 160 8 h.size_of_stack_reserve ∷ at 168 8 h.size_of_stack_commit
    ∷ at 176 8 h.size_of_heap_reserve ∷ at 184 8 h.size_of_heap_commit
    ∷ at 192 4 h.loader_flags ∷ at 196 4 h.number_of_rva_and_sizes ∷ []

-- the sixteen data directories, an RVA and a size each: all are 0 but the resources' and the CLI header's
abbrev pub directory_fields : Span → Span → List HeaderField
directory_fields resource_table cli_header =
    at 200 8 0 ∷ at 208 8 0 ∷ at 216 4 resource_table.start ∷ at 220 4 resource_table.len
    ∷ at 224 8 0 ∷ at 232 8 0 ∷ at 240 8 0 ∷ at 248 8 0 ∷ at 256 8 0 ∷ at 264 8 0 ∷ at 272 8 0
    ∷ at 280 8 0 ∷ at 288 8 0 ∷ at 296 8 0 ∷ at 304 8 0
    ∷ at 312 4 cli_header.start ∷ at 316 4 cli_header.len ∷ at 320 8 0 ∷ []

-- all of them: they cover the file up to its section table
abbrev pub header_fields : HeaderValues → List HeaderField
header_fields v = dos_fields ++ coff_fields v.coff ++ optional_fields v.optional ++ directory_fields v.resource_table v.cli_header

-- the numbers of a section header (PE/COFF 4) at a place, after the 8 bytes of its name: with no relocations and no line numbers
abbrev pub section_fields : ℕ → PeSection → List HeaderField
section_fields place s =
    at (place + 8) 4 s.virtual_size ∷ at (place + 12) 4 s.rva ∷ at (place + 16) 4 s.raw_size ∷ at (place + 20) 4 s.raw_at
    -- PointerToRelocations, PointerToLinenumbers, NumberOfRelocations, NumberOfLinenumbers
    ∷ at (place + 24) 4 0 ∷ at (place + 28) 4 0 ∷ at (place + 32) 2 0 ∷ at (place + 34) 2 0
    ∷ at (place + 36) 4 s.flags ∷ []

-- the numbers of section headers one after the other
abbrev pub table_fields : ℕ → List PeSection → List HeaderField
table_fields place [] = []
table_fields place (s ∷ sections) = section_fields place s ++ table_fields (place + 40) sections

-- after so many bytes of headers there are zeros up to a multiple of 512
abbrev pub IsPaddedFrom : List ℕ → ℕ → Type 0
IsPaddedFrom bytes size = take (aligned 512 size) bytes ≡ padded (take size bytes)

-- at a section's place are a part's bytes, and zeros up to a multiple of 512
abbrev pub HasPadded : List ℕ → PeSection → List ℕ → Type 0
HasPadded bytes s part = take (aligned 512 (length part)) (drop s.raw_at bytes) ≡ padded part

-- each range of RVAs that is found in the old bytes is found in the new ones, with the same bytes
abbrev pub KeepsRanges : List PeSection → List ℕ → List PeSection → List ℕ → Type 0
KeepsRanges old_sections old new_sections new =
    (rva len place : ℕ) → slice_of_rva old_sections rva len ≡ Some place
    → (kept : ℕ) × (slice_of_rva new_sections rva len ≡ Some kept) × (take len (drop kept new) ≡ take len (drop place old))

-- the raw bytes of each section are those that it had, at its new place
abbrev pub HasRawOf : List ℕ → List ℕ → PeSection → PeSection → Type 0
HasRawOf old new before after = raw_of new after ≡ raw_of old before

abbrev pub KeepsRaw : List PeSection → List ℕ → List PeSection → List ℕ → Type 0
KeepsRaw old_sections old new_sections new = AllZip (HasRawOf old new) old_sections (take (length old_sections) new_sections)

-- A part is in one piece at a place of the bytes, and each range within it that isn't empty is found there by its RVA.
pub record FindsPart (sections : List PeSection) (bytes : List ℕ) (rva : ℕ) (part : List ℕ) : Type 0 where
  pub place : ℕ
  pub rest : List ℕ
  pub stands : drop place bytes ≡ part ++ rest
  pub found : (start len : ℕ) → 0 < len → start + len ≤ length part → slice_of_rva sections (rva + start) len ≡ Some (place + start)

-- directory 14 names a CLI header in a section: the 72 bytes at a place of a part
abbrev pub HasCliHeader : List ℕ → ℕ → List ℕ → ℕ → Type 0
HasCliHeader bytes rva part start =
    (place_of bytes rva 72 ≡ Some (cli_at bytes)) × (take 72 (drop (cli_at bytes) bytes) ≡ take 72 (drop start part))

-- read back, the bytes fail at most a check of what their CLI header says: its cb, and the range of the metadata
abbrev pub FailsLate : List ℕ → Type 0
FailsLate bytes = (f : Fault) → first_fault pe_checks bytes ≡ Some f → 13 ≤ f.check

-- they fail none where the CLI header at a place of a part has cb of 72 or more and names metadata in a section
abbrev pub IsWellFormedWith : List ℕ → List ℕ → ℕ → Type 0
IsWellFormedWith bytes part start =
    72 ≤ u32_of part start → IsSome (place_of bytes (u32_of part (start + 8)) (u32_of part (start + 12)))
    → first_fault pe_checks bytes ≡ None

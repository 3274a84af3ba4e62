-- The ReadyToRun header of a file (ReadyToRun File Format, "Structures"), its section records, and their checks.
use Rattle.std.specs.Prelude.{ℕ, ◌+◌, ◌-◌, ◌*◌, ◌%◌, ◌==◌, ◌&&◌, ◌||◌, List, [], ◌∷◌, ◌++◌, drop, codes, Bool, false, Option, Some, None}
use Rattle.std.specs.Prelude.{nat_lt, not, is_some, nat_eq, if◌then◌else◌, unwrap_or, find}
use Rattle.std.specs.Option.{option_map, option_map_or}
use Rattle.std.specs.List.{list_any, starts_with}
use Rattle.rtr_bytes.specs.declared.fault.Span.{Span}
use Rattle.rtr_bytes.specs.Field.{u16_of, u32_of}
use Rattle.rtr_bytes.specs.Checks.{Check, check, holds_or, first_record, records}
use Rattle.pe_image.specs.Headers.{cli_at, machine_of, native_of, place_of}
use Rattle.rtr_sections.specs.declared.header.RtrSection.{RtrSection}
use Rattle.rtr_sections.specs.declared.header.RtrHeader.{RtrHeader}

-- the RVA of the header that ManagedNativeHeader names
abbrev pub native_rva : List ℕ → ℕ
native_rva bytes = u32_of bytes (cli_at bytes + 64)

-- the header's place: Signature, MajorVersion, MinorVersion, Flags and NumberOfSections have 16 bytes
abbrev pub native_at : List ℕ → ℕ
native_at bytes = unwrap_or (place_of bytes (native_rva bytes) 16) 0

abbrev pub record_count : List ℕ → ℕ
record_count bytes = u32_of bytes (native_at bytes + 12)

-- the section records, 12 bytes each, are after the header; their range is looked up by itself
abbrev pub records_place : List ℕ → Option ℕ
records_place bytes = place_of bytes (native_rva bytes + 16) (12 * record_count bytes)

abbrev pub records_at : List ℕ → ℕ
records_at bytes = unwrap_or (records_place bytes) 0

-- Type, and the range of RVAs
abbrev pub rtr_section_at : List ℕ → ℕ → RtrSection
rtr_section_at bytes at = record { kind = u32_of bytes at; rva = u32_of bytes (at + 4); size = u32_of bytes (at + 8) }

abbrev pub rtr_sections_of : List ℕ → List RtrSection
rtr_sections_of bytes = records (rtr_section_at bytes) (records_at bytes) 12 (record_count bytes)

-- the types of the sections that this compiler writes: CompilerIdentifier, ImportSections, RuntimeFunctions,
-- MethodDefEntryPoints and DelayLoadMethodCallThunks
abbrev pub is_own_kind : ℕ → Bool
is_own_kind kind = kind == 100 || kind == 101 || kind == 102 || kind == 103 || kind == 106

-- its type is above that of the record before
abbrev pub ascends : List ℕ → ℕ → Bool
ascends bytes at = nat_lt (u32_of bytes (at - 12)) (u32_of bytes at)

-- the range of such a section, where it isn't empty, is in a section of the file
abbrev pub section_is_placed : List ℕ → RtrSection → Bool
section_is_placed bytes section = not (is_own_kind section.kind) || section.size == 0 || is_some (place_of bytes section.rva section.size)

abbrev pub range_is_placed : List ℕ → ℕ → Bool
range_is_placed bytes at = section_is_placed bytes (rtr_section_at bytes at)

-- ImportSections has whole records of 20 bytes
abbrev pub has_whole_imports : RtrSection → Bool
has_whole_imports section = not (section.kind == 101) || section.size % 20 == 0

abbrev pub imports_are_whole : List ℕ → ℕ → Bool
imports_are_whole bytes at = has_whole_imports (rtr_section_at bytes at)

-- the place of the first section record that fails a test of its place
abbrev pub first_section : (ℕ → Bool) → List ℕ → Option ℕ
first_section test bytes = first_record test (records_at bytes) 12 (record_count bytes)

-- what is asked of a file with a native header alone
abbrev pub if_native : List ℕ → Option ℕ → Option ℕ
if_native bytes place = if is_some (native_of bytes) then place else None

-- the header and its records are in a section
abbrev pub place_checks : List Check
place_checks =
    check 16 (λ bytes. if_native bytes (holds_or (is_some (place_of bytes (native_rva bytes) 16)) (cli_at bytes + 64)))
    -- "RTR" and a zero
    ∷ check 17 (λ bytes. if_native bytes (holds_or (u32_of bytes (native_at bytes) == 0x00525452) (native_at bytes)))
    ∷ check 18 (λ bytes. if_native bytes (holds_or (is_some (records_place bytes)) (native_at bytes + 12)))
    ∷ []

-- types ascend
abbrev pub order_checks : List Check
order_checks =
    check 19 (λ bytes. if_native bytes (first_record (ascends bytes) (records_at bytes + 12) 12 (record_count bytes - 1)))
    ∷ []

-- the sections that this compiler writes are in a section of the file
abbrev pub range_checks : List Check
range_checks =
    check 20 (λ bytes. if_native bytes (option_map (λ at. at + 4) (first_section (range_is_placed bytes) bytes)))
    ∷ []

abbrev pub size_checks : List Check
size_checks =
    check 21 (λ bytes. if_native bytes (option_map (λ at. at + 8) (first_section (imports_are_whole bytes) bytes)))
    ∷ []

-- of the section records
abbrev pub table_checks : List Check
table_checks = order_checks ++ range_checks ++ size_checks

unfoldable pub header_checks : List Check
header_checks = place_checks ++ table_checks

-- the identifier of this compiler's images, with its zero
abbrev pub identifier : List ℕ
identifier = codes "r2r profile 1" ++ 0 ∷ []

-- the section's bytes are the identifier
abbrev pub is_identifier : List ℕ → RtrSection → Bool
is_identifier bytes section =
    section.kind == 100 && section.size == 14
    && option_map_or (λ at. starts_with nat_eq (drop at bytes) identifier) (place_of bytes section.rva 14) false

-- an image of this compiler: for A64, of version 5.0, with the identifier
unfoldable pub is_own : List ℕ → Bool
is_own bytes =
    machine_of bytes == 0xAA64 && u16_of bytes (native_at bytes + 4) == 5 && u16_of bytes (native_at bytes + 6) == 0
    && list_any (is_identifier bytes) (rtr_sections_of bytes)

-- the header in a file with a native header
unfoldable pub rtr_header_of : List ℕ → RtrHeader
rtr_header_of bytes = record {
  at = native_at bytes;
  major = u16_of bytes (native_at bytes + 4);
  minor = u16_of bytes (native_at bytes + 6);
  flags = u32_of bytes (native_at bytes + 8);
  sections = rtr_sections_of bytes;
}

-- the section of a type: types ascend, so there is one at most
abbrev pub section_of_kind : List ℕ → ℕ → Option RtrSection
section_of_kind bytes kind = find (λ s. s.kind == kind) (rtr_sections_of bytes)

-- Where a section's bytes are in the file. One that is missing or has size 0 is empty.
abbrev pub part_at : List ℕ → Option RtrSection → Span
part_at bytes None = record { start = 0; len = 0 }
part_at bytes (Some s) = record { start = unwrap_or (place_of bytes s.rva s.size) 0; len = s.size }

unfoldable pub part_of : List ℕ → ℕ → Span
part_of bytes kind = part_at bytes (section_of_kind bytes kind)

-- Import sections (ReadyToRun File Format, "READYTORUN_IMPORT_SECTIONS"): records of cells and their fixups.
use Rattle.std.specs.Prelude.{ℕ, ◌+◌, ◌-◌, ◌*◌, ◌/◌, ◌%◌, ◌==◌, ◌&&◌, ◌||◌, List, [], ◌∷◌, slice_index, Bool, Option, Some, None, nat_le}
use Rattle.std.specs.Prelude.{is_some, unwrap_or, if◌then◌else◌}
use Rattle.std.specs.Option.{option_map, option_and_then, option_or}
use Rattle.std.specs.List.{flat_map}
use Rattle.rtr_bytes.specs.declared.fault.Span.{Span}
use Rattle.rtr_bytes.specs.Field.{field_at, u16_of, u32_of}
use Rattle.rtr_bytes.specs.Checks.{first_record, records}
use Rattle.fixup_sigs.specs.declared.fixup.Fixup.{Fixup}
use Rattle.pe_image.specs.Headers.{place_of}
use Rattle.rtr_sections.specs.declared.imports.ImportSection.{ImportSection}
use Rattle.rtr_sections.specs.declared.slots.Slot.{Slot}
use Rattle.fixup_sigs.specs.Reading.{fixup_at}
use Rattle.rtr_sections.specs.Numbered.{present, first_bad}

-- a record: the cells' RVA and size, Flags, Type, EntrySize, Signatures and AuxiliaryData
abbrev pub import_at : List ℕ → ℕ → ImportSection
import_at bytes at = record {
  rva = u32_of bytes at;
  size = u32_of bytes (at + 4);
  flags = u16_of bytes (at + 8);
  kind = slice_index bytes (at + 10);
  entry_size = slice_index bytes (at + 11);
  signatures = u32_of bytes (at + 12);
  auxiliary = u32_of bytes (at + 16);
}

-- the whole records of a part
abbrev pub import_count : Span → ℕ
import_count part = part.len / 20

unfoldable pub imports_in : List ℕ → Span → List ImportSection
imports_in bytes part = records (import_at bytes) part.start 20 (import_count part)

-- the cells, where they aren't empty, are in a section of the file
abbrev pub has_placed_cells : List ℕ → ImportSection → Bool
has_placed_cells bytes import = import.size == 0 || is_some (place_of bytes import.rva import.size)

abbrev pub cells_are_placed : List ℕ → ℕ → Bool
cells_are_placed bytes at = has_placed_cells bytes (import_at bytes at)

-- the first record whose cells aren't
unfoldable pub unplaced_cells : List ℕ → Span → Option ℕ
unplaced_cells bytes part = first_record (cells_are_placed bytes) part.start 20 (import_count part)

-- ---- images of this compiler

-- cells of 8 bytes
abbrev pub slot_count : ImportSection → ℕ
slot_count import = import.size / 8

-- Signatures is the RVA of one RVA of 4 bytes for each slot
abbrev pub signatures_place : List ℕ → ImportSection → Option ℕ
signatures_place bytes import = place_of bytes import.signatures (4 * slot_count import)

abbrev pub signatures_at : List ℕ → ImportSection → ℕ
signatures_at bytes import = unwrap_or (signatures_place bytes import) 0

abbrev pub cells_at : List ℕ → ImportSection → ℕ
cells_at bytes import = unwrap_or (place_of bytes import.rva import.size) 0

-- a record as this compiler writes them, whose array is in a section of the file
abbrev pub is_own_import : List ℕ → ImportSection → Bool
is_own_import bytes import =
    import.kind == 0 && import.entry_size == 8 && import.size % 8 == 0 && import.auxiliary == 0 && is_some (signatures_place bytes import)

abbrev pub has_own_form : List ℕ → ℕ → Bool
has_own_form bytes at = is_own_import bytes (import_at bytes at)

-- the first record of another form
unfoldable pub foreign_import : List ℕ → Span → Option ℕ
foreign_import bytes part = first_record (has_own_form bytes) part.start 20 (import_count part)

-- the fixup whose signature an array's word names: none where no fixup begins at that RVA, and then the word is bad
abbrev pub named_fixup : List ℕ → ℕ → Option Fixup
named_fixup bytes at = option_and_then (fixup_at bytes) (place_of bytes (u32_of bytes at) 1)

-- the slot of an array's word, whose cell is at a place
unfoldable pub slot_at : List ℕ → ℕ → ℕ → Option Slot
slot_at bytes at cell =
    option_map (λ fixup. record { fixup = fixup; word = unwrap_or (field_at 8 bytes cell) 0 }) (named_fixup bytes at)

-- slot i of a section
abbrev pub slot_of : List ℕ → ImportSection → ℕ → Option Slot
slot_of bytes import i = slot_at bytes (signatures_at bytes import + 4 * i) (cells_at bytes import + 8 * i)

unfoldable pub slots_in : List ℕ → ImportSection → List Slot
slots_in bytes import = present (slot_of bytes import) 0 (slot_count import)

-- the array's word of a slot that has no fixup
abbrev pub bad_word : List ℕ → ImportSection → ℕ → Option ℕ
bad_word bytes import i = if is_some (slot_of bytes import i) then None else Some (signatures_at bytes import + 4 * i)

-- the first such word of a section, and of all sections in their order
unfoldable pub first_bad_word : List ℕ → ImportSection → Option ℕ
first_bad_word bytes import = first_bad (bad_word bytes import) 0 (slot_count import)

abbrev pub first_bad_of : List ℕ → List ImportSection → Option ℕ
first_bad_of bytes [] = None
first_bad_of bytes (import ∷ imports) = option_or (first_bad_word bytes import) (first_bad_of bytes imports)

-- by section, and then by slot
abbrev pub all_slots : List ℕ → List ImportSection → List Slot
all_slots bytes imports = flat_map (slots_in bytes) imports

-- a record's cells are after those of the record before
abbrev pub follows : List ℕ → ℕ → Bool
follows bytes at = nat_le (u32_of bytes (at - 20) + u32_of bytes (at - 20 + 4)) (u32_of bytes at)

-- the first record that doesn't
unfoldable pub out_of_order : List ℕ → Span → Option ℕ
out_of_order bytes part = first_record (follows bytes) (part.start + 20) 20 (import_count part - 1)

-- The ReadyToRun part as this compiler writes it: the parts of it, one after the other, where each is, and its bytes.
use Rattle.std.specs.Prelude.{ℕ, ◌+◌, ◌-◌, ◌*◌, ◌==◌, List, [], ◌∷◌, ◌++◌, length, map, flat_map, max, find, unwrap_or}
use Rattle.byteorder.specs.Endian.{little_bytes}
use Rattle.rtr_bytes.specs.declared.fault.Span.{Span}
use Rattle.native_format.specs.declared.nibbles.SlotRef.{SlotRef}
use Rattle.native_format.specs.declared.sparse.Element.{Element}
use Rattle.native_format.specs.Nibbles.{list_bytes}
use Rattle.native_format.specs.SparseBytes.{sparse_bytes}
use Rattle.native_format.specs.Uint.{short_uint}
use Rattle.fixup_sigs.specs.Shortest.{fixup_bytes}
use Rattle.rtr_sections.specs.declared.entries.EntryPoint.{EntryPoint}
use Rattle.rtr_sections.specs.declared.functions.Function.{Function}
use Rattle.rtr_sections.specs.declared.header.RtrSection.{RtrSection}
use Rattle.rtr_sections.specs.declared.image.Image.{Image}
use Rattle.rtr_sections.specs.declared.imports.ImportSection.{ImportSection}
use Rattle.rtr_sections.specs.declared.slots.Slot.{Slot}
use Rattle.rtr_sections.specs.Header.{identifier}
use Rattle.rtr_sections.specs.Imports.{slot_count}

-- ---- entries

-- a function's index above bit 0 or, before a list of slots, above the bits 01
abbrev pub content_of_entry : ℕ → List SlotRef → List ℕ
content_of_entry function [] = short_uint (2 * function)
content_of_entry function (slot ∷ slots) = short_uint (4 * function + 1) ++ list_bytes (slot ∷ slots)

-- the element of a MethodDef row is one below it
abbrev pub element_of_entry : EntryPoint → Element
element_of_entry entry = record { index = entry.row - 1; content = content_of_entry entry.function entry.fixups }

-- the array counts as many elements as the highest row says
abbrev pub highest_row : List EntryPoint → ℕ
highest_row [] = 0
highest_row (entry ∷ entries) = max entry.row (highest_row entries)

unfoldable pub entry_bytes : List EntryPoint → List ℕ
entry_bytes entries = sparse_bytes (highest_row entries) (map element_of_entry entries)

-- ---- where each part is, counted from the first byte

-- The cells come first, from 0 on; each part begins where the one before it ends.
pub record Parts : Type 0 where
  -- the header and its five section records
  pub header : ℕ
  pub imports : ℕ
  -- the RVAs of the slots' signatures, section by section
  pub arrays : ℕ
  pub functions : ℕ
  -- the functions' unwind words
  pub unwinds : ℕ
  pub identifier : ℕ
  pub signatures : ℕ
  pub entries : ℕ
  pub end : ℕ

abbrev pub signature_bytes_of : List Slot → List ℕ
signature_bytes_of slots = flat_map (λ slot. fixup_bytes slot.fixup) slots

abbrev pub parts_in_order : ℕ → ℕ → ℕ → ℕ → ℕ → Parts
parts_in_order imports slots functions signatures entries =
    let header = 8 * slots in
    let records = header + 76 in
    let arrays = records + 20 * imports in
    let function_entries = arrays + 4 * slots in
    let unwinds = function_entries + 8 * functions in
    let name = unwinds + 4 * functions in
    let spelled = name + 14 in
    let array = spelled + signatures in
    record {
      header = header;
      imports = records;
      arrays = arrays;
      functions = function_entries;
      unwinds = unwinds;
      identifier = name;
      signatures = spelled;
      entries = array;
      end = array + entries;
    }

unfoldable pub parts_of : Image → Parts
parts_of plan =
    parts_in_order (length plan.imports) (length plan.slots) (length plan.functions) (length (signature_bytes_of plan.slots))
    (length (entry_bytes plan.entries))

-- ---- the records that are there

-- DelayLoadMethodCallThunks, whose range is the plan's
abbrev pub thunks_of : List RtrSection → RtrSection
thunks_of sections = unwrap_or (find (λ s. s.kind == 106) sections) (record { kind = 106; rva = 0; size = 0 })

abbrev pub section : ℕ → ℕ → ℕ → RtrSection
section kind rva size = record { kind = kind; rva = rva; size = size }

abbrev pub sections_at : ℕ → Parts → RtrSection → List RtrSection
sections_at at parts thunks =
    section 100 (at + parts.identifier) 14
    ∷ section 101 (at + parts.imports) (parts.arrays - parts.imports)
    ∷ section 102 (at + parts.functions) (parts.unwinds - parts.functions)
    ∷ section 103 (at + parts.entries) (parts.end - parts.entries)
    ∷ section 106 thunks.rva thunks.size
    ∷ []

unfoldable pub written_sections : Image → ℕ → List RtrSection
written_sections plan at = sections_at at (parts_of plan) (thunks_of plan.header.sections)

-- import records, whose cells and arrays are one after the other from two RVAs on
abbrev pub placed_imports : ℕ → ℕ → List ImportSection → List ImportSection
placed_imports cells arrays [] = []
placed_imports cells arrays (import ∷ imports) =
    record import { rva = cells; signatures = arrays } ∷ placed_imports (cells + import.size) (arrays + 4 * slot_count import) imports

unfoldable pub written_imports : Image → ℕ → List ImportSection
written_imports plan at = placed_imports at (at + (parts_of plan).arrays) plan.imports

-- the RVA of each slot's signature, one after the other from an RVA on
abbrev pub signature_rvas : ℕ → List Slot → List ℕ
signature_rvas rva [] = []
signature_rvas rva (slot ∷ slots) = rva ∷ signature_rvas (rva + length (fixup_bytes slot.fixup)) slots

-- ---- bytes

abbrev pub words : List ℕ → List ℕ
words numbers = flat_map (little_bytes 4) numbers

abbrev pub cell_bytes : List Slot → List ℕ
cell_bytes slots = flat_map (λ slot. little_bytes 8 slot.word) slots

abbrev pub section_bytes : RtrSection → List ℕ
section_bytes s = little_bytes 4 s.kind ++ (little_bytes 4 s.rva ++ little_bytes 4 s.size)

-- "RTR" and a zero, version 5.0, Flags, NumberOfSections, and the section records
abbrev pub header_bytes : ℕ → List RtrSection → List ℕ
header_bytes flags sections =
    little_bytes 4 0x00525452
    ++ (little_bytes 2 5 ++ (little_bytes 2 0 ++ (little_bytes 4 flags ++ (little_bytes 4 5 ++ flat_map section_bytes sections))))

abbrev pub import_bytes : ImportSection → List ℕ
import_bytes i =
    little_bytes 4 i.rva
    ++ (little_bytes 4 i.size
    ++ (little_bytes 2 i.flags
    ++ (i.kind ∷ i.entry_size ∷ (little_bytes 4 i.signatures ++ little_bytes 4 i.auxiliary))))

-- RuntimeFunctions, whose unwind words are one after the other from an RVA on
abbrev pub function_bytes : ℕ → List Function → List ℕ
function_bytes unwind [] = []
function_bytes unwind (f ∷ fs) = little_bytes 4 f.begin ++ (little_bytes 4 unwind ++ function_bytes (unwind + 4) fs)

abbrev pub unwind_bytes : List Function → List ℕ
unwind_bytes functions = flat_map (λ f. little_bytes 4 f.length) functions

-- the parts, one after the other
abbrev pub part_list : Image → ℕ → List (List ℕ)
part_list plan at =
    cell_bytes plan.slots
    ∷ header_bytes plan.header.flags (written_sections plan at)
    ∷ flat_map import_bytes (written_imports plan at)
    ∷ words (signature_rvas (at + (parts_of plan).signatures) plan.slots)
    ∷ function_bytes (at + (parts_of plan).unwinds) plan.functions
    ∷ unwind_bytes plan.functions
    ∷ identifier
    ∷ signature_bytes_of plan.slots
    ∷ entry_bytes plan.entries
    ∷ []

-- the whole, at an RVA
unfoldable pub part_bytes : Image → ℕ → List ℕ
part_bytes plan at = flat_map (λ part. part) (part_list plan at)

-- the header's range of RVAs
abbrev pub header_span : Image → ℕ → Span
header_span plan at = record { start = at + (parts_of plan).header; len = 76 }

-- the range of an import record's cells
abbrev pub span_of_cells : ImportSection → Span
span_of_cells import = record { start = import.rva; len = import.size }

abbrev pub cell_spans : Image → ℕ → List Span
cell_spans plan at = map span_of_cells (written_imports plan at)

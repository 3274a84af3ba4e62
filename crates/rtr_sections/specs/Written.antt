-- A written ReadyToRun part, read back from a file that carries it.
use Rattle.std.specs.Prelude.{◌≡◌, ℕ, ◌+◌, ◌-◌, ◌==◌, ◌<◌, ◌≤◌, List, ◌++◌, length, map, All, true, Some, IsSome, if◌then◌else◌}
use Rattle.rtr_bytes.specs.Field.{u32_of}
use Rattle.pe_image.specs.declared.section.PeSection.{PeSection}
use Rattle.pe_image.specs.Headers.{machine_of, native_of, place_of, sections_of}
use Rattle.pe_image.specs.Places.{dat_rva}
use Rattle.pe_image.specs.Written.{FindsPart, HasCliHeader, StandsIn, header_fields, header_values}
use Rattle.rtr_sections.specs.declared.functions.Function.{Function}
use Rattle.rtr_sections.specs.declared.header.RtrSection.{RtrSection}
use Rattle.rtr_sections.specs.declared.image.Image.{Image}
use Rattle.rtr_sections.specs.declared.imports.ImportSection.{ImportSection}
use Rattle.rtr_sections.specs.declared.slots.Slot.{Slot}
use Rattle.rtr_sections.specs.Parts.{header_span, highest_row, part_bytes, thunks_of, written_imports, written_sections}

-- ---- what is read back

-- The records of the plan in all but what the writer chose: places and the sizes of its own sections. The header's
-- file offset is the file's.
unfoldable pub back_image : Image → ℕ → ℕ → Image
back_image plan at header_at = record {
  header = record { at = header_at; major = 5; minor = 0; flags = plan.header.flags; sections = written_sections plan at };
  imports = written_imports plan at;
  slots = plan.slots;
  functions = plan.functions;
  entries = plan.entries;
  own = true;
}

-- its range, where it isn't empty, is in a section of the file
abbrev pub IsPlaced : List ℕ → RtrSection → Type 0
IsPlaced file s = 0 < s.size → IsSome (place_of file s.rva s.size)

-- A file that carries the part of a plan at an RVA, and an assembly of so many MethodDef rows.
pub record Carries (file : List ℕ) (plan : Image) (at rows : ℕ) : Type 0 where
  -- each range of the part is found at its RVA, with its bytes
  pub stands : FindsPart (sections_of file) file at (part_bytes plan at)
  -- it is for A64, and ManagedNativeHeader names the header
  pub machine : machine_of file ≡ 0xAA64
  pub native : native_of file ≡ Some (header_span plan at)
  -- code and thunks are in sections of the file
  pub code : All (λ f. IsSome (place_of file f.begin f.length)) plan.functions
  pub thunks : IsPlaced file (thunks_of plan.header.sections)
  -- no entry is of a row that doesn't exist
  pub enough_rows : highest_row plan.entries ≤ rows

-- ---- a file that was written after an input

-- The writer of PE files wrote it with these bytes of `.r2rdat`, which begin with the part and in which the CLI
-- header at an RVA names the ReadyToRun header.
pub record IsWrittenAfter (sections : List PeSection) (bytes dat cod : List ℕ) (cli : ℕ) (plan : Image) (file : List ℕ) : Type 0 where
  -- as `write_pe` promises
  pub headers : All (StandsIn file) (header_fields (header_values sections bytes (length dat) (length cod) cli))
  pub found : FindsPart (sections_of file) file (dat_rva sections) dat
  pub cli_header : HasCliHeader file cli dat (cli - dat_rva sections)
  -- what `.r2rdat` has
  pub more : List ℕ
  pub begins : dat ≡ part_bytes plan (dat_rva sections) ++ more
  pub cli_inside : (dat_rva sections ≤ cli) × (cli + 72 ≤ dat_rva sections + length dat)
  pub native_rva : u32_of dat (cli - dat_rva sections + 64) ≡ (header_span plan (dat_rva sections)).start
  pub native_size : u32_of dat (cli - dat_rva sections + 68) ≡ (header_span plan (dat_rva sections)).len

-- ---- on what the bytes and the places depend

abbrev pub without_range : RtrSection → RtrSection
without_range s = record { kind = s.kind; rva = 0; size = 0 }

abbrev pub without_own_range : RtrSection → RtrSection
without_own_range s = if s.kind == 106 then s else without_range s

abbrev pub without_places : ImportSection → ImportSection
without_places i = record i { rva = 0; signatures = 0 }

abbrev pub without_word : Slot → Slot
without_word s = record s { word = 0 }

abbrev pub without_begin : Function → Function
without_begin f = record f { begin = 0 }

-- a plan without what the writer chooses: places, and the sizes of its own sections
unfoldable pub asked_of : Image → Image
asked_of plan = record {
  header = record {
    at = 0;
    major = plan.header.major;
    minor = plan.header.minor;
    flags = plan.header.flags;
    sections = map without_own_range plan.header.sections;
  };
  imports = map without_places plan.imports;
  slots = plan.slots;
  functions = plan.functions;
  entries = plan.entries;
  own = true;
}

-- and without the slots' words, the functions' begins and the range of the thunks
unfoldable pub shape_of : Image → Image
shape_of plan = record {
  header = record {
    at = 0;
    major = plan.header.major;
    minor = plan.header.minor;
    flags = plan.header.flags;
    sections = map without_range plan.header.sections;
  };
  imports = map without_places plan.imports;
  slots = map without_word plan.slots;
  functions = map without_begin plan.functions;
  entries = plan.entries;
  own = true;
}

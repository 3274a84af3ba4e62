-- A plan: the records of a ReadyToRun part that is to be written.
use Rattle.std.specs.Prelude.{◌≡◌, ℕ, zero, suc, ◌+◌, ◌%◌, ◌^◌, ◌<◌, ◌≤◌, List, [], ◌∷◌, length, map, All, sum_by}
use Rattle.native_format.specs.declared.nibbles.SlotRef.{SlotRef}
use Rattle.native_format.specs.Nibbles.{AscendFrom}
use Rattle.fixup_sigs.specs.Shortest.{IsSpellable}
use Rattle.rtr_sections.specs.declared.entries.EntryPoint.{EntryPoint}
use Rattle.rtr_sections.specs.declared.functions.Function.{Function}
use Rattle.rtr_sections.specs.declared.image.Image.{Image}
use Rattle.rtr_sections.specs.declared.imports.ImportSection.{ImportSection}
use Rattle.rtr_sections.specs.Functions.{end_of}
use Rattle.rtr_sections.specs.Imports.{slot_count}
use Rattle.rtr_sections.specs.Parts.{part_bytes}

-- an import record as this compiler writes them: whole cells of 8 bytes, and no auxiliary data
pub record HasWrittenForm (import : ImportSection) : Type 0 where
  pub kind : import.kind ≡ 0
  pub entry_size : import.entry_size ≡ 8
  pub whole_cells : import.size % 8 ≡ 0
  pub auxiliary : import.auxiliary ≡ 0

-- code of whole instructions, each after the code of the function before
abbrev pub AreInOrder : ℕ → List Function → Type 0
AreInOrder low [] = Unit {0}
AreInOrder low (f ∷ fs) = (low ≤ f.begin) × (f.begin % 4 ≡ 0) × (f.length % 4 ≡ 0) × AreInOrder (end_of f) fs

-- rows that ascend strictly from a least one on
abbrev pub RowsAscend : ℕ → List EntryPoint → Type 0
RowsAscend least [] = Unit {0}
RowsAscend least (entry ∷ entries) = (least ≤ entry.row) × RowsAscend (entry.row + 1) entries

-- slots that ascend strictly, by section and then by slot
abbrev pub SlotsAscend : List SlotRef → Type 0
SlotsAscend [] = Unit {0}
SlotsAscend (slot ∷ slots) = AscendFrom slot slots

-- a slot of the import section of this number
abbrev pub Names : List ImportSection → ℕ → ℕ → Type 0
Names [] section slot = ⊥
Names (import ∷ imports) zero slot = slot < slot_count import
Names (import ∷ imports) (suc section) slot = Names imports section slot

-- an entry names a function that exists, and slots that exist
pub record IsLinkedIn (plan : Image) (entry : EntryPoint) : Type 0 where
  pub function : entry.function < length plan.functions
  pub ascending : SlotsAscend entry.fixups
  pub slots : All (λ slot. Names plan.imports slot.section slot.slot) entry.fixups

-- What a plan has whatever its bytes are.
pub record IsWellPlanned (plan : Image) : Type 0 where
  -- version 5.0, with the sections that this compiler writes
  pub version : (plan.header.major ≡ 5) × (plan.header.minor ≡ 0)
  pub sections : map (λ s. s.kind) plan.header.sections ≡ 100 ∷ 101 ∷ 102 ∷ 103 ∷ 106 ∷ []
  -- as many slots as the import records' sizes say, each with a fixup that has a signature
  pub imports : All HasWrittenForm plan.imports
  pub slots : length plan.slots ≡ sum_by slot_count plan.imports
  pub fixups : All (λ slot. IsSpellable slot.fixup) plan.slots
  pub functions : AreInOrder 0 plan.functions
  pub rows : RowsAscend 1 plan.entries
  pub entries : All (IsLinkedIn plan) plan.entries

-- What can be written at an RVA: then each place has 32 bits.
pub record IsPlan (plan : Image) (at : ℕ) : Type 0 where
  pub planned : IsWellPlanned plan
  pub small : length (part_bytes plan at) < 2 ^ 24
  pub low : at ≤ 2 ^ 31

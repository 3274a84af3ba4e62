-- The numbers of a plan fit their types: those that were read, and the slots' that name what exists.
use Rattle.std.proofs.Common.{◌≡◌, ℕ, zero, suc, ◌+◌, ◌*◌, ◌^◌, ◌<◌, ◌≤◌, List, [], ◌∷◌, length, All, arith}
use Rattle.std.proofs.lemmas.List.Elements.{All-nil, All-cons, All-head, All-tail}
use Rattle.rtr_sections.specs.declared.image.Image.{Image}
use Rattle.rtr_sections.specs.declared.imports.ImportSection.{ImportSection}
use Rattle.rtr_sections.specs.Imports.{slot_count}
use Rattle.rtr_sections.specs.Parts.{placed_imports}
use Rattle.rtr_sections.specs.Plan.{IsPlan, IsWellPlanned, Names}
use Rattle.rtr_sections.specs.Bounds.{HasWords}
use Rattle.rtr_sections.proofs.Types.{FitsTypes}
use Rattle.rtr_sections.proofs.WrittenLemmas.{fits_in}

abbrev HasSize : ImportSection → Type 0
HasSize i = i.size < 2 ^ 32

abbrev HasFlags : ImportSection → Type 0
HasFlags i = i.flags < 2 ^ 16

-- the slot of a name fits, and so does its section
names_fit : (imports : List ImportSection) (section slot : ℕ) → Names imports section slot → All HasSize imports
    → (section < length imports) × (slot < 2 ^ 32)
names_fit [] section slot h sizes = absurd h
names_fit (import ∷ imports) zero slot h sizes = (omega arith, omega (arith, All-head HasSize import imports sizes))
names_fit (import ∷ imports) (suc section) slot h sizes =
    let more = names_fit imports section slot h (All-tail HasSize import imports sizes) in
    (omega (arith, more.0), more.1)

pub entries_fit : (plan : Image) → IsWellPlanned plan → All HasSize plan.imports → length plan.imports < 2 ^ 32 → All HasWords plan.entries
entries_fit plan p sizes few k d h j e i =
    let named = names_fit plan.imports _ _ ((p.entries k d h).slots j e i) sizes in
    (omega (arith, named.0), named.1)

-- placing import records keeps their flags
flags_kept : (imports : List ImportSection) (cells arrays : ℕ) → All HasFlags (placed_imports cells arrays imports) → All HasFlags imports
flags_kept [] cells arrays h = All-nil HasFlags
flags_kept (import ∷ imports) cells arrays h =
    let placed = record import { rva = cells; signatures = arrays } in
    let others = placed_imports (cells + import.size) (arrays + 4 * slot_count import) imports in
    All-cons HasFlags import imports (All-head HasFlags placed others h)
    (flags_kept imports (cells + import.size) (arrays + 4 * slot_count import) (All-tail HasFlags placed others h))

pub types_fit : (plan : Image) (at cells arrays : ℕ) (placed : List ImportSection) → IsPlan plan at
    → placed ≡ placed_imports cells arrays plan.imports
    → plan.header.flags < 2 ^ 32 → All (λ s. (s.rva < 2 ^ 32) × (s.size < 2 ^ 32)) plan.header.sections
    → All (λ i. i.size < 2 ^ 32) plan.imports → All (λ i. i.flags < 2 ^ 16) placed → All (λ s. s.word < 2 ^ 64) plan.slots
    → All (λ f. f.begin < 2 ^ 32) plan.functions → All (λ f. f.length < 2 ^ 32) plan.functions → FitsTypes plan
types_fit plan at cells arrays placed p placed_is flags sections sizes import_flags words begins lengths = record {
  flags = flags;
  sections = sections;
  imports = λ k d h. (sizes k d h, flags_kept plan.imports cells arrays (rw placed_is at import_flags) k d h);
  slots = words;
  functions = λ k d h. (begins k d h, lengths k d h);
  entries = entries_fit plan p.planned sizes (omega (arith, fits_in plan at p));
}

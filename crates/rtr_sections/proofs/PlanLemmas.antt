-- What a plan's entries are to the writer of their array.
use Rattle.std.proofs.Common.{◌≡◌, ℕ, zero, suc, ◌+◌, ◌-◌, ◌<◌, ◌≤◌, List, [], ◌∷◌, length, get_or, map, refl, arith}
use Rattle.native_format.specs.SparseBytes.{AreElements}
use Rattle.rtr_sections.specs.declared.entries.EntryPoint.{EntryPoint}
use Rattle.rtr_sections.specs.declared.imports.ImportSection.{ImportSection}
use Rattle.rtr_sections.specs.Imports.{slot_count}
use Rattle.rtr_sections.specs.Parts.{element_of_entry, highest_row}
use Rattle.rtr_sections.specs.Plan.{Names, RowsAscend}

-- rows that ascend are the indexes of elements, each one below its row
elements_from : (entries : List EntryPoint) (least index top : ℕ) → RowsAscend least entries → least ≡ index + 1 → highest_row entries ≤ top
    → AreElements index top (map element_of_entry entries)
elements_from [] least index top h one within = tt
elements_from (entry ∷ entries) least index top h one within =
    (omega arith, omega arith, elements_from entries (entry.row + 1) (entry.row - 1 + 1) top h.1 (omega arith) (omega arith))

pub are_elements : (entries : List EntryPoint) → RowsAscend 1 entries → AreElements 0 (highest_row entries) (map element_of_entry entries)
are_elements entries h = elements_from entries 1 0 (highest_row entries) h refl (omega arith)

pub row_above : (entries : List EntryPoint) (least i : ℕ) (d : EntryPoint) → RowsAscend least entries → i < length entries
    → least ≤ (get_or entries i d).row
row_above [] least i d h within = absurd (omega arith)
row_above (entry ∷ entries) least zero d h within = h.0
row_above (entry ∷ entries) least (suc i) d h within = omega (arith, row_above entries (entry.row + 1) i d h.1 (omega arith), h.0)

-- ---- names of slots

pub named_below : (imports : List ImportSection) (section slot : ℕ) (d : ImportSection) → Names imports section slot
    → (section < length imports) × (slot < slot_count (get_or imports section d))
named_below [] section slot d h = absurd h
named_below (import ∷ imports) zero slot d h = (omega arith, h)
named_below (import ∷ imports) (suc section) slot d h =
    let more = named_below imports section slot d h in
    (omega (arith, more.0), more.1)

pub named_at : (imports : List ImportSection) (section slot : ℕ) (d : ImportSection) → section < length imports
    → slot < slot_count (get_or imports section d) → Names imports section slot
named_at [] section slot d within below = absurd (omega arith)
named_at (import ∷ imports) zero slot d within below = below
named_at (import ∷ imports) (suc section) slot d within below = named_at imports section slot d (omega arith) below

-- The bad words of a range of the file by their places, which give the first of any array of signatures in it.
use Rattle.std.specs.Prelude.{◌≡◌, ℕ, suc, ◌+◌, ◌-◌, ◌*◌, ◌<◌, ◌≤◌, List, length, slice_index, Bool, true, false, is_some}
use Rattle.rtr_sections.specs.declared.imports.ImportSection.{ImportSection}
use Rattle.rtr_sections.specs.Imports.{signatures_at, named_fixup, slot_count}

-- whether a fixup begins at the RVA that the word at a place says
abbrev pub names_fixup : List ℕ → ℕ → Bool
names_fixup bytes place = is_some (named_fixup bytes place)

-- the first bad word before an end, among a place and those after it by fours; the end where there is none
pub record IsFirstBad (bytes : List ℕ) (end place first : ℕ) : Type 0 where
  pub passed : (k : ℕ) → place + 4 * k < first → place + 4 * k < end → names_fixup bytes (place + 4 * k) ≡ true
  pub found : first < end → (k : ℕ) × (first ≡ place + 4 * k) × (names_fixup bytes first ≡ false)

-- that of each place by how far it is before the last one, as far as there are some
abbrev pub AreFirstBad : List ℕ → ℕ → List ℕ → Type 0
AreFirstBad bytes end firsts = (i : ℕ) → i < length firsts → i < end → IsFirstBad bytes end (end - suc i) (slice_index firsts i)

-- a record's array of signatures is in a range
abbrev pub IsWithin : List ℕ → ℕ → ℕ → ImportSection → Type 0
IsWithin bytes start end import = (start ≤ signatures_at bytes import) × (signatures_at bytes import + 4 * slot_count import ≤ end)

-- Lines of numbered things, one after the other: what was printed, and the lines of what is left, are all.
use Rattle.std.proofs.Common.{◌≡◌, ℕ, ◌+◌, ◌/◌, ◌<◌, ◌≤◌, List, ◌++◌, length, take, drop, get_or, append_assoc, append-nil}
use Rattle.std.proofs.lemmas.List.{drop_all, drop_more}
use Rattle.rtr_sections.specs.declared.imports.ImportSection.{ImportSection}
use Rattle.rtr_sections.specs.declared.slots.Slot.{Slot}
use Rattle.r2rdump.specs.Text.{numbered, slot_line, import_line}
use Rattle.r2rdump.specs.OnePass.{imports_in_one_pass}

pub numbered-more : {X : Type 0} (line : ℕ → X → List ℕ) (xs : List X) (i : ℕ) (d : X) (before now all : List ℕ) → i < length xs
    → now ≡ before ++ line i (get_or xs i d) → before ++ numbered line i (drop i xs) ≡ all
    → now ++ numbered line (i + 1) (drop (i + 1) xs) ≡ all
numbered-more line xs i d before now all h e whole =
    rw (e, append_assoc) (rw (drop_more xs i d h) at whole)

pub numbered-end : {X : Type 0} (line : ℕ → X → List ℕ) (xs : List X) (i : ℕ) (before all : List ℕ) → length xs ≤ i
    → before ++ numbered line i (drop i xs) ≡ all → before ≡ all
numbered-end line xs i before all h whole = rw (drop_all i xs h, append-nil) at whole

-- a record, and after it the slots of its cells
pub imports-more : (imports : List ImportSection) (i : ℕ) (d : ImportSection) (rest own others : List Slot) (before mid now all : List ℕ)
    → i < length imports
    → own ≡ take ((get_or imports i d).size / 8) rest → others ≡ drop ((get_or imports i d).size / 8) rest
    → mid ≡ before ++ import_line i (get_or imports i d) → now ≡ mid ++ numbered slot_line 0 own
    → before ++ imports_in_one_pass i (drop i imports) rest ≡ all → now ++ imports_in_one_pass (i + 1) (drop (i + 1) imports) others ≡ all
imports-more imports i d rest own others before mid now all h a b e f whole =
    rw (f, e, a, b, append_assoc, append_assoc) (rw (drop_more imports i d h, append_assoc) at whole)

pub imports-end : (imports : List ImportSection) (i : ℕ) (rest : List Slot) (before all : List ℕ) → length imports ≤ i
    → before ++ imports_in_one_pass i (drop i imports) rest ≡ all → before ≡ all
imports-end imports i rest before all h whole = rw (drop_all i imports h, append-nil) at whole

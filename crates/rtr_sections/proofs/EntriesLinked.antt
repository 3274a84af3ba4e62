-- The slots that entries name are slots of the written import records.
use Rattle.std.proofs.Common.{◌≡◌, ℕ, zero, suc, ◌+◌, ◌*◌, ◌/◌, ◌^◌, ◌<◌, ◌≤◌, Bool, true, List, [], ◌∷◌, ◌++◌, length, take, drop, Some}
use Rattle.std.proofs.Common.{refl, sym, ap, ◌∙◌, subst, append_assoc, arith}
use Rattle.std.specs.Prelude.{flat_map}
use Rattle.std.specs.List.{AllByRecursion, list_all}
use Rattle.std.proofs.lemmas.Bool.{lt-ltb}
use Rattle.std.proofs.lemmas.List.{length-append}
use Rattle.byteorder.specs.Endian.{little_bytes}
use Rattle.byteorder.specs.Numbers.{length-bytes_low_first}
use Rattle.rtr_bytes.specs.declared.fault.Span.{Span}
use Rattle.rtr_bytes.specs.Field.{field_at}
use Rattle.native_format.specs.declared.nibbles.SlotRef.{SlotRef}
use Rattle.rtr_sections.specs.declared.entries.EntryPoint.{EntryPoint}
use Rattle.rtr_sections.specs.declared.imports.ImportSection.{ImportSection}
use Rattle.rtr_sections.specs.Entries.{is_linked, names_slot}
use Rattle.rtr_sections.specs.Imports.{slot_count}
use Rattle.rtr_sections.specs.Parts.{import_bytes, placed_imports}
use Rattle.rtr_sections.specs.Plan.{Names}
use Rattle.rtr_sections.proofs.Stands.{number_stands}

abbrev Imports : Type 0
Imports = List ImportSection

abbrev pub records : ℕ → ℕ → Imports → List ℕ
records cells arrays imports = flat_map import_bytes (placed_imports cells arrays imports)

-- ---- the size of a record, among the bytes of all

pub length-placed : (cells arrays : ℕ) (imports : Imports)
    → length (records cells arrays imports) ≡ 20 * length imports
length-placed cells arrays [] = refl
length-placed cells arrays (i ∷ imports) = omega (arith, length-placed (cells + i.size) (arrays + 4 * slot_count i) imports)

-- a size of so many slots is at a place of the bytes
pub record HasSize (bytes : List ℕ) (at slot : ℕ) : Type 0 where
  pub size : ℕ
  pub front : List ℕ
  pub behind : List ℕ
  pub bytes_are : bytes ≡ front ++ (little_bytes 4 size ++ behind)
  pub place : length front ≡ at
  pub fits : size < 2 ^ 32
  pub enough : slot < size / 8

abbrev pub IsSized : ImportSection → Type 0
IsSized i = i.size < 2 ^ 32

first_size : (i : ImportSection) (rest : List ℕ) (slot : ℕ) → i.size < 2 ^ 32 → slot < slot_count i
    → HasSize (import_bytes i ++ rest) 4 slot
first_size i rest slot fits enough = record {
  size = i.size;
  front = little_bytes 4 i.rva;
  behind = (little_bytes 2 i.flags ++ (i.kind ∷ i.entry_size ∷ (little_bytes 4 i.signatures ++ little_bytes 4 i.auxiliary))) ++ rest;
  bytes_are = refl;
  place = length-bytes_low_first 0 4 i.rva;
  fits = fits;
  enough = enough;
}

behind_front : (front bytes : List ℕ) (at slot : ℕ) → HasSize bytes at slot → HasSize (front ++ bytes) (length front + at) slot
behind_front front bytes at slot h = record {
  size = h.size;
  front = front ++ h.front;
  behind = h.behind;
  bytes_are = ap (λ (t : List ℕ). front ++ t) h.bytes_are ∙ sym (append_assoc front h.front (little_bytes 4 h.size ++ h.behind));
  place = length-append front h.front ∙ ap (λ (n : ℕ). length front + n) h.place;
  fits = h.fits;
  enough = h.enough;
}

size_of : (cells arrays : ℕ) (imports : Imports) (section slot : ℕ) → AllByRecursion IsSized imports → Names imports section slot
    → (section < length imports) × HasSize (records cells arrays imports) (20 * section + 4) slot
size_of cells arrays [] section slot sized names = absurd names
size_of cells arrays (i ∷ imports) zero slot sized names =
    (omega arith, first_size (record i { rva = cells; signatures = arrays }) _ slot sized.0 names)
size_of cells arrays (i ∷ imports) (suc section) slot sized names =
    let others = records (cells + i.size) (arrays + 4 * slot_count i) imports in
    let here = import_bytes (record i { rva = cells; signatures = arrays }) in
    let later = size_of (cells + i.size) (arrays + 4 * slot_count i) imports section slot sized.1 names in
    let place : 20 + (20 * section + 4) ≡ 20 * suc section + 4 = omega arith in (
      omega (arith, later.0),
      subst (λ (n : ℕ). HasSize (here ++ others) n slot) place
          (behind_front here others (20 * section + 4) slot later.1),
    )

-- ---- in the file

pub slot_named : (file : List ℕ) (part : Span) (cells arrays : ℕ) (imports : Imports) (r : SlotRef) → AllByRecursion IsSized imports
    → part.len ≡ length (records cells arrays imports)
    → (0 < length (records cells arrays imports) → part.start + length (records cells arrays imports) ≤ length file)
    → take (length (records cells arrays imports)) (drop part.start file) ≡ records cells arrays imports
    → Names imports r.section r.slot → names_slot file part r ≡ true
slot_named file part cells arrays imports r sized len inside same names =
    let piece = records cells arrays imports in
    let h = size_of cells arrays imports r.section r.slot sized names in
    let s = h.1 in
    let total : length piece ≡ 20 * length imports = length-placed cells arrays imports in
    let some : 0 < length piece = omega (arith, total, h.0) in
    let counted : r.section < part.len / 20 = omega (arith, len, total, h.0) in
    let place : part.start + length s.front ≡ part.start + 20 * r.section + 4 = omega (arith, s.place) in
    let read : field_at 4 file (part.start + 20 * r.section + 4) ≡ Some s.size =
    ap (field_at 4 file) (sym place)
    ∙ number_stands 4 s.size file part.start s.front s.behind piece s.bytes_are (inside some) same s.fits in
    rw (lt-ltb _ _ counted, read, lt-ltb _ _ s.enough) refl

-- ---- an entry

pub all_pass : {X : Type 0} (P : X → Type 0) (test : X → Bool) (xs : List X) → AllByRecursion P xs → ((x : X) → P x → test x ≡ true)
    → list_all test xs ≡ true
all_pass P test [] all holds = refl
all_pass P test (x ∷ xs) all holds = rw (holds x all.0) (all_pass P test xs all.1 holds)

pub entry_linked : (file : List ℕ) (imports : Span) (functions : ℕ) (e : EntryPoint) → e.function < functions
    → list_all (names_slot file imports) e.fixups ≡ true → is_linked file imports functions e ≡ true
unfolding is_linked
entry_linked file imports functions e lt all = rw (lt-ltb _ _ lt, all) refl

-- The fixup of each slot of an image can be written: it was read from a spelling.
use Rattle.std.proofs.Common.{◌≡◌, ◌<◌, ◌+◌, ◌*◌, ℕ, zero, suc, List, [], ◌∷◌, get_or, Option, Some, None, refl, ap}
use Rattle.std.specs.List.{All}
use Rattle.std.specs.Option.{option_map, option_and_then, option_to_list}
use Rattle.std.specs.Prelude.{unwrap_or}
use Rattle.std.proofs.lemmas.List.Elements.{All-nil, All-cons, All-append}
use Rattle.rtr_bytes.specs.Field.{field_at, u32_of}
use Rattle.pe_image.specs.Headers.{place_of}
use Rattle.fixup_sigs.specs.declared.fixup.Fixup.{Fixup}
use Rattle.fixup_sigs.specs.Laws.{ReadFixupIsSpellable}
use Rattle.fixup_sigs.specs.Shortest.{IsSpellable}
use Rattle.rtr_sections.specs.declared.imports.ImportSection.{ImportSection}
use Rattle.rtr_sections.specs.declared.slots.Slot.{Slot}
use Rattle.rtr_sections.specs.declared.image.Image.{Image}
use Rattle.fixup_sigs.specs.Reading.{fixup_at}
use Rattle.rtr_sections.specs.Header.{part_of}
use Rattle.rtr_sections.specs.Numbered.{present}
use Rattle.rtr_sections.specs.Imports.{all_slots, signatures_at, cells_at, imports_in, slot_at, slot_count, slot_of, slots_in}
use Rattle.rtr_sections.specs.Image.{own_image_of}

-- each is a byte
abbrev pub AreBytes : List ℕ → Type 0
AreBytes bytes = (i : ℕ) → get_or bytes i 0 < 256

-- ---- of a slot, of a section's slots, of all

abbrev HasSpelling : Slot → Type 0
HasSpelling slot = IsSpellable slot.fixup

slot_fixup : (o : Option Fixup) (word : ℕ) (slot : Slot) → option_map (λ fixup. record { fixup = fixup; word = word }) o ≡ Some slot
    → o ≡ Some slot.fixup
slot_fixup None word slot e = absurd (let x : ⊥ = cc in x)
slot_fixup (Some fixup) word slot e =
    let made : Slot = record { fixup = fixup; word = word } in
    let same : made ≡ slot = cc in
    ap (λ (s : Slot). Some s.fixup) same

fixup_found : ReadFixupIsSpellable → (bytes : List ℕ) (place : Option ℕ) (fixup : Fixup) → AreBytes bytes
    → option_and_then (fixup_at bytes) place ≡ Some fixup → IsSpellable fixup
fixup_found law bytes None fixup fits e = absurd (let x : ⊥ = cc in x)
fixup_found law bytes (Some at) fixup fits e = law bytes at fixup fits e

slot_spellable : ReadFixupIsSpellable → (bytes : List ℕ) (word cell : ℕ) (slot : Slot) → AreBytes bytes
    → slot_at bytes word cell ≡ Some slot → HasSpelling slot
unfolding slot_at
slot_spellable law bytes word cell slot fits e =
    fixup_found law bytes (place_of bytes (u32_of bytes word) 1) slot.fixup fits
    (slot_fixup (option_and_then (fixup_at bytes) (place_of bytes (u32_of bytes word) 1)) (unwrap_or (field_at 8 bytes cell) 0) slot e)

all_of : {X : Type 0} (P : X → Type 0) (o : Option X) → ((x : X) → o ≡ Some x → P x) → All P (option_to_list o)
all_of P None each = All-nil P
all_of P (Some x) each = All-cons P x [] (each x refl) (All-nil P)

all_present : {X : Type 0} (P : X → Type 0) (f : ℕ → Option X) (i n : ℕ) → ((k : ℕ) (x : X) → f k ≡ Some x → P x) → All P (present f i n)
all_present P f i zero each = All-nil P
all_present P f i (suc n) each =
    All-append P (option_to_list (f i)) (present f (i + 1) n) (all_of P (f i) (each i)) (all_present P f (i + 1) n each)

section_spellable : ReadFixupIsSpellable → (bytes : List ℕ) (import : ImportSection) → AreBytes bytes
    → All HasSpelling (slots_in bytes import)
unfolding slots_in
section_spellable law bytes import fits =
    all_present HasSpelling (slot_of bytes import) 0 (slot_count import)
    (λ k slot e. slot_spellable law bytes (signatures_at bytes import + 4 * k) (cells_at bytes import + 8 * k) slot fits e)

slots_spellable : ReadFixupIsSpellable → (bytes : List ℕ) (imports : List ImportSection) → AreBytes bytes
    → All HasSpelling (all_slots bytes imports)
slots_spellable law bytes [] fits = All-nil HasSpelling
slots_spellable law bytes (import ∷ imports) fits =
    All-append HasSpelling (slots_in bytes import) (all_slots bytes imports) (section_spellable law bytes import fits)
    (slots_spellable law bytes imports fits)

slots_of_own : ReadFixupIsSpellable → (bytes : List ℕ) → AreBytes bytes → All HasSpelling (own_image_of bytes).slots
unfolding own_image_of
slots_of_own law bytes fits = slots_spellable law bytes (imports_in bytes (part_of bytes 101)) fits

-- so it is of an image in an own file
pub own_spellable : ReadFixupIsSpellable → (bytes : List ℕ) (image : Image) → AreBytes bytes → image ≡ own_image_of bytes
    → All (λ slot. IsSpellable slot.fixup) image.slots
own_spellable law bytes image fits e =
    let P : Image → Type 0 = λ i. All HasSpelling i.slots in
    let h : P (own_image_of bytes) = slots_of_own law bytes fits in
    rw e h

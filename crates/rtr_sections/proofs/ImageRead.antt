-- What is known of an image that was read.
use Rattle.std.proofs.Common.{◌≡◌, ℕ, Bool, true, false, cond, List, [], refl}
use Rattle.std.specs.List.{All}
use Rattle.std.proofs.lemmas.List.Elements.{All-nil}
use Rattle.fixup_sigs.specs.Laws.{ReadFixupIsSpellable}
use Rattle.fixup_sigs.specs.Shortest.{IsSpellable}
use Rattle.rtr_sections.specs.declared.slots.Slot.{Slot}
use Rattle.rtr_sections.specs.declared.image.Image.{Image}
use Rattle.rtr_sections.specs.Header.{is_own}
use Rattle.rtr_sections.specs.Image.{foreign_image_of, image_of, own_image_of}
use Rattle.rtr_sections.proofs.Spellable.{AreBytes, own_spellable}

own_of : (own : Bool) (bytes : List ℕ) → (cond own (own_image_of bytes) (foreign_image_of bytes)).own ≡ is_own bytes
unfolding own_image_of foreign_image_of
own_of true bytes = refl
own_of false bytes = refl

-- it says whether this compiler wrote it
pub image_own : (bytes : List ℕ) (image : Image) → image ≡ image_of bytes → image.own ≡ is_own bytes
unfolding image_of
image_own bytes image e = rw e (own_of (is_own bytes) bytes)

spellable_of : ReadFixupIsSpellable → (own : Bool) (bytes : List ℕ) → AreBytes bytes
    → All (λ (slot : Slot). IsSpellable slot.fixup) (cond own (own_image_of bytes) (foreign_image_of bytes)).slots
unfolding foreign_image_of
spellable_of law true bytes fits = own_spellable law bytes (own_image_of bytes) fits refl
spellable_of law false bytes fits = All-nil (λ (slot : Slot). IsSpellable slot.fixup)

-- its fixups can be written
pub image_spellable : ReadFixupIsSpellable → (bytes : List ℕ) (image : Image) → AreBytes bytes → image ≡ image_of bytes
    → All (λ (slot : Slot). IsSpellable slot.fixup) image.slots
unfolding image_of
image_spellable law bytes image fits e = rw e (spellable_of law (is_own bytes) bytes fits)

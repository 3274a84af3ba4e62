-- What the reads of the parts say of a type or a payload that is spelled there.
use Rattle.std.proofs.Common.{◌≡◌, ◌+◌, ℕ, List, ◌∷◌, ◌++◌, get_or, Option, Some, refl, ap, ◌∙◌, arith}
use Rattle.rtr_bytes.specs.Compressed.{IsCompressed}
use Rattle.rtr_bytes.specs.Spelling.{BeginsAt}
use Rattle.fixup_sigs.specs.declared.fixup.SigType.{SigType}
use Rattle.fixup_sigs.specs.declared.fixup.SigType.TheVariants as types
use Rattle.fixup_sigs.specs.declared.fixup.FieldToken.{FieldToken}
use Rattle.fixup_sigs.specs.declared.signature.Payload.{Payload}
use Rattle.fixup_sigs.specs.declared.signature.Payload.TheVariants as payloads
use Rattle.fixup_sigs.specs.declared.signature.Shape.TheVariants as shapes
use Rattle.fixup_sigs.specs.Fixup.{shape_of, IsSigType, IsFieldToken, IsPair, IsPayload}
use Rattle.fixup_sigs.proofs.Places.{Only, first_is, behind_only}

-- after the byte of a class is its coded token
pub class_read : (bytes : List ℕ) (at : ℕ) (answer : Option (ℕ × ℕ)) → get_or bytes at 0 ≡ 0x12 → Only IsCompressed bytes (at + 1) answer
    → (of : SigType) (next : ℕ)
    → BeginsAt IsSigType bytes at of next → (n : ℕ) × (of ≡ types.Class n) × (◌≡◌ {A = Option (ℕ × ℕ)} answer (Some (n, next)))
class_read bytes at answer first only (types.Int element) next (spelling, rest, whole, (is, range), size) =
    absurd (let e = first_is bytes at element rest (whole ∙ ap (λ s. s ++ rest) is) in omega arith)
class_read bytes at answer first only types.Str next (spelling, rest, whole, is, size) =
    absurd (let e = first_is bytes at 0x0E rest (whole ∙ ap (λ s. s ++ rest) is) in omega arith)
class_read bytes at answer first only types.Object next (spelling, rest, whole, is, size) =
    absurd (let e = first_is bytes at 0x1C rest (whole ∙ ap (λ s. s ++ rest) is) in omega arith)
class_read bytes at answer first only (types.Class n) next h = (n, refl, behind_only IsCompressed bytes at 0x12 n next answer only h)
class_read bytes at answer first only (types.Array element) next (spelling, rest, whole, (is, range), size) =
    absurd (let e = first_is bytes at 0x1D (element ∷ rest) (whole ∙ ap (λ s. s ++ rest) is) in omega arith)

pub number_read : (bytes : List ℕ) (at : ℕ) (answer : Option (ℕ × ℕ)) → Only IsCompressed bytes at answer → (payload : Payload) (next : ℕ)
    → shape_of payload ≡ shapes.Number
    → BeginsAt IsPayload bytes at payload next
    → (n : ℕ) × (payload ≡ payloads.Number n) × (◌≡◌ {A = Option (ℕ × ℕ)} answer (Some (n, next)))
number_read bytes at answer only (payloads.Number n) next e h = (n, refl, only n next h)
number_read bytes at answer only (payloads.OfType of) next e h = absurd (cc)
number_read bytes at answer only (payloads.OfField field) next e h = absurd (cc)
number_read bytes at answer only (payloads.OffsetAndField offset field) next e h = absurd (cc)

pub type_read : (bytes : List ℕ) (at : ℕ) (answer : Option (SigType × ℕ)) → Only IsSigType bytes at answer → (payload : Payload) (next : ℕ)
    → shape_of payload ≡ shapes.OfType
    → BeginsAt IsPayload bytes at payload next
    → (of : SigType) × (payload ≡ payloads.OfType of) × (◌≡◌ {A = Option (SigType × ℕ)} answer (Some (of, next)))
type_read bytes at answer only (payloads.Number n) next e h = absurd (cc)
type_read bytes at answer only (payloads.OfType of) next e h = (of, refl, only of next h)
type_read bytes at answer only (payloads.OfField field) next e h = absurd (cc)
type_read bytes at answer only (payloads.OffsetAndField offset field) next e h = absurd (cc)

pub field_read : (bytes : List ℕ) (at : ℕ) (answer : Option (FieldToken × ℕ)) → Only IsFieldToken bytes at answer
    → (payload : Payload) (next : ℕ) → shape_of payload ≡ shapes.OfField
    → BeginsAt IsPayload bytes at payload next
    → (field : FieldToken) × (payload ≡ payloads.OfField field) × (◌≡◌ {A = Option (FieldToken × ℕ)} answer (Some (field, next)))
field_read bytes at answer only (payloads.Number n) next e h = absurd (cc)
field_read bytes at answer only (payloads.OfType of) next e h = absurd (cc)
field_read bytes at answer only (payloads.OfField field) next e h = (field, refl, only field next h)
field_read bytes at answer only (payloads.OffsetAndField offset field) next e h = absurd (cc)

pub offset_spelled : (bytes : List ℕ) (at : ℕ) (payload : Payload) (next : ℕ) → shape_of payload ≡ shapes.OffsetAndField
    → BeginsAt IsPayload bytes at payload next
    → (offset : ℕ) × (field : FieldToken) × (payload ≡ payloads.OffsetAndField offset field) × BeginsAt (IsPair IsCompressed IsFieldToken)
    bytes at (offset, field) next
offset_spelled bytes at (payloads.Number n) next e h = absurd (cc)
offset_spelled bytes at (payloads.OfType of) next e h = absurd (cc)
offset_spelled bytes at (payloads.OfField field) next e h = absurd (cc)
offset_spelled bytes at (payloads.OffsetAndField offset field) next e h = (offset, field, refl, h)

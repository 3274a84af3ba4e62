-- What has a spelling, and the shortest spelling of each.
use Rattle.std.specs.Prelude.{◌≡◌, ◌<◌, ℕ, ◌^◌, List, [], ◌∷◌, ◌++◌}
use Rattle.rtr_bytes.specs.Compressed.{compressed_bytes}
use Rattle.fixup_sigs.specs.declared.fixup.Fixup.{Fixup}
use Rattle.fixup_sigs.specs.declared.fixup.SigType.{SigType}
use Rattle.fixup_sigs.specs.declared.fixup.SigType.TheVariants as types
use Rattle.fixup_sigs.specs.declared.fixup.FieldToken.{FieldToken}
use Rattle.fixup_sigs.specs.declared.signature.Payload.{Payload}
use Rattle.fixup_sigs.specs.declared.signature.Payload.TheVariants as payloads
use Rattle.fixup_sigs.specs.declared.signature.Signature.{Signature}
use Rattle.fixup_sigs.specs.Fixup.{signature_of, flags_of, IsElement}

-- what has a spelling: numbers below 2^29, and element types from 02 to 0B
abbrev pub IsSpellableType : SigType → Type 0
IsSpellableType (types.Int element) = IsElement element
IsSpellableType types.Str = Unit {0}
IsSpellableType types.Object = Unit {0}
IsSpellableType (types.Class coded) = coded < 2 ^ 29
IsSpellableType (types.Array element) = IsElement element

abbrev pub IsSpellablePayload : Payload → Type 0
IsSpellablePayload (payloads.Number n) = n < 2 ^ 29
IsSpellablePayload (payloads.OfType of) = IsSpellableType of
IsSpellablePayload (payloads.OfField field) = field.row < 2 ^ 29
IsSpellablePayload (payloads.OffsetAndField offset field) = (offset < 2 ^ 29) × (field.row < 2 ^ 29)

abbrev pub IsSpellable : Fixup → Type 0
IsSpellable fixup = IsSpellablePayload (signature_of fixup).payload

-- the shortest spelling of each
abbrev pub type_bytes : SigType → List ℕ
type_bytes (types.Int element) = element ∷ []
type_bytes types.Str = 0x0E ∷ []
type_bytes types.Object = 0x1C ∷ []
type_bytes (types.Class coded) = 0x12 ∷ compressed_bytes coded
type_bytes (types.Array element) = 0x1D ∷ element ∷ []

abbrev pub field_bytes : FieldToken → List ℕ
field_bytes field = flags_of field.member_ref ∷ compressed_bytes field.row

abbrev pub payload_bytes : Payload → List ℕ
payload_bytes (payloads.Number n) = compressed_bytes n
payload_bytes (payloads.OfType of) = type_bytes of
payload_bytes (payloads.OfField field) = field_bytes field
payload_bytes (payloads.OffsetAndField offset field) = compressed_bytes offset ++ field_bytes field

abbrev pub signature_bytes : Signature → List ℕ
signature_bytes signature = signature.kind ∷ payload_bytes signature.payload

abbrev pub fixup_bytes : Fixup → List ℕ
fixup_bytes fixup = signature_bytes (signature_of fixup)

-- the vector has what it had, and maybe more after it
abbrev pub Extends : List ℕ → List ℕ → Type 0
Extends old new = (more : List ℕ) × (new ≡ old ++ more)

-- Fixup signatures (ReadyToRun File Format, import sections and fixups): a byte of the kind, and its payload.
use Rattle.std.specs.Prelude.{◌≡◌, ◌≤◌, ℕ, Bool, true, false, List, [], ◌∷◌, ◌++◌}
use Rattle.rtr_bytes.specs.Compressed.{IsCompressed}
use Rattle.fixup_sigs.specs.declared.fixup.Fixup.{Fixup}
use Rattle.fixup_sigs.specs.declared.fixup.Fixup.TheVariants as fixups
use Rattle.fixup_sigs.specs.declared.fixup.SigType.{SigType}
use Rattle.fixup_sigs.specs.declared.fixup.SigType.TheVariants as types
use Rattle.fixup_sigs.specs.declared.fixup.FieldToken.{FieldToken}
use Rattle.fixup_sigs.specs.declared.signature.Payload.{Payload}
use Rattle.fixup_sigs.specs.declared.signature.Payload.TheVariants as payloads
use Rattle.fixup_sigs.specs.declared.signature.Shape.{Shape}
use Rattle.fixup_sigs.specs.declared.signature.Shape.TheVariants as shapes
use Rattle.fixup_sigs.specs.declared.signature.Signature.{Signature}

abbrev pub signature : ℕ → Payload → Signature
signature kind payload = record { kind = kind; payload = payload }

-- The one table of the kinds: the byte of each, and what follows it.
abbrev pub signature_of : Fixup → Signature
signature_of (fixups.MethodEntryDefToken row) = signature 0x14 (payloads.Number row)
signature_of (fixups.MethodEntryRefToken row) = signature 0x15 (payloads.Number row)
signature_of (fixups.VirtualEntryDefToken row) = signature 0x17 (payloads.Number row)
signature_of (fixups.VirtualEntryRefToken row) = signature 0x18 (payloads.Number row)
signature_of (fixups.Helper number) = signature 0x1A (payloads.Number number)
signature_of (fixups.StringHandle at) = signature 0x1B (payloads.Number at)
signature_of (fixups.NewObject of) = signature 0x1C (payloads.OfType of)
signature_of (fixups.NewArray elem) = signature 0x1D (payloads.OfType (types.Array elem))
signature_of (fixups.IsInstanceOf of) = signature 0x1E (payloads.OfType of)
signature_of (fixups.ChkCast of) = signature 0x1F (payloads.OfType of)
signature_of (fixups.FieldAddress field) = signature 0x20 (payloads.OfField field)
signature_of (fixups.FieldBaseOffset of) = signature 0x26 (payloads.OfType of)
signature_of (fixups.FieldOffset field) = signature 0x27 (payloads.OfField field)
signature_of (fixups.CheckFieldOffset offset field) = signature 0x2B (payloads.OffsetAndField offset field)

-- which payload it is
abbrev pub shape_of : Payload → Shape
shape_of (payloads.Number n) = shapes.Number
shape_of (payloads.OfType of) = shapes.OfType
shape_of (payloads.OfField field) = shapes.OfField
shape_of (payloads.OffsetAndField offset field) = shapes.OffsetAndField

-- the element types of the integer types, BOOLEAN 02 to U8 0B (ECMA-335 II.23.1.16)
abbrev pub IsElement : ℕ → Type 0
IsElement element = (0x02 ≤ element) × (element ≤ 0x0B)

-- a byte, and then a spelling of x
abbrev pub IsBehind : {X : Type 0} → ℕ → (List ℕ → X → Type 0) → List ℕ → X → Type 0
IsBehind first Spells bytes x = (rest : List ℕ) × (bytes ≡ first ∷ rest) × Spells rest x

-- a spelling of the first of two, and then one of the second
abbrev pub IsPair : {X Y : Type 0} → (List ℕ → X → Type 0) → (List ℕ → Y → Type 0) → List ℕ → X × Y → Type 0
IsPair SpellsX SpellsY bytes pair =
    (front : List ℕ) × (back : List ℕ) × (bytes ≡ front ++ back) × SpellsX front pair.0 × SpellsY back pair.1

-- The bytes spell the type (ECMA-335 II.23.2.12): an integer type by its element type, STRING 0E, OBJECT 1C,
-- CLASS 12 and then the compressed coded token, SZARRAY 1D and then the element type.
abbrev pub IsSigType : List ℕ → SigType → Type 0
IsSigType bytes (types.Int element) = (bytes ≡ element ∷ []) × IsElement element
IsSigType bytes types.Str = bytes ≡ 0x0E ∷ []
IsSigType bytes types.Object = bytes ≡ 0x1C ∷ []
IsSigType bytes (types.Class coded) = IsBehind 0x12 IsCompressed bytes coded
IsSigType bytes (types.Array element) = (bytes ≡ 0x1D ∷ element ∷ []) × IsElement element

-- the flags of a field's token: Field or MemberRef
abbrev pub flags_of : Bool → ℕ
flags_of false = 0x00
flags_of true = 0x10

-- The bytes spell the field's token: the flags and the row, each compressed.
abbrev pub IsFieldToken : List ℕ → FieldToken → Type 0
IsFieldToken bytes field = IsPair IsCompressed IsCompressed bytes (flags_of field.member_ref, field.row)

-- The bytes spell the payload.
abbrev pub IsPayload : List ℕ → Payload → Type 0
IsPayload bytes (payloads.Number n) = IsCompressed bytes n
IsPayload bytes (payloads.OfType of) = IsSigType bytes of
IsPayload bytes (payloads.OfField field) = IsFieldToken bytes field
IsPayload bytes (payloads.OffsetAndField offset field) = IsPair IsCompressed IsFieldToken bytes (offset, field)

-- The bytes spell the fixup: its kind's byte, and then its payload.
abbrev pub IsFixup : List ℕ → Fixup → Type 0
IsFixup bytes fixup = IsBehind (signature_of fixup).kind IsPayload bytes (signature_of fixup).payload

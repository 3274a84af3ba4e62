-- The spelling that the writer writes: it spells the value, and none is shorter.
use Rattle.std.proofs.Common.{◌≤◌, ◌<◌, ◌+◌, ◌^◌, ℕ, Bool, true, false, List, [], ◌∷◌, ◌++◌, length, refl, ap, arith, append_assoc}
use Rattle.std.proofs.Common.{length-append}
use Rattle.std.proofs.Math.Seq.{drop-append_seam}
use Rattle.rtr_bytes.specs.Compressed.{IsCompressed, compressed_bytes}
use Rattle.rtr_bytes.specs.Spelling.{BeginsAt}
use Rattle.fixup_sigs.specs.declared.fixup.Fixup.{Fixup}
use Rattle.fixup_sigs.specs.declared.fixup.SigType.{SigType}
use Rattle.fixup_sigs.specs.declared.fixup.SigType.TheVariants as types
use Rattle.fixup_sigs.specs.declared.fixup.FieldToken.{FieldToken}
use Rattle.fixup_sigs.specs.declared.signature.Payload.{Payload}
use Rattle.fixup_sigs.specs.declared.signature.Payload.TheVariants as payloads
use Rattle.fixup_sigs.specs.Fixup.{signature_of, IsSigType, flags_of, IsFieldToken, IsPayload, IsFixup}
use Rattle.fixup_sigs.specs.Shortest.{IsSpellableType, IsSpellablePayload, IsSpellable, type_bytes, field_bytes, payload_bytes, fixup_bytes}

-- what is known of numbers
abbrev pub NumbersSpelled : Type 0
NumbersSpelled = (n : ℕ) → n < 2 ^ 29 → IsCompressed (compressed_bytes n) n

abbrev pub NumbersShortest : Type 0
NumbersShortest = (bytes : List ℕ) (n : ℕ) → IsCompressed bytes n → length (compressed_bytes n) ≤ length bytes

type_spelled : NumbersSpelled → (of : SigType) → IsSpellableType of → IsSigType (type_bytes of) of
type_spelled numbers (types.Int element) h = (refl, h)
type_spelled numbers types.Str h = refl
type_spelled numbers types.Object h = refl
type_spelled numbers (types.Class coded) h = (compressed_bytes coded, refl, numbers coded h)
type_spelled numbers (types.Array element) h = (refl, h)

flags_spelled : (b : Bool) → IsCompressed (flags_of b ∷ []) (flags_of b)
flags_spelled false = (omega arith, refl)
flags_spelled true = (omega arith, refl)

field_spelled : NumbersSpelled → (field : FieldToken) → field.row < 2 ^ 29 → IsFieldToken (field_bytes field) field
field_spelled numbers field h =
    (flags_of field.member_ref ∷ [], compressed_bytes field.row, refl, flags_spelled field.member_ref, numbers field.row h)

payload_spelled : NumbersSpelled → (payload : Payload) → IsSpellablePayload payload → IsPayload (payload_bytes payload) payload
payload_spelled numbers (payloads.Number n) h = numbers n h
payload_spelled numbers (payloads.OfType of) h = type_spelled numbers of h
payload_spelled numbers (payloads.OfField field) h = field_spelled numbers field h
payload_spelled numbers (payloads.OffsetAndField offset field) (h, k) =
    (compressed_bytes offset, field_bytes field, refl, numbers offset h, field_spelled numbers field k)

pub fixup_spelled : NumbersSpelled → (fixup : Fixup) → IsSpellable fixup → IsFixup (fixup_bytes fixup) fixup
fixup_spelled numbers fixup h = (payload_bytes (signature_of fixup).payload, refl, payload_spelled numbers (signature_of fixup).payload h)

type_shortest : NumbersShortest → (bytes : List ℕ) (of : SigType) → IsSigType bytes of → length (type_bytes of) ≤ length bytes
type_shortest numbers bytes (types.Int element) (e, range) = omega (arith, ap length e)
type_shortest numbers bytes types.Str e = omega (arith, ap length e)
type_shortest numbers bytes types.Object e = omega (arith, ap length e)
type_shortest numbers bytes (types.Class coded) (rest, e, h) = omega (arith, ap length e, numbers rest coded h)
type_shortest numbers bytes (types.Array element) (e, range) = omega (arith, ap length e)

flags_shortest : NumbersShortest → (bytes : List ℕ) (b : Bool) → IsCompressed bytes (flags_of b) → 1 ≤ length bytes
flags_shortest numbers bytes false h = numbers bytes 0x00 h
flags_shortest numbers bytes true h = numbers bytes 0x10 h

field_shortest : NumbersShortest → (bytes : List ℕ) (field : FieldToken) → IsFieldToken bytes field
    → length (field_bytes field) ≤ length bytes
field_shortest numbers bytes field (front, back, e, h, k) =
    omega (arith, ap length e, length-append front back, flags_shortest numbers front field.member_ref h, numbers back field.row k)

payload_shortest : NumbersShortest → (bytes : List ℕ) (payload : Payload) → IsPayload bytes payload
    → length (payload_bytes payload) ≤ length bytes
payload_shortest numbers bytes (payloads.Number n) h = numbers bytes n h
payload_shortest numbers bytes (payloads.OfType of) h = type_shortest numbers bytes of h
payload_shortest numbers bytes (payloads.OfField field) h = field_shortest numbers bytes field h
payload_shortest numbers bytes (payloads.OffsetAndField offset field) (front, back, e, h, k) =
    omega (
      arith,
      ap length e,
      length-append front back,
      length-append (compressed_bytes offset) (field_bytes field),
      numbers front offset h,
      field_shortest numbers back field k,
    )

pub fixup_shortest : NumbersShortest → (bytes : List ℕ) (fixup : Fixup) → IsFixup bytes fixup → length (fixup_bytes fixup) ≤ length bytes
fixup_shortest numbers bytes fixup (rest, e, h) = omega (arith, ap length e, payload_shortest numbers rest (signature_of fixup).payload h)

-- what is written after other bytes begins there
pub begins_after : {X : Type 0} (Spells : List ℕ → X → Type 0) (spelling before rest : List ℕ) (x : X) → Spells spelling x
    → BeginsAt Spells (before ++ spelling ++ rest) (length before) x (length before + length spelling)
begins_after Spells spelling before rest x spelled =
    (spelling, rest, rw append_assoc (drop-append_seam before (spelling ++ rest)), spelled, refl)

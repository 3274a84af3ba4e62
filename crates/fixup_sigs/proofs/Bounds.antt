-- No written fixup is longer than ten bytes.
use Rattle.std.proofs.Common.{ℕ, ◌^◌, ◌≤◌, Bool, true, false, cond, ltb, List, [], ◌∷◌, ◌++◌, length, arith}
use Rattle.std.proofs.lemmas.List.{length-append}
use Rattle.rtr_bytes.specs.Compressed.{compressed_bytes}
use Rattle.fixup_sigs.specs.declared.fixup.Fixup.{Fixup}
use Rattle.fixup_sigs.specs.declared.fixup.FieldToken.{FieldToken}
use Rattle.fixup_sigs.specs.declared.fixup.SigType.{SigType}
use Rattle.fixup_sigs.specs.declared.fixup.SigType.TheVariants as types
use Rattle.fixup_sigs.specs.declared.signature.Payload.{Payload}
use Rattle.fixup_sigs.specs.declared.signature.Payload.TheVariants as payloads
use Rattle.fixup_sigs.specs.Fixup.{signature_of}
use Rattle.fixup_sigs.specs.Shortest.{field_bytes, fixup_bytes, payload_bytes, type_bytes}

length-chosen : (b : Bool) (xs ys : List ℕ) (n : ℕ) → length xs ≤ n → length ys ≤ n → length (cond b xs ys) ≤ n
length-chosen true xs ys n p q = p
length-chosen false xs ys n p q = q

compressed_bounded : (n : ℕ) → length (compressed_bytes n) ≤ 4
compressed_bounded n = length-chosen (ltb n (2 ^ 7)) _ _ 4 (omega arith) (length-chosen (ltb n (2 ^ 14)) _ _ 4 (omega arith) (omega arith))

type_bounded : (of : SigType) → length (type_bytes of) ≤ 5
type_bounded (types.Int element) = omega arith
type_bounded types.Str = omega arith
type_bounded types.Object = omega arith
type_bounded (types.Class coded) = omega (arith, compressed_bounded coded)
type_bounded (types.Array element) = omega arith

field_bounded : (field : FieldToken) → length (field_bytes field) ≤ 5
field_bounded field = omega (arith, compressed_bounded field.row)

payload_bounded : (payload : Payload) → length (payload_bytes payload) ≤ 9
payload_bounded (payloads.Number n) = omega (arith, compressed_bounded n)
payload_bounded (payloads.OfType of) = omega (arith, type_bounded of)
payload_bounded (payloads.OfField field) = omega (arith, field_bounded field)
payload_bounded (payloads.OffsetAndField offset field) = omega (
  arith,
  length-append (compressed_bytes offset) (field_bytes field),
  compressed_bounded offset,
  field_bounded field,
)

pub fixup_bounded : (fixup : Fixup) → length (fixup_bytes fixup) ≤ 10
fixup_bounded fixup = omega (arith, payload_bounded (signature_of fixup).payload)

-- What has a spelling is spellable.
use Rattle.std.proofs.Common.{◌≡◌, ◌<◌, ◌^◌, ℕ, List, [], ◌∷◌, get_or, Some, arith}
use Rattle.rtr_bytes.specs.Compressed.{IsCompressed}
use Rattle.fixup_sigs.specs.declared.fixup.Fixup.{Fixup}
use Rattle.fixup_sigs.specs.declared.fixup.SigType.{SigType}
use Rattle.fixup_sigs.specs.declared.fixup.SigType.TheVariants as types
use Rattle.fixup_sigs.specs.declared.fixup.FieldToken.{FieldToken}
use Rattle.fixup_sigs.specs.declared.signature.Payload.{Payload}
use Rattle.fixup_sigs.specs.declared.signature.Payload.TheVariants as payloads
use Rattle.fixup_sigs.specs.Fixup.{signature_of, IsFixup, IsPayload, IsSigType, IsFieldToken}
use Rattle.fixup_sigs.specs.Reading.{fixup_at}
use Rattle.fixup_sigs.specs.Shortest.{IsSpellable, IsSpellablePayload, IsSpellableType}
use Rattle.fixup_sigs.proofs.ReadingLaws.{are_bytes, fixup_at-spelled}

number_below : (s : List ℕ) (n : ℕ) → IsCompressed s n → n < 2 ^ 29
number_below [] n h = absurd h
number_below (a ∷ []) n h = omega arith
number_below (a ∷ b ∷ []) n h = omega arith
number_below (a ∷ b ∷ c ∷ []) n h = absurd h
number_below (a ∷ b ∷ c ∷ d ∷ []) n h = omega arith
number_below (a ∷ b ∷ c ∷ d ∷ e ∷ rest) n h = absurd h

type_spellable : (s : List ℕ) (of : SigType) → IsSigType s of → IsSpellableType of
type_spellable s (types.Int e) h = h.1
type_spellable s types.Str h = tt
type_spellable s types.Object h = tt
type_spellable s (types.Class coded) (rest, is, h) = number_below rest coded h
type_spellable s (types.Array e) h = h.1

field_below : (s : List ℕ) (field : FieldToken) → IsFieldToken s field → field.row < 2 ^ 29
field_below s field (front, back, parts, first, second) = number_below back field.row second

payload_spellable : (s : List ℕ) (payload : Payload) → IsPayload s payload → IsSpellablePayload payload
payload_spellable s (payloads.Number n) h = number_below s n h
payload_spellable s (payloads.OfType of) h = type_spellable s of h
payload_spellable s (payloads.OfField field) h = field_below s field h
payload_spellable s (payloads.OffsetAndField offset field) (front, back, parts, first, second) =
    (number_below front offset first, field_below back field second)

fixup_spellable : (s : List ℕ) (fixup : Fixup) → IsFixup s fixup → IsSpellable fixup
fixup_spellable s fixup (rest, is, h) = payload_spellable rest (signature_of fixup).payload h

pub fixup_at-spellable : (bytes : List ℕ) (at : ℕ) (fixup : Fixup) → ((i : ℕ) → get_or bytes i 0 < 256) → fixup_at bytes at ≡ Some fixup
    → IsSpellable fixup
fixup_at-spellable bytes at fixup each e =
    let (s, h) = fixup_at-spelled bytes at fixup (are_bytes bytes each) e in
    fixup_spellable s fixup h

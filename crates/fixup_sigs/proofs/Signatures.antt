-- A fixup that is spelled at a place, by its kind's byte and its payload.
use Rattle.std.proofs.Common.{◌≡◌, ◌<◌, ◌+◌, ℕ, List, length, get_or, Option, Some, unwrap_or, sym, ap, ◌∙◌, subst}
use Rattle.rtr_bytes.specs.Spelling.{BeginsAt}
use Rattle.fixup_sigs.specs.declared.fixup.Fixup.{Fixup}
use Rattle.fixup_sigs.specs.declared.fixup.FieldToken.{FieldToken}
use Rattle.fixup_sigs.specs.declared.signature.Payload.{Payload}
use Rattle.fixup_sigs.specs.declared.signature.Shape.{Shape}
use Rattle.fixup_sigs.specs.declared.signature.Signature.{Signature}
use Rattle.fixup_sigs.specs.Fixup.{signature, signature_of, shape_of, IsBehind, IsPayload, IsFixup}
use Rattle.fixup_sigs.proofs.Places.{behind_begins, begins_behind}

pub same_field : (field other : FieldToken) → field.member_ref ≡ other.member_ref → field.row ≡ other.row → field ≡ other
same_field field other m r =
    ap (λ b. let f : FieldToken = record { member_ref = b; row = field.row } in f) m
    ∙ ap (λ n. let f : FieldToken = record { member_ref = other.member_ref; row = n } in f) r

pub same_signature : (s : Signature) (kind : ℕ) (payload : Payload) → s.kind ≡ kind → s.payload ≡ payload → s ≡ signature kind payload
same_signature s kind payload k p = ap (λ b. signature b s.payload) k ∙ ap (λ (q : Payload). signature kind q) p

-- a kind's byte and a payload after it are the fixup that has them
pub fixup_begins : (bytes : List ℕ) (at next : ℕ) (fixup : Fixup) (kind : ℕ) (payload : Payload)
    → signature_of fixup ≡ signature kind payload
    → at < length bytes → get_or bytes at 0 ≡ kind → BeginsAt IsPayload bytes (at + 1) payload next → BeginsAt IsFixup bytes at fixup next
fixup_begins bytes at next fixup kind payload e inside first h =
    let P : Signature → Type 0 = λ s. BeginsAt (IsBehind s.kind IsPayload) bytes at s.payload next in
    subst P (sym e) (behind_begins IsPayload bytes at kind payload next inside first h)

-- the answer of the payload's read, where a fixup is spelled
pub fixup_read : (bytes : List ℕ) (at kind : ℕ) (shape : Shape) (answer : Option (Payload × ℕ)) → get_or bytes at 0 ≡ kind
    → ((f : Fixup) → (signature_of f).kind ≡ kind → Some shape ≡ Some (shape_of (signature_of f).payload))
    → ((payload : Payload) (next : ℕ) → shape_of payload ≡ shape → BeginsAt IsPayload bytes (at + 1) payload next
    → ◌≡◌ {A = Option (Payload × ℕ)} answer (Some (payload, next)))
    → (fixup : Fixup) (next : ℕ) → BeginsAt IsFixup bytes at fixup next
    → ((signature_of fixup).kind ≡ kind) × (◌≡◌ {A = Option (Payload × ℕ)} answer (Some ((signature_of fixup).payload, next)))
fixup_read bytes at kind shape answer first shapes only fixup next h =
    let (inside, is, rest) = begins_behind IsPayload bytes at (signature_of fixup).kind (signature_of fixup).payload next h in
    let same : (signature_of fixup).kind ≡ kind = sym is ∙ first in
    (same, only (signature_of fixup).payload next (sym (ap (λ o. unwrap_or o shape) (shapes fixup same))) rest)

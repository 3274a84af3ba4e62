-- No spelling begins another.
use Rattle.std.proofs.Common.{◌≡◌, ℕ, Bool, true, false, List, [], ◌∷◌, ◌++◌, length, drop, eqb, ltb, cond, refl, sym, ap, ◌∙◌, arith}
use Rattle.std.proofs.Common.{append_assoc}
use Rattle.std.proofs.Math.Seq.{drop-append_seam}
use Rattle.rtr_bytes.specs.Compressed.{IsCompressed}
use Rattle.rtr_bytes.specs.Spelling.{NoneBeginsAnother}
use Rattle.fixup_sigs.specs.declared.fixup.Fixup.{Fixup}
use Rattle.fixup_sigs.specs.declared.fixup.Fixup.TheVariants as fixups
use Rattle.fixup_sigs.specs.declared.fixup.SigType.{SigType}
use Rattle.fixup_sigs.specs.declared.fixup.SigType.TheVariants as types
use Rattle.fixup_sigs.specs.declared.fixup.FieldToken.{FieldToken}
use Rattle.fixup_sigs.specs.declared.signature.Payload.{Payload}
use Rattle.fixup_sigs.specs.declared.signature.Payload.TheVariants as payloads
use Rattle.fixup_sigs.specs.declared.signature.Shape.{Shape}
use Rattle.fixup_sigs.specs.declared.signature.Shape.TheVariants as shapes
use Rattle.fixup_sigs.specs.Fixup.{signature_of, shape_of, IsPair, IsSigType, flags_of, IsFieldToken, IsPayload, IsFixup}
use Rattle.fixup_sigs.proofs.Signatures.{same_field}

-- what is after fronts that are one
behind_fronts : (a b x y : List ℕ) → a ≡ b → a ++ x ≡ b ++ y → x ≡ y
behind_fronts a b x y e whole =
    sym (drop-append_seam a x) ∙ ap (drop (length a)) whole ∙ ap (λ f. drop (length f) (b ++ y)) e ∙ drop-append_seam b y

pair_apart : {X Y : Type 0} (P : List ℕ → X → Type 0) (Q : List ℕ → Y → Type 0) → NoneBeginsAnother P → NoneBeginsAnother Q
    → NoneBeginsAnother (IsPair P Q)
pair_apart {X = X} {Y = Y} P Q ps qs a b more rest x y (a1, a2, ea, ax, ay) (b1, b2, eb, bx, by_) whole =
    let parts : a1 ++ (a2 ++ more) ≡ b1 ++ (b2 ++ rest) =
    sym (append_assoc a1 a2 more) ∙ ap (λ s. s ++ more) (sym ea) ∙ whole ∙ ap (λ s. s ++ rest) eb ∙ append_assoc b1 b2 rest in
    let first = ps a1 b1 (a2 ++ more) (b2 ++ rest) x.0 y.0 ax bx parts in
    let second = qs a2 b2 more rest x.1 y.1 ay by_ (behind_fronts a1 b1 (a2 ++ more) (b2 ++ rest) first.0 parts) in (
      ea ∙ ap (λ s. s ++ a2) first.0 ∙ ap (λ s. b1 ++ s) second.0 ∙ sym eb,
      ap (λ v. let p : X × Y = (v, x.1) in p) first.1 ∙ ap (λ w. let p : X × Y = (y.0, w) in p) second.1,
    )

-- the first bytes and what follows them, of lists that go on to one
heads : (a b as1 bs1 more rest : List ℕ) (k l : ℕ) → a ≡ k ∷ as1 → b ≡ l ∷ bs1 → a ++ more ≡ b ++ rest
    → (k ≡ l) × (as1 ++ more ≡ bs1 ++ rest)
heads a b as1 bs1 more rest k l ea eb whole =
    let cells : k ∷ (as1 ++ more) ≡ l ∷ (bs1 ++ rest) = ap (λ s. s ++ more) (sym ea) ∙ whole ∙ ap (λ s. s ++ rest) eb in
    ((cc), (cc))

-- a type's first byte, and what is after it
abbrev first_byte : SigType → ℕ
first_byte (types.Int element) = element
first_byte types.Str = 0x0E
first_byte types.Object = 0x1C
first_byte (types.Class coded) = 0x12
first_byte (types.Array element) = 0x1D

begins_with : (bytes : List ℕ) (of : SigType) → IsSigType bytes of → (tail : List ℕ) × (bytes ≡ first_byte of ∷ tail)
begins_with bytes (types.Int element) (e, range) = ([], e)
begins_with bytes types.Str e = ([], e)
begins_with bytes types.Object e = ([], e)
begins_with bytes (types.Class coded) (tail, e, spelled) = (tail, e)
begins_with bytes (types.Array element) (e, range) = (element ∷ [], e)

same_first : (a b more rest : List ℕ) (x y : SigType) → IsSigType a x → IsSigType b y → a ++ more ≡ b ++ rest → first_byte x ≡ first_byte y
same_first a b more rest x y h k whole =
    let (tail, ea) = begins_with a x h in
    let (other, eb) = begins_with b y k in
    (heads a b tail other more rest (first_byte x) (first_byte y) ea eb whole).0

types_apart : NoneBeginsAnother IsCompressed → NoneBeginsAnother IsSigType
types_apart numbers a b more rest (types.Int element) (types.Int other) (ea, range) (eb, bounds) whole =
    let e = (heads a b [] [] more rest element other ea eb whole).0 in (ea ∙ ap (λ v. v ∷ []) e ∙ sym eb, ap (λ v. types.Int v) e)
types_apart numbers a b more rest types.Str types.Str ea eb whole = (ea ∙ sym eb, refl)
types_apart numbers a b more rest types.Object types.Object ea eb whole = (ea ∙ sym eb, refl)
types_apart numbers a b more rest (types.Class coded) (types.Class other) (tail, ea, h) (end, eb, k) whole =
    let (same, token) = numbers tail end more rest coded other h k (heads a b tail end more rest 0x12 0x12 ea eb whole).1 in
    (ea ∙ ap (λ v. 0x12 ∷ v) same ∙ sym eb, ap (λ v. types.Class v) token)
types_apart numbers a b more rest (types.Array element) (types.Array other) (ea, range) (eb, bounds) whole =
    let tails : element ∷ more ≡ other ∷ rest = (heads a b (element ∷ []) (other ∷ []) more rest 0x1D 0x1D ea eb whole).1 in
    let e : element ≡ other = cc in
    (ea ∙ ap (λ v. 0x1D ∷ v ∷ []) e ∙ sym eb, ap (λ v. types.Array v) e)
types_apart numbers a b more rest x y h k whole = absurd (let e = same_first a b more rest x y h k whole in omega arith)

same_flags : (b d : Bool) → flags_of b ≡ flags_of d → b ≡ d
same_flags false false e = refl
same_flags false true e = absurd (omega arith)
same_flags true false e = absurd (omega arith)
same_flags true true e = refl

field_apart : NoneBeginsAnother IsCompressed → NoneBeginsAnother IsFieldToken
field_apart numbers a b more rest field other h k whole =
    let (same, parts) =
    pair_apart IsCompressed IsCompressed numbers numbers a b more rest (flags_of field.member_ref, field.row)
    (flags_of other.member_ref, other.row) h k whole in (
      same,
      same_field field other (same_flags field.member_ref other.member_ref (ap (λ (p : ℕ × ℕ). p.0) parts))
          (ap (λ (p : ℕ × ℕ). p.1) parts),
    )

payload_apart : NoneBeginsAnother IsCompressed → (a b more rest : List ℕ) (p q : Payload) → shape_of p ≡ shape_of q → IsPayload a p
    → IsPayload b q → a ++ more ≡ b ++ rest → (a ≡ b) × (p ≡ q)
payload_apart numbers a b more rest (payloads.Number m) (payloads.Number n) e h k whole =
    let (same, is) = numbers a b more rest m n h k whole in (same, ap (λ v. payloads.Number v) is)
payload_apart numbers a b more rest (payloads.OfType of) (payloads.OfType other) e h k whole =
    let (same, is) = types_apart numbers a b more rest of other h k whole in (same, ap (λ v. payloads.OfType v) is)
payload_apart numbers a b more rest (payloads.OfField field) (payloads.OfField other) e h k whole =
    let (same, is) = field_apart numbers a b more rest field other h k whole in (same, ap (λ v. payloads.OfField v) is)
payload_apart numbers a b more rest (payloads.OffsetAndField m field) (payloads.OffsetAndField n other) e h k whole =
    let (same, is) = pair_apart IsCompressed IsFieldToken numbers (field_apart numbers) a b more rest (m, field) (n, other) h k whole in
    (same, ap (λ (p : ℕ × FieldToken). payloads.OffsetAndField p.0 p.1) is)
payload_apart numbers a b more rest p q e h k whole = absurd (cc)

-- which payload a kind has
shape_at : ℕ → Shape
shape_at kind =
    cond (ltb kind 0x1C) shapes.Number
    (cond (eqb kind 0x2B) shapes.OffsetAndField (cond (eqb kind 0x20) shapes.OfField (cond (eqb kind 0x27) shapes.OfField shapes.OfType)))

shape_is : (fixup : Fixup) → shape_at (signature_of fixup).kind ≡ shape_of (signature_of fixup).payload
unfolding shape_at
shape_is (fixups.MethodEntryDefToken row) = refl
shape_is (fixups.MethodEntryRefToken row) = refl
shape_is (fixups.VirtualEntryDefToken row) = refl
shape_is (fixups.VirtualEntryRefToken row) = refl
shape_is (fixups.Helper number) = refl
shape_is (fixups.StringHandle at) = refl
shape_is (fixups.NewObject of) = refl
shape_is (fixups.NewArray elem) = refl
shape_is (fixups.IsInstanceOf of) = refl
shape_is (fixups.ChkCast of) = refl
shape_is (fixups.FieldAddress field) = refl
shape_is (fixups.FieldBaseOffset of) = refl
shape_is (fixups.FieldOffset field) = refl
shape_is (fixups.CheckFieldOffset offset field) = refl

-- the fixup that has a signature
elem_of : SigType → ℕ
elem_of (types.Array element) = element
elem_of of = 0

fixup_from : ℕ → Payload → Fixup
fixup_from kind (payloads.Number n) =
    cond (eqb kind 0x14) (fixups.MethodEntryDefToken n)
    (cond (eqb kind 0x15) (fixups.MethodEntryRefToken n) (cond (eqb kind 0x17) (fixups.VirtualEntryDefToken n)
    (cond (eqb kind 0x18) (fixups.VirtualEntryRefToken n) (cond (eqb kind 0x1A) (fixups.Helper n) (fixups.StringHandle n)))))
fixup_from kind (payloads.OfType of) =
    cond (eqb kind 0x1C) (fixups.NewObject of)
    (cond (eqb kind 0x1D) (fixups.NewArray (elem_of of)) (cond (eqb kind 0x1E) (fixups.IsInstanceOf of)
    (cond (eqb kind 0x1F) (fixups.ChkCast of) (fixups.FieldBaseOffset of))))
fixup_from kind (payloads.OfField field) = cond (eqb kind 0x20) (fixups.FieldAddress field) (fixups.FieldOffset field)
fixup_from kind (payloads.OffsetAndField offset field) = fixups.CheckFieldOffset offset field

fixup_is : (fixup : Fixup) → fixup_from (signature_of fixup).kind (signature_of fixup).payload ≡ fixup
unfolding fixup_from elem_of
fixup_is (fixups.MethodEntryDefToken row) = refl
fixup_is (fixups.MethodEntryRefToken row) = refl
fixup_is (fixups.VirtualEntryDefToken row) = refl
fixup_is (fixups.VirtualEntryRefToken row) = refl
fixup_is (fixups.Helper number) = refl
fixup_is (fixups.StringHandle at) = refl
fixup_is (fixups.NewObject of) = refl
fixup_is (fixups.NewArray elem) = refl
fixup_is (fixups.IsInstanceOf of) = refl
fixup_is (fixups.ChkCast of) = refl
fixup_is (fixups.FieldAddress field) = refl
fixup_is (fixups.FieldBaseOffset of) = refl
fixup_is (fixups.FieldOffset field) = refl
fixup_is (fixups.CheckFieldOffset offset field) = refl

pub fixups_apart : NoneBeginsAnother IsCompressed → NoneBeginsAnother IsFixup
fixups_apart numbers a b more rest f g (tail, ea, h) (end, eb, k) whole =
    let (kind, tails) = heads a b tail end more rest (signature_of f).kind (signature_of g).kind ea eb whole in
    let shape = sym (shape_is f) ∙ ap shape_at kind ∙ shape_is g in
    let (same, payload) = payload_apart numbers tail end more rest (signature_of f).payload (signature_of g).payload shape h k tails in (
      ea ∙ ap (λ v. v ∷ tail) kind ∙ ap (λ v. (signature_of g).kind ∷ v) same ∙ sym eb,
      sym (fixup_is f) ∙ ap (λ v. fixup_from v (signature_of f).payload) kind ∙ ap (λ v. fixup_from (signature_of g).kind v) payload
          ∙ fixup_is g,
    )

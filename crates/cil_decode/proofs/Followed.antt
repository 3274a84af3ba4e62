-- Instructions one after the other: one more, and that there is one way.
use Rattle.std.proofs.Common.{◌≡◌, ℕ, zero, suc, ◌+◌, ◌^◌, ◌<◌, ◌≤◌, ◌⊎◌, inl, inr, List, [], ◌∷◌, ◌++◌, length, get_or}
use Rattle.std.proofs.Common.{Some, Result, Ok, Err, refl, sym, ap, ◌∙◌, subst, arith, append-nil}
use Rattle.std.specs.Prelude.{IfOk, IfErr}
use Rattle.std.proofs.lemmas.List.{drop_all}
use Rattle.std.specs.Global.{Vec}
use Rattle.cil_decode.specs.declared.instr.Instr.{Instr}
use Rattle.cil_decode.specs.declared.body.BodyRefusal.{BodyRefusal}
use Rattle.cil_decode.specs.declared.body.BodyRefusal.TheVariants as refusals
use Rattle.cil_decode.specs.Instructions.{IsRefusedAt, form_in, instr_at, instr_size, with_form}
use Rattle.cil_decode.specs.Bodies.{AreBytes, Breaks, Follow, GivesBody, GivesRefusal, IsBody, IsCode, IsDecoded}
use Rattle.cil_decode.specs.Bodies.{IsFreely, IsRefused, IsUnlinked, first_unlinked}
use Rattle.cil_decode.proofs.Sizes.{is_read}

pub follow_more : (code : List ℕ) (at mid : ℕ) (is : List Instr) (i : Instr) → Follow code at is mid
    → instr_at code mid ≡ Ok i → Follow code at (is ++ i ∷ []) (mid + instr_size i)
follow_more code at mid [] i e read = (subst (λ n. instr_at code n ≡ Ok i) (sym e) read, ap (λ n. n + instr_size i) e)
follow_more code at mid (j ∷ is) i (first, rest) read = (first, follow_more code (at + instr_size j) mid is i rest read)

-- ---- there is one way

-- nothing is read at the end
at_end : (code : List ℕ) → instr_at code (length code) ≡ Err (refusals.Cut (length code))
unfolding instr_at
at_end code = ap (λ bytes. with_form code (length code) (form_in bytes)) (drop_all (length code) code (omega arith))

-- so no instruction follows there
ends_there : (code : List ℕ) (more : List Instr) (n : ℕ) → Follow code (length code) more n → (more ≡ []) × (length code ≡ n)
ends_there code [] n e = (refl, e)
ends_there code (i ∷ more) n (read, rest) = absurd (let end = at_end code in let x : ⊥ = cc in x)

-- the second list goes on where the first ends
record GoesOn (code : List ℕ) (m n : ℕ) (is js : List Instr) : Type 0 where
  more : List Instr
  whole : js ≡ is ++ more
  follow : Follow code m more n

one_more : (code : List ℕ) (m n : ℕ) (i j : Instr) (is js : List Instr) → i ≡ j → GoesOn code m n is js → GoesOn code m n (i ∷ is) (j ∷ js)
one_more code m n i j is js e g = record {
  more = g.more;
  whole = ap (λ k. k ∷ js) (sym e) ∙ ap (λ ks. i ∷ ks) g.whole;
  follow = g.follow;
}

-- of two lists from one offset on, one goes on where the other ends
joined : (code : List ℕ) (at m n : ℕ) (is js : List Instr) → Follow code at is m → Follow code at js n
    → GoesOn code m n is js ⊎ GoesOn code n m js is
joined code at m n [] js e f = inl (record { more = js; whole = refl; follow = subst (λ k. Follow code k js n) e f })
joined code at m n (i ∷ is) [] f e = inr (record { more = i ∷ is; whole = refl; follow = subst (λ k. Follow code k (i ∷ is) m) e f })
joined code at m n (i ∷ is) (j ∷ js) (r, f) (s, g) =
    let same : i ≡ j = cc in
    let there : Follow code (at + instr_size i) js n = subst (λ k. Follow code (at + instr_size k) js n) (sym same) g in
    elim (joined code (at + instr_size i) m n is js f there) [
      | inl x ↦ inl (one_more code m n i j is js same x)
      | inr x ↦ inr (one_more code n m j i js is (sym same) x)
    ]

pub one_code : (code : List ℕ) (is js : List Instr) → IsCode code is → IsCode code js → is ≡ js
one_code code is js a b =
    elim (joined code 0 (length code) (length code) is js a.follow b.follow) [
      | inl x ↦ sym (x.whole ∙ ap (λ more. is ++ more) (ends_there code x.more (length code) x.follow).0 ∙ append-nil is)
      | inr x ↦ x.whole ∙ ap (λ more. js ++ more) (ends_there code x.more (length code) x.follow).0 ∙ append-nil js
    ]

-- where an instruction can't be read none follows
stops : (code : List ℕ) (e : BodyRefusal) (b : Breaks code e) (more : List Instr) (n : ℕ) → Follow code b.at more n → b.at ≡ n
stops code e b [] n same = same
stops code e b (i ∷ more) n (read, rest) = absurd (let broken = b.broken in let x : ⊥ = cc in x)

before_end : (code : List ℕ) (e : BodyRefusal) (b : Breaks code e) → 0 < length code → b.at ≡ length code → ⊥
before_end code e b some same = elim b.more [ inl below ↦ omega (arith, below, same) | inr none ↦ omega (arith, none, some) ]

pub not_broken : (code : List ℕ) (e : BodyRefusal) (list : List Instr) → Breaks code e → IsCode code list → ⊥
not_broken code e list b whole =
    elim (joined code 0 b.at (length code) b.before list b.follow whole.follow) [
      | inl x ↦ before_end code e b whole.some (stops code e b x.more (length code) x.follow)
      | inr x ↦ before_end code e b whole.some (sym (ends_there code x.more b.at x.follow).1)
    ]

pub one_break : (code : List ℕ) (e f : BodyRefusal) → Breaks code e → Breaks code f → e ≡ f
one_break code e f a b =
    let same : a.at ≡ b.at = elim (joined code 0 a.at b.at a.before b.before a.follow b.follow) [
      | inl x ↦ stops code e a x.more b.at x.follow
      | inr x ↦ sym (stops code f b x.more a.at x.follow)
    ] in
    let there : instr_at code a.at ≡ Err f = subst (λ n. instr_at code n ≡ Err f) (sym same) b.broken in
    let here = a.broken in
    cc

-- a code with a bad target has no other list
pub not_linked : (code : List ℕ) (at : ℕ) (list : List Instr) → IsUnlinked code at → IsCode code list → first_unlinked list ≡ Some at
not_linked code at list u whole = subst (λ is. first_unlinked is ≡ Some at) (one_code code u.list list u.code_is whole) u.first

-- ---- one answer

pub one_body : (code : List ℕ) (r : Result (Vec Instr) BodyRefusal) (list : List Instr)
    → IfOk r (λ v. IsBody code v.items) → IfErr r (IsRefused code) → IsBody code list → GivesBody r list
one_body code (Ok v) list ok err body = one_code code v.items list ok.code_is body.code_is
one_body code (Err refusals.NoMemory) list ok err body = refl
one_body code (Err (refusals.Cut at)) list ok err body = absurd (not_broken code (refusals.Cut at) list err body.code_is)
one_body code (Err (refusals.OutOfProfile at)) list ok err body = absurd (not_broken code (refusals.OutOfProfile at) list err body.code_is)
one_body code (Err (refusals.BadTarget at)) list ok err body =
    let bad = not_linked code at list err body.code_is in let good = body.linked in absurd (let x : ⊥ = cc in x)

-- a code that breaks is refused so
broken_so : (code : List ℕ) (r : Result (Vec Instr) BodyRefusal) (e : BodyRefusal) → IfOk r (λ v. IsBody code v.items)
    → IfErr r (IsRefused code) → Breaks code e → GivesRefusal r e
broken_so code (Ok v) e ok err b = absurd (not_broken code e v.items b ok.code_is)
broken_so code (Err refusals.NoMemory) e ok err b = tt
broken_so code (Err (refusals.Cut at)) e ok err b = inr (one_break code (refusals.Cut at) e err b)
broken_so code (Err (refusals.OutOfProfile at)) e ok err b = inr (one_break code (refusals.OutOfProfile at) e err b)
broken_so code (Err (refusals.BadTarget at)) e ok err b = absurd (not_broken code e err.list b err.code_is)

unlinked_so : (code : List ℕ) (r : Result (Vec Instr) BodyRefusal) (at : ℕ) → IfOk r (λ v. IsBody code v.items)
    → IfErr r (IsRefused code) → IsUnlinked code at → GivesRefusal r (refusals.BadTarget at)
unlinked_so code (Ok v) at ok err u =
    let bad = not_linked code at v.items u ok.code_is in let good = ok.linked in absurd (let x : ⊥ = cc in x)
unlinked_so code (Err refusals.NoMemory) at ok err u = tt
unlinked_so code (Err (refusals.Cut k)) at ok err u = absurd (not_broken code (refusals.Cut k) u.list err u.code_is)
unlinked_so code (Err (refusals.OutOfProfile k)) at ok err u = absurd (not_broken code (refusals.OutOfProfile k) u.list err u.code_is)
unlinked_so code (Err (refusals.BadTarget k)) at ok err u =
    let there = not_linked code k u.list err u.code_is in
    let here = u.first in
    let same : k ≡ at = cc in
    inr (ap (λ n. refusals.BadTarget n) same)

freely : (f : BodyRefusal) → IsFreely f refusals.NoMemory
freely refusals.NoMemory = tt
freely (refusals.Cut at) = inl refl
freely (refusals.OutOfProfile at) = inl refl
freely (refusals.BadTarget at) = inl refl

pub one_refusal : (code : List ℕ) (r : Result (Vec Instr) BodyRefusal) (e : BodyRefusal)
    → IfOk r (λ v. IsBody code v.items) → IfErr r (IsRefused code) → IsRefused code e → GivesRefusal r e
one_refusal code (Ok v) refusals.NoMemory ok err b = refl
one_refusal code (Err f) refusals.NoMemory ok err b = freely f
one_refusal code r (refusals.Cut at) ok err b = broken_so code r (refusals.Cut at) ok err b
one_refusal code r (refusals.OutOfProfile at) ok err b = broken_so code r (refusals.OutOfProfile at) ok err b
one_refusal code r (refusals.BadTarget at) ok err u = unlinked_so code r at ok err u

-- ---- the reader's steps

-- a refusal of an instruction after those that were read
pub refused_so : (code : List ℕ) (before : List Instr) (at : ℕ) (e : BodyRefusal) → Follow code 0 before at
    → at < length code → IsRefusedAt code at e → IsRefused code e
refused_so code before at refusals.NoMemory f below r = tt
refused_so code before at (refusals.Cut k) f below r = record { before = before; at = at; follow = f; more = inl below; broken = r }
refused_so code before at (refusals.OutOfProfile k) f below r =
    record { before = before; at = at; follow = f; more = inl below; broken = r }
refused_so code before at (refusals.BadTarget k) f below r = absurd r

-- a code without bytes
pub none_read : (code : List ℕ) → length code ≡ 0 → Breaks code (refusals.Cut 0)
none_read code none = record {
  before = [];
  at = 0;
  follow = refl;
  more = inr none;
  broken = subst (λ n. instr_at code n ≡ Err (refusals.Cut n)) none (at_end code);
}

-- ---- where they begin

pub follow_up : (code : List ℕ) (at n : ℕ) (is : List Instr) → Follow code at is n → at ≤ n
follow_up code at n [] e = omega arith
follow_up code at n (i ∷ is) (read, rest) = let later = follow_up code (at + instr_size i) n is rest in omega arith

pub begins_below : (code : List ℕ) (at n : ℕ) (is : List Instr) → Follow code at is n → (k : ℕ) (d : Instr)
    → k < length is → (get_or is k d).at < n
begins_below code at n [] f k d h = absurd (let x : ⊥ = omega arith in x)
begins_below code at n (i ∷ is) (read, rest) zero d h =
    let first = is_read code at i read in
    let later = follow_up code (at + instr_size i) n is rest in
    omega (arith, first.at_is, first.some, later)
begins_below code at n (i ∷ is) (read, rest) (suc k) d h = begins_below code (at + instr_size i) n is rest k d (omega arith)

-- ---- such a list can be encoded

pub decoded_so : (code : List ℕ) (r : Result (Vec Instr) BodyRefusal) → AreBytes code → length code ≤ 2 ^ 31
    → IfOk r (λ v. IsBody code v.items) → IfOk r (λ v. IsDecoded v.items)
decoded_so code (Ok v) bytes small ok = record { code = code; bytes = bytes; small = small; body = ok }
decoded_so code (Err e) bytes small ok = tt

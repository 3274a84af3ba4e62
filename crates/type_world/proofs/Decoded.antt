-- The instructions that are read of a code from its start are those that the code is.
use Rattle.std.proofs.Common.{◌≡◌, ◌≢◌, ◌⊎◌, inl, inr, ℕ, zero, suc, ◌+◌, ◌<◌, ◌≤◌, ◌==◌, Bool, true, false, List, []}
use Rattle.std.proofs.Common.{◌∷◌, length, Option, Some, None, Result, Ok, Err, refl, sym, ap, ◌∙◌, subst, arith}
use Rattle.std.proofs.Common.{option_and_then, if◌then◌else◌, is_none, eqb-true, eq-eqb, ne_eqb}
use Rattle.std.specs.Option.{option_map}
use Rattle.cil_decode.specs.declared.instr.Instr.{Instr}
use Rattle.cil_decode.specs.declared.body.BodyRefusal.{BodyRefusal}
use Rattle.cil_decode.specs.declared.body.BodyRefusal.TheVariants as refusals
use Rattle.cil_decode.specs.Instructions.{instr_at, instr_size}
use Rattle.cil_decode.specs.Bodies.{Breaks, Follow, IsBody, IsCode, IsRefused, first_unlinked}
use Rattle.type_world.specs.Profile.{from_offset, instrs_from, instrs_of, linked, next_instr}
use Rattle.cil_decode.proofs.Sizes.{some_size}
use Rattle.type_world.proofs.Bound.{instr_inside}

-- each instruction takes at least one byte
counted : (code : List ℕ) (at : ℕ) (list : List Instr) (end : ℕ) → Follow code at list end → at + length list ≤ end
counted code at [] end follow = omega (arith, follow)
counted code at (i ∷ list) end follow = omega (arith, some_size i, counted code (at + instr_size i) list end follow.1)

-- ---- what follows from an offset to the end is read

reads : (n : ℕ) (code : List ℕ) (at : ℕ) (list : List Instr) → Follow code at list (length code) → length list ≤ n
    → instrs_from n code at ≡ Some list
unfolding instrs_from
reads zero code at [] follow l = ap (λ b. if b then Some [] else None) (eq-eqb at (length code) follow)
reads (suc n) code at [] follow l = ap (λ b. from_offset b (instrs_from n code) code at) (eq-eqb at (length code) follow)
reads zero code at (i ∷ list) follow l = absurd (omega arith)
reads (suc n) code at (i ∷ list) follow l =
    let inside : at < length code = instr_inside code at i follow.0 in
    ap (λ b. from_offset b (instrs_from n code) code at) (ne_eqb at (length code) (λ e. omega arith))
    ∙ ap (next_instr (instrs_from n code) at) follow.0
    ∙ ap (option_map (λ is. i ∷ is)) (reads n code (at + instr_size i) list follow.1 (omega arith))

-- ---- what is read follows

front : (i : Instr) (rest : Option (List Instr)) (list : List Instr) → option_map (λ is. i ∷ is) rest ≡ Some list
    → (is : List Instr) × (rest ≡ Some is) × (list ≡ i ∷ is)
front i None list e = absurd (cc)
front i (Some is) list e = (is, refl, cc)

-- of what is read after an instruction
abbrev Reads : ℕ → List ℕ → ℕ → Type 0
Reads n code at = (i : Instr) (is : List Instr) → instrs_from n code (at + instr_size i) ≡ Some is
    → Follow code (at + instr_size i) is (length code)

follows : (n : ℕ) (code : List ℕ) (at : ℕ) (list : List Instr) → instrs_from n code at ≡ Some list → Follow code at list (length code)
unfolding instrs_from
follows zero code at list e = at_end (at == length code) refl e
  where
    at_end : (b : Bool) → at == length code ≡ b → (if b then Some [] else None) ≡ Some list → Follow code at list (length code)
    at_end true q h = let none : [] ≡ list = cc in subst (λ is. Follow code at is (length code)) none (eqb-true at (length code) q)
    at_end false q h = absurd (cc)
follows (suc n) code at list e = by_end (λ i is h. follows n code (at + instr_size i) is h) (at == length code) refl e
  where
    by_instr : Reads n code at → (r : Result Instr BodyRefusal) → instr_at code at ≡ r
        → next_instr (instrs_from n code) at r ≡ Some list → Follow code at list (length code)
    by_instr rest (Err b) q h = absurd (cc)
    by_instr rest (Ok i) q h =
        let parts : (is : List Instr) × (instrs_from n code (at + instr_size i) ≡ Some is) × (list ≡ i ∷ is) =
        front i (instrs_from n code (at + instr_size i)) list h in
        subst (λ is. Follow code at is (length code)) (sym parts.2) (q, rest i parts.0 parts.1)

    by_end : Reads n code at → (b : Bool) → at == length code ≡ b
        → from_offset b (instrs_from n code) code at ≡ Some list → Follow code at list (length code)
    by_end rest true q h = let none : [] ≡ list = cc in subst (λ is. Follow code at is (length code)) none (eqb-true at (length code) q)
    by_end rest false q h = by_instr rest (instr_at code at) refl h

-- ---- an instruction that can't be read ends the reading

breaks : (n : ℕ) (code : List ℕ) (at : ℕ) (before : List Instr) (end : ℕ) (e : BodyRefusal) → Follow code at before end
    → end < length code → instr_at code end ≡ Err e → instrs_from n code at ≡ None
unfolding instrs_from
breaks zero code at before end e follow l h =
    ap (λ b. if b then Some [] else None) (ne_eqb at (length code) (λ q. omega (arith, counted code at before end follow)))
breaks (suc n) code at [] end e follow l h =
    ap (λ b. from_offset b (instrs_from n code) code at) (ne_eqb at (length code) (λ q. omega (arith, follow)))
    ∙ ap (next_instr (instrs_from n code) at) (ap (instr_at code) follow ∙ h)
breaks (suc n) code at (i ∷ before) end e follow l h =
    ap (λ b. from_offset b (instrs_from n code) code at)
    (ne_eqb at (length code) (λ q. omega (arith, counted code at (i ∷ before) end follow)))
    ∙ ap (next_instr (instrs_from n code) at) follow.0
    ∙ ap (option_map (λ is. i ∷ is)) (breaks n code (at + instr_size i) before end e follow.1 l h)

-- ---- the whole

if_linked : (list : List Instr) → first_unlinked list ≡ None → linked list ≡ Some list
if_linked list e = ap (λ o. if is_none o then Some list else None) e

if_unlinked : (list : List Instr) (at : ℕ) → first_unlinked list ≡ Some at → linked list ≡ None
if_unlinked list at e = ap (λ o. if is_none o then Some list else None) e

read_whole : (code : List ℕ) (list : List Instr) → IsCode code list → instrs_of code ≡ linked list
unfolding instrs_of
read_whole [] list c = absurd (omega (arith, c.some))
read_whole (b ∷ code) list c =
    ap (option_and_then linked)
    (reads (length (b ∷ code)) (b ∷ code) 0 list c.follow (omega (arith, counted (b ∷ code) 0 list (length (b ∷ code)) c.follow)))

pub decoded : (code : List ℕ) (list : List Instr) → IsBody code list → instrs_of code ≡ Some list
decoded code list b = read_whole code list b.code_is ∙ if_linked list b.linked

linked_parts : (o : Option (List Instr)) (list : List Instr) → option_and_then linked o ≡ Some list
    → (o ≡ Some list) × (first_unlinked list ≡ None)
linked_parts None list e = absurd (cc)
linked_parts (Some is) list e = by_link (first_unlinked is) refl e
  where
    by_link : (f : Option ℕ) → first_unlinked is ≡ f → (if is_none f then Some is else None) ≡ Some list
        → (Some is ≡ Some list) × (first_unlinked list ≡ None)
    by_link None q h = let same : is ≡ list = cc in (h, subst (λ x. first_unlinked x ≡ None) same q)
    by_link (Some at) q h = absurd (cc)

pub whole : (code : List ℕ) (list : List Instr) → instrs_of code ≡ Some list → IsBody code list
unfolding instrs_of
whole [] list e = absurd (cc)
whole (b ∷ code) list e =
    let parts : (instrs_from (length (b ∷ code)) (b ∷ code) 0 ≡ Some list) × (first_unlinked list ≡ None) =
    linked_parts (instrs_from (length (b ∷ code)) (b ∷ code) 0) list e in
    record { code_is = record { some = omega arith; follow = follows (length (b ∷ code)) (b ∷ code) 0 list parts.0 }; linked = parts.1 }

broken : (code : List ℕ) (e : BodyRefusal) → Breaks code e → instrs_of code ≡ None
unfolding instrs_of
broken [] e b = refl
broken (byte ∷ code) e b =
    ap (option_and_then linked) (breaks (length (byte ∷ code)) (byte ∷ code) 0 b.before b.at e b.follow (inside b.more) b.broken)
  where
    inside : (b.at < length (byte ∷ code)) ⊎ (length (byte ∷ code) ≡ 0) → b.at < length (byte ∷ code)
    inside (inl l) = l
    inside (inr z) = omega (arith, z)

pub refused : (code : List ℕ) (e : BodyRefusal) → e ≢ refusals.NoMemory → IsRefused code e → instrs_of code ≡ None
refused code (refusals.Cut at) some r = broken code (refusals.Cut at) r
refused code (refusals.OutOfProfile at) some r = broken code (refusals.OutOfProfile at) r
refused code (refusals.BadTarget at) some r = read_whole code r.list r.code_is ∙ if_unlinked r.list at r.first
refused code refusals.NoMemory some r = absurd (some refl)

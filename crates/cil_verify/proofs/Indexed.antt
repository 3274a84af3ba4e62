-- Stacks by an index from their offsets.
use Rattle.std.proofs.Common.{◌≡◌, ℕ, zero, suc, ◌<◌, ◌==◌, Bool, true, false, List, [], ◌∷◌, ◌++◌, length, find}
use Rattle.std.proofs.Common.{Option, Some, None, get_or, set, refl, sym, ap, ◌∙◌, subst, arith, cond}
use Rattle.std.proofs.Common.{if◌then◌else◌, eqb-true, eq-eqb, inl, inr}
use Rattle.std.proofs.lemmas.Bool.{cases_eq, ne_eqb}
use Rattle.std.proofs.lemmas.List.{get_or-set_same, get_or-set_other}
use Rattle.std.specs.Option.{option_map}
use Rattle.cil_meaning.specs.declared.kind.Kind.{Kind}
use Rattle.type_world.specs.World.{World}
use Rattle.cil_meaning.specs.Typing.{Typing, stack_at, widen_all, with_stack}
use Rattle.cil_verify.specs.Places.{IndexedBy, place_of}

abbrev stack_in : Option (ℕ × List Kind) → Option (List Kind)
stack_in o = option_map (λ f. f.1) o

-- ---- by cases on the first stack's offset

moved_some : (o : Option ℕ) (p : ℕ) → option_map suc o ≡ Some (suc p) → o ≡ Some p
moved_some None p e = absurd (cc)
moved_some (Some q) p e = cc

moved_none : (o : Option ℕ) → option_map suc o ≡ None → o ≡ None
moved_none None e = refl
moved_none (Some q) e = absurd (cc)

moved_first : (o : Option ℕ) → option_map suc o ≡ Some 0 → ⊥
moved_first None e = cc
moved_first (Some q) e = cc

-- what an offset's place says of it
pub record Placed (world : World) (typing : Typing) (at p : ℕ) (d : ℕ × List Kind) : Type 0 where
  pub within : p < length typing
  pub here : (get_or typing p d).0 ≡ at
  pub stack : stack_at typing at ≡ Some (get_or typing p d).1
  pub added : (s : List Kind) → with_stack world s at typing ≡ set typing p (at, widen_all world (get_or typing p d).1 s)

pub placed : (world : World) (typing : Typing) (at p : ℕ) (d : ℕ × List Kind) → place_of typing at ≡ Some p → Placed world typing at p d
unfolding with_stack
placed world [] at p d e = absurd (cc)
placed world (found ∷ typing) at p d e = by_here (found.0 == at) refl p e (λ q g. placed world typing at q d g)
  where
    by_here : (b : Bool) → (found.0 == at) ≡ b → (q : ℕ) → (if b then Some 0 else option_map suc (place_of typing at)) ≡ Some q
        → ((r : ℕ) → place_of typing at ≡ Some r → Placed world typing at r d) → Placed world (found ∷ typing) at q d
    by_here true h zero e rest = record {
      within = omega arith;
      here = eqb-true found.0 at h;
      stack = ap (λ b. stack_in (cond b (Some found) (find (λ f. f.0 == at) typing))) h;
      added = λ s. ap (λ b. if b then (at, widen_all world found.1 s) ∷ typing else found ∷ with_stack world s at typing) h;
    }
    by_here true h (suc q) e rest = absurd (cc)
    by_here false h zero e rest = absurd (moved_first (place_of typing at) e)
    by_here false h (suc q) e rest =
        let r = rest q (moved_some (place_of typing at) q e) in
        record {
          within = omega (arith, r.within);
          here = r.here;
          stack = ap (λ b. stack_in (cond b (Some found) (find (λ f. f.0 == at) typing))) h ∙ r.stack;
          added = λ s.
              ap (λ b. if b then (at, widen_all world found.1 s) ∷ typing else found ∷ with_stack world s at typing) h
              ∙ ap (λ t. found ∷ t) (r.added s);
        }

-- and one that has none
pub record Missing (world : World) (typing : Typing) (at : ℕ) : Type 0 where
  pub stack : stack_at typing at ≡ None
  pub added : (s : List Kind) → with_stack world s at typing ≡ typing ++ (at, s) ∷ []

pub missing : (world : World) (typing : Typing) (at : ℕ) → place_of typing at ≡ None → Missing world typing at
unfolding with_stack
missing world [] at e = record { stack = refl; added = λ s. refl }
missing world (found ∷ typing) at e = by_here (found.0 == at) refl e (λ g. missing world typing at g)
  where
    by_here : (b : Bool) → (found.0 == at) ≡ b → (if b then Some 0 else option_map suc (place_of typing at)) ≡ None
        → (place_of typing at ≡ None → Missing world typing at) → Missing world (found ∷ typing) at
    by_here true h e rest = absurd (cc)
    by_here false h e rest =
        let r = rest (moved_none (place_of typing at) e) in
        record {
          stack = ap (λ b. stack_in (cond b (Some found) (find (λ f. f.0 == at) typing))) h ∙ r.stack;
          added = λ s.
              ap (λ b. if b then (at, widen_all world found.1 s) ∷ typing else found ∷ with_stack world s at typing) h
              ∙ ap (λ t. found ∷ t) (r.added s);
        }

-- ---- the index after a change

-- a stack that is replaced leaves the places as they are
place_of-set : (typing : Typing) (p k : ℕ) (x d : ℕ × List Kind) → x.0 ≡ (get_or typing p d).0
    → place_of (set typing p x) k ≡ place_of typing k
place_of-set [] p k x d e = by_number p
  where
    by_number : (n : ℕ) → place_of (set [] n x) k ≡ None
    by_number zero = refl
    by_number (suc n) = refl
place_of-set (found ∷ typing) zero k x d e = ap (λ n. if n == k then Some 0 else option_map suc (place_of typing k)) e
place_of-set (found ∷ typing) (suc p) k x d e =
    ap (λ o. if found.0 == k then Some 0 else option_map suc o) (place_of-set typing p k x d e)

pub indexed-set : (typing : Typing) (places : List (Option ℕ)) (p : ℕ) (x d : ℕ × List Kind) → x.0 ≡ (get_or typing p d).0
    → IndexedBy typing places → IndexedBy (set typing p x) places
indexed-set typing places p x d e indexed = λ k. indexed k ∙ sym (place_of-set typing p k x d e)

-- one that is added is the last
place_of-last : (typing : Typing) (at : ℕ) (s : List Kind) → place_of typing at ≡ None
    → place_of (typing ++ (at, s) ∷ []) at ≡ Some (length typing)
place_of-last [] at s e = ap (λ b. if b then Some 0 else None) (eq-eqb at at refl)
place_of-last (found ∷ typing) at s e = by_here (found.0 == at) e (λ g. place_of-last typing at s g)
  where
    by_here : (b : Bool) → (if b then Some 0 else option_map suc (place_of typing at)) ≡ None
        → (place_of typing at ≡ None → place_of (typing ++ (at, s) ∷ []) at ≡ Some (length typing))
        → (if b then Some 0 else option_map suc (place_of (typing ++ (at, s) ∷ []) at)) ≡ Some (length (found ∷ typing))
    by_here true e rest = absurd (cc)
    by_here false e rest = ap (option_map suc) (rest (moved_none (place_of typing at) e))

place_of-others : (typing : Typing) (at k : ℕ) (s : List Kind) → (at == k) ≡ false → place_of (typing ++ (at, s) ∷ []) k ≡ place_of typing k
place_of-others [] at k s e = ap (λ b. if b then Some 0 else None) e
place_of-others (found ∷ typing) at k s e = ap (λ o. if found.0 == k then Some 0 else option_map suc o) (place_of-others typing at k s e)

pub indexed-append : (typing : Typing) (before places : List (Option ℕ)) (at : ℕ) (s : List Kind) → place_of typing at ≡ None
    → ((k : ℕ) → get_or places k None ≡ get_or before k None) → at < length places → IndexedBy typing before
    → IndexedBy (typing ++ (at, s) ∷ []) (set places at (Some (length typing)))
indexed-append typing before places at s none same at_in indexed = λ k.
    elim (cases_eq at k) [
      | inl e ↦
          subst (λ n. get_or (set places at (Some (length typing))) n None ≡ place_of (typing ++ (at, s) ∷ []) n) e
          (get_or-set_same places at (Some (length typing)) None at_in ∙ sym (place_of-last typing at s none))
      | inr ne ↦
          get_or-set_other places at k (Some (length typing)) None (λ e. ne (sym e)) ∙ same k ∙ indexed k
          ∙ sym (place_of-others typing at k s (ne_eqb at k ne))
    ]

-- the same, by what each part is
pub appended : (typing longer after : Typing) (before places : List (Option ℕ)) (at place : ℕ) (s : List Kind) (x : ℕ × List Kind)
    → place_of typing at ≡ None → ((k : ℕ) → get_or places k None ≡ get_or before k None) → at < length places
    → IndexedBy typing before → place ≡ length typing → longer ≡ typing → x ≡ (at, s) → after ≡ longer ++ x ∷ []
    → IndexedBy after (set places at (Some place))
appended typing longer after before places at place s x none same at_in indexed place_is longer_is x_is after_is = λ k.
    let whole : after ≡ typing ++ (at, s) ∷ [] = after_is ∙ ap (λ t. t ++ x ∷ []) longer_is ∙ ap (λ y. typing ++ y ∷ []) x_is in
    ap (λ n. get_or (set places at (Some n)) k None) place_is ∙ indexed-append typing before places at s none same at_in indexed k
    ∙ ap (λ t. place_of t k) (sym whole)

-- a stack that is widened at its place
pub widened_there : (world : World) (typing : Typing) (at p : ℕ) (s : List Kind) (r x : ℕ × List Kind) → place_of typing at ≡ Some p
    → r ≡ get_or typing p r → x ≡ (r.0, widen_all world r.1 s) → set typing p x ≡ with_stack world s at typing
widened_there world typing at p s r x found r_is x_is =
    let there : Placed world typing at p r = placed world typing at p r found in
    let whole : x ≡ (at, widen_all world (get_or typing p r).1 s) =
    x_is ∙ ap (λ (v : ℕ × List Kind). (v.0, widen_all world v.1 s)) r_is
    ∙ ap (λ n. (n, widen_all world (get_or typing p r).1 s)) there.here in
    ap (set typing p) whole ∙ sym (there.added s)

-- the index after it
pub widened_indexed : (world : World) (typing : Typing) (places : List (Option ℕ)) (p : ℕ) (s : List Kind) (r x : ℕ × List Kind)
    → r ≡ get_or typing p r → x ≡ (r.0, widen_all world r.1 s) → IndexedBy typing places → IndexedBy (set typing p x) places
widened_indexed world typing places p s r x r_is x_is indexed =
    indexed-set typing places p x r (ap (λ (v : ℕ × List Kind). v.0) x_is ∙ ap (λ (v : ℕ × List Kind). v.0) r_is) indexed

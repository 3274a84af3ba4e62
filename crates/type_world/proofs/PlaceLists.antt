-- What the types of signatures hold, one after the other.
use Rattle.std.proofs.Common.{◌≡◌, ℕ, ◌+◌, ◌<◌, ◌≤◌, Bool, true, false, List, [], ◌∷◌, ◌++◌, length, drop, get_or}
use Rattle.std.proofs.Common.{Option, Some, None, refl, sym, ap, ◌∙◌, append_assoc, option_and_then}
use Rattle.std.specs.Option.{option_map}
use Rattle.std.proofs.lemmas.List.{drop_more}
use Rattle.std.proofs.Math.ListN.{drop_of_length-le}
use Rattle.cli_assembly.specs.declared.signature.TypeSig.{TypeSig}
use Rattle.cli_assembly.specs.declared.signature.MethodSig.{MethodSig}
use Rattle.type_world.specs.declared.identity.MethodId.{MethodId}
use Rattle.type_world.specs.declared.place.Place.{Place}
use Rattle.type_world.specs.Profile.{before, few_arguments, place_of, places_of, shape, shape_with, with_this}
use Rattle.type_world.specs.World.{World}

abbrev pub after : List Place → Option (List Place) → Option (List Place)
after front rest = option_map (λ places. front ++ places) rest

moved : (front : List Place) (place : Place) (rest : Option (List Place))
    → after front (option_map (λ places. place ∷ places) rest) ≡ after (front ++ place ∷ []) rest
moved front place None = refl
moved front place (Some rest) = ap Some (sym (append_assoc front (place ∷ []) rest))

split : (world : World) (asm i : ℕ) (sigs : List TypeSig) (d : TypeSig) (o : Option Place) → i < length sigs
    → o ≡ place_of world asm (get_or sigs i d) → places_of world asm (drop i sigs) ≡ before o (places_of world asm (drop (i + 1) sigs))
unfolding places_of
split world asm i sigs d o l p =
    ap (places_of world asm) (drop_more sigs i d l)
    ∙ ap (λ place. before place (places_of world asm (drop (i + 1) sigs))) (sym p)

pub one_place : (world : World) (asm i : ℕ) (sigs : List TypeSig) (d : TypeSig) (o : Option Place) (place : Place) (front all : List Place)
    → i < length sigs → o ≡ place_of world asm (get_or sigs i d) → o ≡ Some place → all ≡ front ++ place ∷ []
    → after front (places_of world asm (drop i sigs)) ≡ after all (places_of world asm (drop (i + 1) sigs))
one_place world asm i sigs d o place front all l p some long =
    ap (after front) (split world asm i sigs d o l p)
    ∙ ap (λ x. after front (before x (places_of world asm (drop (i + 1) sigs)))) some
    ∙ moved front place (places_of world asm (drop (i + 1) sigs))
    ∙ ap (λ x. after x (places_of world asm (drop (i + 1) sigs))) (sym long)

pub no_place : (world : World) (asm i : ℕ) (sigs : List TypeSig) (d : TypeSig) (o : Option Place) (front : List Place)
    → i < length sigs → o ≡ place_of world asm (get_or sigs i d) → o ≡ None
    → after front (places_of world asm (drop i sigs)) ≡ None
no_place world asm i sigs d o front l p none =
    ap (after front) (split world asm i sigs d o l p)
    ∙ ap (λ x. after front (before x (places_of world asm (drop (i + 1) sigs)))) none

pub no_more : (world : World) (asm i : ℕ) (sigs : List TypeSig) (front : List Place) → length sigs ≤ i
    → after front (places_of world asm (drop i sigs)) ≡ Some front
unfolding places_of
no_more world asm i sigs front l = ap (λ s. after front (places_of world asm s)) (drop_of_length-le sigs l) ∙ ap Some (append_nil front)
  where
    append_nil : (xs : List Place) → xs ++ [] ≡ xs
    append_nil [] = refl
    append_nil (x ∷ xs) = ap (λ ys. x ∷ ys) (append_nil xs)

pub whole : (o : Option (List Place)) → after [] o ≡ o
whole None = refl
whole (Some places) = refl

-- ---- arguments

this_first : (world : World) (method : MethodId) (b : Bool) (o : Option (List Place))
    → after (with_this world method b []) o ≡ option_map (with_this world method b) o
this_first world method true None = refl
this_first world method true (Some places) = refl
this_first world method false None = refl
this_first world method false (Some places) = refl

then_few : (f : List Place → List Place) (result : Option Place) (o : Option (List Place))
    → option_and_then (λ places. few_arguments (shape result (f places))) o
    ≡ option_and_then (λ places. few_arguments (shape result places)) (option_map f o)
then_few f result None = refl
then_few f result (Some places) = refl

pub by_arguments : (world : World) (method : MethodId) (sig : MethodSig) (result : Option Place) (first : List Place)
    (all : Option (List Place)) → first ≡ with_this world method sig.has_this []
    → all ≡ after first (places_of world method.asm sig.params)
    → option_and_then (λ places. few_arguments (shape result places)) all ≡ shape_with world method sig result
by_arguments world method sig result first all f a =
    ap (option_and_then (λ places. few_arguments (shape result places)))
    (a ∙ ap (λ x. after x (places_of world method.asm sig.params)) f
    ∙ this_first world method sig.has_this (places_of world method.asm sig.params))
    ∙ sym (then_few (with_this world method sig.has_this) result (places_of world method.asm sig.params))

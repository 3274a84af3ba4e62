-- The words of the numbers that an entry is given are its arguments.
use Rattle.std.proofs.Common.{◌≡◌, ◌<◌, ◌≤◌, ℕ, suc, ◌+◌, ◌%◌, ◌^◌, ◌&&◌, not, Bool, true, false, nat_le, ℤ, pos, negsuc, neg_ℤ}
use Rattle.std.proofs.Common.{List, [], ◌∷◌, length, map, Option, Some, None, refl, sym, ap, ◌∙◌, subst, arith, if◌then◌else◌}
use Rattle.std.proofs.Common.{option_and_then, slice_index, int_le}
use Rattle.std.proofs.lemmas.Int.{ints}
use Rattle.std.specs.Int.{w32, w64}
use Rattle.std.specs.Option.{option_map, option_map_or}
use Rattle.std.specs.Cmp.Lexicographic.{pointwise}
use Rattle.cli_assembly.specs.declared.element.Elem.{Elem}
use Rattle.cli_assembly.specs.declared.element.Elem.TheVariants as elems
use Rattle.cli_assembly.specs.declared.flags.TheConstants.{METHOD_STATIC}
use Rattle.cli_assembly.specs.declared.signature.TypeSig.{TypeSig}
use Rattle.cli_assembly.specs.declared.signature.TypeSig.TheVariants as sigs
use Rattle.cli_assembly.specs.declared.signature.MethodSig.{MethodSig}
use Rattle.type_world.specs.declared.identity.MethodId.{MethodId}
use Rattle.type_world.specs.declared.place.Place.{Place}
use Rattle.type_world.specs.declared.place.Place.TheVariants.{Integer}
use Rattle.type_world.specs.declared.place.Shape.{Shape}
use Rattle.type_world.specs.World.{World}
use Rattle.type_world.specs.Members.{signature_of}
use Rattle.type_world.specs.Profile.{few_arguments, method_flag, place_of, places_of, result_of, shape, shape_by}
use Rattle.type_world.specs.Profile.{shape_of, shape_with, with_this}
use Rattle.cil_meaning.specs.Arithmetic.{low_of_int}
use Rattle.type_world.specs.Entries.{can_start, in_range, is_printable, takes_number, takes_numbers}
use Rattle.cil_meaning.specs.Typing.{kind_of}
use Rattle.cil_meaning.specs.State.{I4, I8, no_objects}
use Rattle.cil_meaning.specs.Run.{argument, arguments_by, arguments_of}
use Rattle.cil_interp.specs.Frames.{passed_as}
use Rattle.cil_interp.specs.View.{row, value_of}
use Rattle.rtr_runner.specs.Workers.{low_word}
use Rattle.rtr_runner.proofs.Shaped.{both_left, both_right}

-- ---- a number in the range of an integer type

below : (bound n : ℕ) → int_le (neg_ℤ (pos bound)) (negsuc n) ≡ true → n < bound
below bound n t = omega (arith, ints, t)

narrow : (bound : ℕ) (z : ℤ) → bound ≤ 2 ^ 31 → int_le (neg_ℤ (pos bound)) z ≡ true → low_word z % 2 ^ 32 ≡ low_of_int w32 z
narrow bound (pos n) small t = omega arith
narrow bound (negsuc n) small t =
    let low = below bound n t in
    omega (arith, low, small)

wide : (bound : ℕ) (z : ℤ) → bound ≤ 2 ^ 63 → int_le (neg_ℤ (pos bound)) z ≡ true → low_word z ≡ low_of_int w64 z
wide bound (pos n) small t = refl
wide bound (negsuc n) small t =
    let low = below bound n t in
    omega (arith, low, small)

module _ (world : World) where
  argument_is : (elem : Elem) (z : ℤ) → in_range elem z ≡ true
      → value_of (kind_of (Integer elem)) (low_word z) ≡ argument no_objects world (sigs.Int elem) z
  unfolding in_range
  argument_is elems.Boolean z t = ap I4 (narrow 0 z (omega arith) (both_left _ _ t))
  argument_is elems.Char z t = ap I4 (narrow 0 z (omega arith) (both_left _ _ t))
  argument_is elems.I1 z t = ap I4 (narrow (2 ^ 7) z (omega arith) (both_left _ _ t))
  argument_is elems.U1 z t = ap I4 (narrow 0 z (omega arith) (both_left _ _ t))
  argument_is elems.I2 z t = ap I4 (narrow (2 ^ 15) z (omega arith) (both_left _ _ t))
  argument_is elems.U2 z t = ap I4 (narrow 0 z (omega arith) (both_left _ _ t))
  argument_is elems.I4 z t = ap I4 (narrow (2 ^ 31) z (omega arith) (both_left _ _ t))
  argument_is elems.U4 z t = ap I4 (narrow 0 z (omega arith) (both_left _ _ t))
  argument_is elems.I8 z t = ap I8 (wide (2 ^ 63) z (omega arith) (both_left _ _ t))
  argument_is elems.U8 z t = ap I8 (wide 0 z (omega arith) (both_left _ _ t))

  -- ---- as many words as places, and each is its argument

  split_places : (place : Place) (o : Option (List Place)) (places : List Place)
      → option_map (λ ps. place ∷ ps) o ≡ Some places → (ps : List Place) × (o ≡ Some ps) × (place ∷ ps ≡ places)
  split_places place None places e = absurd (cc)
  split_places place (Some ps) places e = (ps, refl, cc)

  abbrev pub AreGiven : List TypeSig → List ℤ → List ℕ → ℕ → List Place → Type 0
  AreGiven params numbers words at places =
      (length numbers ≡ length places) × (row (map kind_of places) words at ≡ arguments_by no_objects world params numbers)

  given_from : (asm : ℕ) (params : List TypeSig) (numbers : List ℤ) (places : List Place) (words : List ℕ) (at : ℕ)
      → pointwise takes_number params numbers ≡ true → places_of world asm params ≡ Some places
      → ((i : ℕ) → i < length numbers → slice_index words (at + i) ≡ slice_index (map low_word numbers) i)
      → AreGiven params numbers words at places
  unfolding places_of place_of arguments_by
  given_from asm [] [] places words at t e s = let none : [] ≡ places = cc in subst (λ ps. AreGiven [] [] words at ps) none (refl, refl)
  given_from asm [] (z ∷ zs) places words at t e s = absurd (cc)
  given_from asm (sig ∷ params) [] places words at t e s = absurd (cc)
  given_from asm (sigs.Int elem ∷ params) (z ∷ zs) places words at t e s =
      let parts : (ps : List Place) × (places_of world asm params ≡ Some ps) × (Integer elem ∷ ps ≡ places) =
      split_places (Integer elem) (places_of world asm params) places e in
      let here : slice_index words at ≡ low_word z = ap (slice_index words) (omega arith) ∙ s 0 (omega arith) in
      let first : value_of (kind_of (Integer elem)) (slice_index words at) ≡ argument no_objects world (sigs.Int elem) z =
      ap (value_of (kind_of (Integer elem))) here
      ∙ argument_is elem z (both_left (takes_number (sigs.Int elem) z) (pointwise takes_number params zs) t) in
      let rest : AreGiven params zs words (at + 1) parts.0 =
      given_from asm params zs parts.0 words (at + 1) (both_right (takes_number (sigs.Int elem) z) (pointwise takes_number params zs) t)
      parts.1 (λ i l. ap (slice_index words) (omega arith) ∙ s (suc i) (omega (arith, l))) in
      subst (λ ps. AreGiven (sigs.Int elem ∷ params) (z ∷ zs) words at ps) parts.2
      (ap suc rest.0, (λ i. first i ∷ rest.1 i))
  given_from asm (sig ∷ params) (z ∷ zs) places words at t e s = absurd (cc)

  -- ---- an entry that can be started takes its numbers

  pub record Given (entry : MethodId) (numbers : List ℤ) (s : Shape) : Type 0 where
    pub count : length numbers ≡ length s.arguments
    pub arguments_are : passed_as (map low_word numbers) s ≡ arguments_of no_objects world entry numbers

  given_by : (entry : MethodId) (s : Shape) (sig : MethodSig) (numbers : List ℤ) → takes_numbers sig numbers ≡ true
      → shape_by world entry sig ≡ Some s → AreGiven sig.params numbers (map low_word numbers) 0 s.arguments
  given_by entry s sig numbers t h = by_result (result_of world entry.asm sig.ret) h
    where
      no_this : not sig.has_this ≡ true
      no_this =
          both_left (not sig.has_this) (is_printable sig.ret)
          (both_left (not sig.has_this && is_printable sig.ret) (pointwise takes_number sig.params numbers) t)

      fit : pointwise takes_number sig.params numbers ≡ true
      fit = both_right (not sig.has_this && is_printable sig.ret) (pointwise takes_number sig.params numbers) t

      by_this : (b : Bool) → sig.has_this ≡ b → (places : List Place) → with_this world entry sig.has_this places ≡ places
      by_this true q places = absurd (let missed : not true ≡ true = subst (λ b. not b ≡ true) q no_this in cc)
      by_this false q places = ap (λ b. with_this world entry b places) q

      by_few : (r : Option Place) (places : List Place) → places_of world entry.asm sig.params ≡ Some places
          → (b : Bool) → (if b then Some (shape r (with_this world entry sig.has_this places)) else None) ≡ Some s
          → AreGiven sig.params numbers (map low_word numbers) 0 s.arguments
      by_few r places q false g = absurd (cc)
      by_few r places q true g =
          let same : shape r (with_this world entry sig.has_this places) ≡ s = cc in
          subst (λ ps. AreGiven sig.params numbers (map low_word numbers) 0 ps)
          (sym (by_this sig.has_this refl places) ∙ ap (λ x. x.arguments) same)
          (given_from entry.asm sig.params numbers places (map low_word numbers) 0 fit q
          (λ i l. ap (slice_index (map low_word numbers)) (omega arith)))

      by_places : (r : Option Place) (o : Option (List Place)) → places_of world entry.asm sig.params ≡ o
          → option_and_then (λ places. few_arguments (shape r (with_this world entry sig.has_this places))) o ≡ Some s
          → AreGiven sig.params numbers (map low_word numbers) 0 s.arguments
      by_places r None q g = absurd (cc)
      by_places r (Some places) q g = by_few r places q (nat_le (length (with_this world entry sig.has_this places)) 16) g

      by_result : (o : Option (Option Place)) → option_and_then (shape_with world entry sig) o ≡ Some s
          → AreGiven sig.params numbers (map low_word numbers) 0 s.arguments
      by_result None g = absurd (cc)
      by_result (Some r) g = by_places r (places_of world entry.asm sig.params) refl g

  pub given : (entry : MethodId) (numbers : List ℤ) (s : Shape) → can_start world entry numbers ≡ true
      → shape_of world entry ≡ Some s → Given entry numbers s
  unfolding can_start shape_of
  given entry numbers s t h =
      by_signature (signature_of world entry) refl
      (both_right (method_flag world entry METHOD_STATIC)
      (option_map_or (λ sig. takes_numbers sig numbers) (signature_of world entry) false) t) h
    where
      by_signature : (o : Option MethodSig) → signature_of world entry ≡ o → option_map_or (λ sig. takes_numbers sig numbers) o false ≡ true
          → option_and_then (shape_by world entry) o ≡ Some s → Given entry numbers s
      by_signature None q t h = absurd (cc)
      by_signature (Some sig) q t h =
          let are = given_by entry s sig numbers t h in
          record {
            count = are.0;
            arguments_are = are.1 ∙ sym (ap (λ o. option_map_or (λ sig. arguments_by no_objects world sig.params numbers) o []) q);
          }

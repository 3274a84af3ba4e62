-- Arguments that fit their places, one by one: the last one is on top.
use Rattle.std.proofs.Common.{◌≡◌, ℕ, ◌+◌, ◌-◌, ◌<◌, ◌≤◌, ◌&&◌, Bool, true, false, List, [], ◌∷◌, ◌++◌, length}
use Rattle.std.proofs.Common.{Option, Some, None, take, drop, get_or, nat_lt, if◌then◌else◌, refl, ap, ◌∙◌, arith, ltb-true, ltb-false}
use Rattle.std.proofs.lemmas.List.{drop_more, drop_all, take_more, take_all}
use Rattle.cil_meaning.specs.declared.kind.Kind.{Kind}
use Rattle.type_world.specs.declared.place.Place.{Place}
use Rattle.type_world.specs.World.{World}
use Rattle.cil_meaning.specs.Typing.{kind_fits, kind_of, last_first, under_arguments}

last_is_first : (places so_far : List Place) (place : Place) → last_first (places ++ place ∷ []) so_far ≡ place ∷ last_first places so_far
unfolding last_first
last_is_first [] so_far place = refl
last_is_first (first ∷ places) so_far place = last_is_first places (first ∷ so_far) place

module _ (world : World) (arguments : List Place) (stack : List Kind) where
  -- what is left to be asked after the first so many types
  abbrev pub left : ℕ → Option (List Kind)
  left i = under_arguments world (last_first (take (length arguments - i) arguments) []) (drop i stack)

  abbrev pub fits_at : ℕ → Place → Kind → Bool
  fits_at i place kind =
      nat_lt i (length stack)
      && kind_fits world (get_or stack i kind) (kind_of (get_or arguments (length arguments - 1 - i) place))

  asked : (i : ℕ) (place : Place) → i < length arguments → last_first (take (length arguments - i) arguments) []
      ≡ get_or arguments (length arguments - 1 - i) place ∷ last_first (take (length arguments - (i + 1)) arguments) []
  asked i place i_in =
      let at : length arguments - i ≡ (length arguments - 1 - i) + 1 = omega arith in
      let before : length arguments - 1 - i ≡ length arguments - (i + 1) = omega arith in
      let p_in : length arguments - 1 - i < length arguments = omega arith in
      ap (λ n. last_first (take n arguments) []) at
      ∙ ap (λ l. last_first l []) (take_more arguments (length arguments - 1 - i) place p_in)
      ∙ last_is_first (take (length arguments - 1 - i) arguments) [] (get_or arguments (length arguments - 1 - i) place)
      ∙ ap (λ n. get_or arguments (length arguments - 1 - i) place ∷ last_first (take n arguments) []) before

  pub one_more : (i : ℕ) (place : Place) (kind : Kind) → i < length arguments
      → left i ≡ (if fits_at i place kind then left (i + 1) else None)
  unfolding under_arguments
  one_more i place kind i_in =
      ap (λ l. under_arguments world l (drop i stack)) (asked i place i_in)
      ∙ by_test (get_or arguments (length arguments - 1 - i) place) (last_first (take (length arguments - (i + 1)) arguments) [])
      (nat_lt i (length stack)) refl
    where
      by_test : (first : Place) (rest : List Place) (b : Bool) → nat_lt i (length stack) ≡ b
          → under_arguments world (first ∷ rest) (drop i stack)
          ≡ (if b && kind_fits world (get_or stack i kind) (kind_of first) then under_arguments world rest (drop (i + 1) stack) else None)
      by_test first rest true e = ap (under_arguments world (first ∷ rest)) (drop_more stack i kind (ltb-true i (length stack) e))
      by_test first rest false e = ap (under_arguments world (first ∷ rest)) (drop_all i stack (ltb-false i (length stack) e))

  pub none_left : (i : ℕ) → length arguments ≤ i → left i ≡ Some (drop i stack)
  unfolding under_arguments last_first
  none_left i out =
      let none : length arguments - i ≡ 0 = omega arith in
      ap (λ n. under_arguments world (last_first (take n arguments) []) (drop i stack)) none

  pub all_left : left 0 ≡ under_arguments world (last_first arguments []) stack
  all_left =
      let whole : length arguments - 0 ≡ length arguments = omega arith in
      ap (λ n. under_arguments world (last_first (take n arguments) []) stack) whole
      ∙ ap (λ l. under_arguments world (last_first l []) stack) (take_all (length arguments) arguments (omega arith))

-- What is passed is kept, and the lines of the built-in methods.
use Rattle.std.proofs.Common.{◌≡◌, ℕ, zero, suc, ◌+◌, ◌-◌, ◌<◌, ◌==◌, Bool, true, false, ℤ, List, [], ◌∷◌}
use Rattle.std.proofs.Common.{map, Option, Some, None, refl, sym, ap, ◌∙◌, subst, arith, if◌then◌else◌, eqb-true}
use Rattle.std.specs.Option.{option_map, option_and_then}
use Rattle.std.specs.Cmp.Lexicographic.{pointwise}
use Rattle.cli_assembly.specs.declared.element.Elem.{Elem}
use Rattle.cli_assembly.specs.declared.element.Elem.TheVariants as elems
use Rattle.cli_assembly.specs.declared.signature.TypeSig.{TypeSig}
use Rattle.cli_assembly.specs.declared.signature.TypeSig.TheVariants as sigs
use Rattle.cli_assembly.specs.declared.signature.MethodSig.{MethodSig}
use Rattle.cli_assembly.specs.Assemblies.{method_signature}
use Rattle.type_world.specs.declared.identity.MethodId.{MethodId}
use Rattle.cil_meaning.specs.declared.kind.Kind.TheVariants as kinds
use Rattle.cil_meaning.specs.Typing.{kind_of}
use Rattle.type_world.specs.World.{World, assembly_in}
use Rattle.type_world.specs.Members.{BuiltIn, built_in, built_ins, is_built_in, row_in, signature_of}
use Rattle.type_world.specs.declared.place.Place.{Place}
use Rattle.type_world.specs.declared.place.Place.TheVariants.{Integer, Reference}
use Rattle.type_world.specs.declared.place.Shape.{Shape}
use Rattle.type_world.specs.Profile.{if_narrow, is_narrow, place_of, places_of, profile_shape, shape_by, shape_of}
use Rattle.cil_meaning.specs.Arithmetic.{integer_of, is_wide, narrowed}
use Rattle.type_world.specs.Entries.{takes_number, takes_numbers}
use Rattle.cil_meaning.specs.State.{Value, I4, I8, Ref, Store}
use Rattle.cil_meaning.specs.Step.{kept, kept_all, then_kept}
use Rattle.cil_meaning.specs.Run.{arguments_by, line_of, zero_of}
use Rattle.cil_meaning.specs.Soundness.{HasKind, Holds}
use Rattle.type_world.proofs.Bound.{both_right}

-- ---- a value that a place holds is kept by it, and a place begins with one

module _ {R : Type 0} where
  abbrev pub IsKeptBy : Place → Option (Value R) → Type 0
  IsKeptBy place o = (u : Value R) × (o ≡ Some u) × HasKind (kind_of place) u

  abbrev pub AreKeptBy : List Place → Option (List (Value R)) → Type 0
  AreKeptBy places o = (us : List (Value R)) × (o ≡ Some us) × Holds places us

  i4_kept : (b : Bool) (n k : ℕ) → HasKind {R = R} (if b then kinds.I8 else kinds.I4) (I4 n)
      → (u : Value R) × ((if b then None else Some (I4 k)) ≡ Some u) × HasKind (if b then kinds.I8 else kinds.I4) u
  i4_kept true n k h = absurd h
  i4_kept false n k h = (I4 k, refl, tt)

  i8_kept : (b : Bool) (n k : ℕ) → HasKind {R = R} (if b then kinds.I8 else kinds.I4) (I8 n)
      → (u : Value R) × ((if b then Some (I8 k) else None) ≡ Some u) × HasKind (if b then kinds.I8 else kinds.I4) u
  i8_kept true n k h = (I8 k, refl, tt)
  i8_kept false n k h = absurd h

  no_integer : (b : Bool) (r : R) → HasKind (if b then kinds.I8 else kinds.I4) (Ref r) → ⊥
  no_integer true r h = h
  no_integer false r h = h

  pub held_is_kept : (place : Place) (v : Value R) → HasKind (kind_of place) v → IsKeptBy place (kept place v)
  unfolding kept
  held_is_kept (Integer elem) (I4 n) h = i4_kept (is_wide (integer_of elem)) n (narrowed (integer_of elem) n) h
  held_is_kept (Integer elem) (I8 n) h = i8_kept (is_wide (integer_of elem)) n (narrowed (integer_of elem) n) h
  held_is_kept (Integer elem) (Ref r) h = absurd (no_integer (is_wide (integer_of elem)) r h)
  held_is_kept (Reference to) (I4 n) h = absurd h
  held_is_kept (Reference to) (I8 n) h = absurd h
  held_is_kept (Reference to) (Ref r) h = (Ref r, refl, tt)

  both_kept : (place : Place) (places : List Place) (o : Option (Value R)) (os : Option (List (Value R)))
      → IsKeptBy place o → AreKeptBy places os → AreKeptBy (place ∷ places) (then_kept o os)
  both_kept place places o os one rest =
      (one.0 ∷ rest.0, ap (λ x. then_kept x os) one.1 ∙ ap (option_map (λ vs. one.0 ∷ vs)) rest.1, (one.2, rest.2))

  pub held_are_kept : (places : List Place) (values : List (Value R)) → Holds places values → AreKeptBy places (kept_all places values)
  unfolding kept_all
  held_are_kept [] [] h = ([], refl, tt)
  held_are_kept [] (v ∷ values) h = absurd h
  held_are_kept (place ∷ places) [] h = absurd h
  held_are_kept (place ∷ places) (v ∷ values) h =
      both_kept place places (kept place v) (kept_all places values) (held_is_kept place v h.0) (held_are_kept places values h.1)

integer_held : (R : Type 0) (b : Bool) (n k : ℕ) → HasKind {R = R} (if b then kinds.I8 else kinds.I4) (if b then I8 n else I4 k)
integer_held R true n k = tt
integer_held R false n k = tt

module _ {R H : Type 0} (store : Store R H) (world : World) where
  zero_held : (place : Place) → HasKind (kind_of place) (zero_of store world place)
  zero_held (Integer elem) = integer_held R (is_wide (integer_of elem)) 0 0
  zero_held (Reference to) = tt

  pub zeros_held : (places : List Place) → Holds places (map (zero_of store world) places)
  zeros_held [] = tt
  zeros_held (place ∷ places) = (zero_held place, zeros_held places)

  -- ---- the numbers that an entry is given are held by its places

  split_places : (place : Place) (o : Option (List Place)) (places : List Place)
      → option_map (λ ps. place ∷ ps) o ≡ Some places → (ps : List Place) × (o ≡ Some ps) × (place ∷ ps ≡ places)
  split_places place None places e = absurd (cc)
  split_places place (Some ps) places e = (ps, refl, cc)

  pub numbers_held : (asm : ℕ) (params : List TypeSig) (numbers : List ℤ) (places : List Place)
      → pointwise takes_number params numbers ≡ true → places_of world asm params ≡ Some places
      → Holds places (arguments_by store world params numbers)
  unfolding places_of place_of arguments_by
  numbers_held asm [] [] places t e = let none : [] ≡ places = cc in subst (λ ps. Holds {R = R} ps []) none tt
  numbers_held asm [] (z ∷ zs) places t e = absurd (cc)
  numbers_held asm (sig ∷ params) [] places t e = absurd (cc)
  numbers_held asm (sigs.Int elem ∷ params) (z ∷ zs) places t e =
      let parts : (ps : List Place) × (places_of world asm params ≡ Some ps) × (Integer elem ∷ ps ≡ places) =
      split_places (Integer elem) (places_of world asm params) places e in
      subst (λ ps. Holds ps (arguments_by store world (sigs.Int elem ∷ params) (z ∷ zs))) parts.2 (
        integer_held R (is_wide (integer_of elem)) _ _,
        numbers_held asm params zs parts.0 (both_right (takes_number (sigs.Int elem) z) (pointwise takes_number params zs) t) parts.1,
      )
  numbers_held asm (sig ∷ params) (z ∷ zs) places t e = absurd (cc)

  -- ---- the built-in methods, row by row

  abbrev AllOf : (ℕ → BuiltIn → Type 0) → ℕ → List BuiltIn → Type 0
  AllOf C k [] = Unit {0}
  AllOf C k (b ∷ bs) = C k b × AllOf C (k + 1) bs

  none_at_zero : (bs : List BuiltIn) → row_in bs 0 ≡ None
  none_at_zero [] = refl
  none_at_zero (b ∷ bs) = none_at_zero bs

  from_one : (C : ℕ → BuiltIn → Type 0) (bs : List BuiltIn) (k n row : ℕ) (b : BuiltIn) → AllOf C k bs
      → row_in bs row ≡ Some b → 0 < row → n + 1 ≡ k + row → C n b
  from_one C [] k n row b all e some same = absurd (cc)
  from_one C (c ∷ bs) k n row b all e some same =
      by_row (λ e1 some1 same1. from_one C bs (k + 1) n (row - 1) b all.1 e1 some1 same1) (row == 1) refl e
    where
      by_row : (row_in bs (row - 1) ≡ Some b → 0 < row - 1 → n + 1 ≡ k + 1 + (row - 1) → C n b) → (t : Bool)
          → (row == 1) ≡ t → (if t then Some c else row_in bs (row - 1)) ≡ Some b → C n b
      by_row rest true q h =
          let one : row ≡ 1 = eqb-true row 1 q in
          let here : k ≡ n = omega (arith, one, same) in
          let is : c ≡ b = cc in
          subst (λ x. C n x) is (subst (λ m. C m c) here all.0)
      by_row rest false q h = rest h (above (row - 1) refl h) (omega (arith, some, same))
        where
          above : (m : ℕ) → row - 1 ≡ m → row_in bs (row - 1) ≡ Some b → 0 < row - 1
          above zero z f = let none : row_in bs (row - 1) ≡ None = ap (row_in bs) z ∙ none_at_zero bs in absurd (cc)
          above (suc m) z f = omega (arith, z)

  some_row : (row : ℕ) (b : BuiltIn) → row_in built_ins row ≡ Some b → 0 < row
  some_row zero b e = let none : row_in built_ins 0 ≡ None = none_at_zero built_ins in absurd (cc)
  some_row (suc n) b e = omega arith

  by_built_in : (C : ℕ → BuiltIn → Type 0) (row : ℕ) (b : BuiltIn) → AllOf C 1 built_ins → built_in row ≡ Some b → C row b
  unfolding built_in
  by_built_in C row b all e = from_one C built_ins 1 row row b all e (some_row row b e) (omega arith)

  -- one whose shape is in the profile has no result, and a line for each list of what its places hold
  abbrev pub Prints : ℕ → Shape → Type 0
  Prints row s =
      (s.result ≡ None) × ((passed : List (Value R)) → Holds s.arguments passed
      → (line : List ℕ) × (line_of store world row passed ≡ Some line))

  if_some : {X : Type 0} (b : Bool) (x y : X) → (if b then Some x else None) ≡ Some y → x ≡ y
  if_some true x y e = cc
  if_some false x y e = absurd (cc)

  -- the line of a row that takes one integer
  abbrev OneLine : ℕ → (ℕ → Value R) → Type 0
  OneLine row make = (n : ℕ) → (line : List ℕ) × (line_of store world row (make n ∷ []) ≡ Some line)

  one_i4 : (row : ℕ) → OneLine row I4 → (passed : List (Value R)) → Holds (Integer elems.I4 ∷ []) passed
      → (line : List ℕ) × (line_of store world row passed ≡ Some line)
  one_i4 row each (I4 n ∷ []) h = each n
  one_i4 row each passed h = absurd (assumption)

  one_u4 : (row : ℕ) → OneLine row I4 → (passed : List (Value R)) → Holds (Integer elems.U4 ∷ []) passed
      → (line : List ℕ) × (line_of store world row passed ≡ Some line)
  one_u4 row each (I4 n ∷ []) h = each n
  one_u4 row each passed h = absurd (assumption)

  one_i8 : (row : ℕ) → OneLine row I8 → (passed : List (Value R)) → Holds (Integer elems.I8 ∷ []) passed
      → (line : List ℕ) × (line_of store world row passed ≡ Some line)
  one_i8 row each (I8 n ∷ []) h = each n
  one_i8 row each passed h = absurd (assumption)

  one_u8 : (row : ℕ) → OneLine row I8 → (passed : List (Value R)) → Holds (Integer elems.U8 ∷ []) passed
      → (line : List ℕ) × (line_of store world row passed ≡ Some line)
  one_u8 row each (I8 n ∷ []) h = each n
  one_u8 row each passed h = absurd (assumption)

  none_passed : (row : ℕ) → (line : List ℕ) × (line_of store world row [] ≡ Some line) → (passed : List (Value R))
      → Holds [] passed → (line : List ℕ) × (line_of store world row passed ≡ Some line)
  none_passed row line [] h = line
  none_passed row line (v ∷ passed) h = absurd h

  printed_if : (row : ℕ) (b : Bool) (x s : Shape) → (if b then Some x else None) ≡ Some s → Prints row x → Prints row s
  printed_if row b x s e p = subst (λ y. Prints row y) (if_some b x s e) p

  abbrev CallPrints : MethodId → ℕ → BuiltIn → Type 0
  CallPrints id row b = (s : Shape) → option_and_then (if_narrow world id) (shape_by world id b.sig) ≡ Some s → Prints row s

  calls_print : (id : MethodId) → AllOf (CallPrints id) 1 built_ins
  unfolding is_narrow place_of places_of
  calls_print id = (
    λ s e. absurd (cc),
    (
      λ s e. printed_if 2 _ _ s e (refl, none_passed 2 (_, refl)),
      (
        λ s e. printed_if 3 _ _ s e (refl, one_i4 3 (λ n. (_, refl))),
        (
          λ s e. printed_if 4 _ _ s e (refl, one_u4 4 (λ n. (_, refl))),
          (
            λ s e. printed_if 5 _ _ s e (refl, one_i8 5 (λ n. (_, refl))),
            (
              λ s e. printed_if 6 _ _ s e (refl, one_u8 6 (λ n. (_, refl))),
              (
                λ s e. absurd (cc),
                (λ s e. absurd (cc), tt),
              ),
            ),
          ),
        ),
      ),
    ),
  )

  pub call_prints : (target : MethodId) (s : Shape) → is_built_in target ≡ true → profile_shape world target ≡ Some s → Prints target.row s
  unfolding profile_shape shape_of signature_of
  call_prints target s here e =
      by_row (built_in target.row) refl
      (subst (λ t. option_and_then (if_narrow world target)
      (option_and_then (shape_by world target)
      (if t then option_map (λ b. b.sig) (built_in target.row) else method_signature (assembly_in world target.asm)
      target.row)) ≡ Some s) here e)
    where
      by_row : (o : Option BuiltIn) → built_in target.row ≡ o
          → option_and_then (if_narrow world target)
          (option_and_then (shape_by world target) (option_map (λ b. b.sig) o)) ≡ Some s → Prints target.row s
      by_row None q h = absurd (cc)
      by_row (Some b) q h = by_built_in (CallPrints target) target.row b (calls_print target) q s h

  -- and one that takes some numbers has a line for them
  abbrev HasLine : ℕ → List TypeSig → List ℤ → Type 0
  HasLine row params numbers = (line : List ℕ) × (line_of store world row (arguments_by store world params numbers) ≡ Some line)

  abbrev EntryPrints : ℕ → BuiltIn → Type 0
  EntryPrints row b = (numbers : List ℤ) → takes_numbers b.sig numbers ≡ true → HasLine row b.sig.params numbers

  none_given : (row : ℕ) → HasLine row [] [] → (numbers : List ℤ) → pointwise takes_number [] numbers ≡ true → HasLine row [] numbers
  none_given row line [] t = line
  none_given row line (z ∷ zs) t = absurd (cc)

  one_given : (row : ℕ) (elem : Elem) → ((z : ℤ) → HasLine row (sigs.Int elem ∷ []) (z ∷ [])) → (numbers : List ℤ)
      → pointwise takes_number (sigs.Int elem ∷ []) numbers ≡ true → HasLine row (sigs.Int elem ∷ []) numbers
  one_given row elem each [] t = absurd (cc)
  one_given row elem each (z ∷ []) t = each z
  one_given row elem each (z ∷ y ∷ zs) t = absurd (let missed : false ≡ true = both_right (takes_number (sigs.Int elem) z) false t in cc)

  entries_print : AllOf EntryPrints 1 built_ins
  unfolding arguments_by
  entries_print = (
    λ numbers t. absurd (cc),
    (
      none_given 2 (_, refl),
      (
        one_given 3 elems.I4 (λ z. (_, refl)),
        (
          one_given 4 elems.U4 (λ z. (_, refl)),
          (
            one_given 5 elems.I8 (λ z. (_, refl)),
            (
              one_given 6 elems.U8 (λ z. (_, refl)),
              (
                (λ numbers t. absurd (no_text numbers t)),
                (λ numbers t. absurd (cc), tt),
              ),
            ),
          ),
        ),
      ),
    ),
  )
    where
      no_text : (numbers : List ℤ) → pointwise takes_number (sigs.Str ∷ []) numbers ≡ true → ⊥
      no_text [] t = cc
      no_text (z ∷ zs) t = cc

  pub entry_prints : (entry : MethodId) (sig : MethodSig) (numbers : List ℤ) → is_built_in entry ≡ true
      → signature_of world entry ≡ Some sig → takes_numbers sig numbers ≡ true → HasLine entry.row sig.params numbers
  unfolding signature_of
  entry_prints entry sig numbers here e t =
      by_row (built_in entry.row) refl
      (subst (λ b. (if b then option_map (λ b. b.sig) (built_in entry.row) else method_signature
      (assembly_in world entry.asm) entry.row) ≡ Some sig) here e)
    where
      by_row : (o : Option BuiltIn) → built_in entry.row ≡ o → option_map (λ b. b.sig) o ≡ Some sig → HasLine entry.row sig.params numbers
      by_row None q h = absurd (cc)
      by_row (Some b) q h =
          let is : b.sig ≡ sig = cc in
          subst (λ x. HasLine entry.row x.params numbers) is
          (by_built_in EntryPrints entry.row b entries_print q numbers (subst (λ x. takes_numbers x numbers ≡ true) (sym is) t))

-- Types that fit one another, and the nearest common base: it fits whatever both fit, and widening to it is done only so often.
use Rattle.std.proofs.Common.{◌≡◌, ◌⊎◌, inl, inr, ℕ, zero, suc, ◌+◌, ◌*◌, ◌<◌, ◌≤◌, ◌&&◌, ◌||◌, Bool, true, false}
use Rattle.std.proofs.Common.{List, [], ◌∷◌, length, find, Option, Some, None, refl, sym, ap, ◌∙◌, subst, arith}
use Rattle.std.proofs.Common.{cond, suc-mul, add_comm}
use Rattle.std.specs.Option.{option_map_or}
use Rattle.std.specs.List.{list_any}
use Rattle.metadata.specs.declared.schema.Table.TheVariants as tables
use Rattle.type_world.specs.declared.identity.TypeId.{TypeId}
use Rattle.type_world.specs.declared.identity.TypeId.TheVariants as types
use Rattle.cil_meaning.specs.declared.kind.Kind.{Kind}
use Rattle.cil_meaning.specs.declared.kind.Kind.TheVariants as kinds
use Rattle.type_world.specs.World.{World, rows_of_world}
use Rattle.type_world.specs.declared.base.Base.{Base}
use Rattle.type_world.specs.declared.base.Base.TheVariants.{NoBase, Extends, UnresolvedBase}
use Rattle.type_world.specs.Resolution.{base_of, chain_of, chain_within, fits, then_base, type_eq}
use Rattle.type_world.specs.Resolution.{common_base}
use Rattle.cil_meaning.specs.Typing.{kind_fits, stack_fits, widen, widen_all}
use Rattle.type_world.proofs.Bound.{both_left, both_right}
use Rattle.type_world.proofs.Chains.{Has, Reaches, Up, chain_first, chain_reaches, classes_of, count_of, in_chain}
use Rattle.type_world.proofs.Chains.{is_class, reaches_more, type_eqs, type_is, up_of}

-- ---- how many of a list pass a test

abbrev bit : Bool → ℕ
bit true = 1
bit false = 0

counted : (TypeId → Bool) → List TypeId → ℕ
counted p [] = 0
counted p (x ∷ list) = bit (p x) + counted p list

counted_at_most : (p : TypeId → Bool) (list : List TypeId) → counted p list ≤ length list
unfolding counted
counted_at_most p [] = omega arith
counted_at_most p (x ∷ list) = by_first (counted_at_most p list) (p x)
  where
    by_first : counted p list ≤ length list → (b : Bool) → bit b + counted p list ≤ length (x ∷ list)
    by_first rest true = omega (arith, rest)
    by_first rest false = omega (arith, rest)

one_or_none : (a b : Bool) → (a ≡ true → b ≡ true) → bit a ≤ bit b
one_or_none true true h = omega arith
one_or_none true false h = absurd (let missed = h refl in cc)
one_or_none false true h = omega arith
one_or_none false false h = omega arith

counted_no_more : (p q : TypeId → Bool) (list : List TypeId) → ((x : TypeId) → p x ≡ true → q x ≡ true) → counted p list ≤ counted q list
unfolding counted
counted_no_more p q [] h = omega arith
counted_no_more p q (x ∷ list) h = omega (arith, one_or_none (p x) (q x) (h x), counted_no_more p q list h)

counted_less : (p q : TypeId → Bool) (list : List TypeId) (of : TypeId) → ((x : TypeId) → p x ≡ true → q x ≡ true)
    → Has list of → p of ≡ false → q of ≡ true → counted p list < counted q list
unfolding counted
counted_less p q [] of h has missed hit = absurd (cc)
counted_less p q (x ∷ list) of h has missed hit = by_first (λ g. counted_less p q list of h g missed hit) (type_eq of x) refl has
  where
    by_first : (Has list of → counted p list < counted q list) → (b : Bool) → type_eq of x ≡ b
        → (b || list_any (type_eq of) list) ≡ true → bit (p x) + counted p list < bit (q x) + counted q list
    by_first rest true e g =
        let here : of ≡ x = type_is of x e in
        let none : bit (p x) ≡ 0 = ap bit (subst (λ y. p y ≡ false) here missed) in
        let one : bit (q x) ≡ 1 = ap bit (subst (λ y. q y ≡ true) here hit) in
        omega (arith, none, one, counted_no_more p q list h)
    by_first rest false e g = omega (arith, one_or_none (p x) (q x) (h x), rest g)

module _ (world : World) where
  -- ---- fits

  abbrev above : TypeId → TypeId → Bool
  above of to = list_any (type_eq to) (chain_of world of)

  abbrev Fits : TypeId → TypeId → Type 0
  Fits of to = (to ≡ types.Object) ⊎ Reaches world of to

  fits_by : (of to : TypeId) → fits world of to ≡ true → Fits of to
  unfolding fits
  fits_by of to e = by_object (type_eq to types.Object) refl e
    where
      by_object : (b : Bool) → type_eq to types.Object ≡ b → (b || above of to) ≡ true → Fits of to
      by_object true q h = inl (type_is to types.Object q)
      by_object false q h = inr (chain_reaches world of to h)

  or_right : (a b : Bool) → b ≡ true → (a || b) ≡ true
  or_right true b e = refl
  or_right false b e = e

  fits_so : (of to : TypeId) → Fits of to → fits world of to ≡ true
  unfolding fits
  fits_so of to (inl e) = ap (λ b. b || above of to) (type_eqs to types.Object e)
  fits_so of to (inr r) = or_right (type_eq to types.Object) (above of to) (in_chain world of to r)

  -- nothing is above System.Object
  top : (n : ℕ) (to : TypeId) → Up world n types.Object to → to ≡ types.Object
  unfolding base_of
  top zero to u = sym u
  top (suc n) to u = absurd (let e = u.1 in cc)

  itself : (of : TypeId) → Reaches world of of
  itself of = record { steps = 0; up = refl }

  fits_itself : (of : TypeId) → fits world of of ≡ true
  fits_itself of = fits_so of of (inr (itself of))

  fits_object : (of : TypeId) → fits world of types.Object ≡ true
  fits_object of = fits_so of types.Object (inl refl)

  fits_more : (of mid to : TypeId) → fits world of mid ≡ true → fits world mid to ≡ true → fits world of to ≡ true
  fits_more of mid to a b = by_second (fits_by mid to b)
    where
      by_first : Fits of mid → Reaches world mid to → Fits of to
      by_first (inl e) r = let u : Up world r.steps types.Object to = subst (λ x. Up world r.steps x to) e r.up in inl (top r.steps to u)
      by_first (inr s) r = inr (reaches_more world of mid to s r)

      by_second : Fits mid to → fits world of to ≡ true
      by_second (inl e) = fits_so of to (inl e)
      by_second (inr r) = fits_so of to (by_first (fits_by of mid a) r)

  -- ---- types on the stack

  pub kind_itself : (k : Kind) → kind_fits world k k ≡ true
  unfolding kind_fits
  kind_itself kinds.I4 = refl
  kind_itself kinds.I8 = refl
  kind_itself kinds.Null = refl
  kind_itself (kinds.Ref of) = fits_itself of

  pub kind_more : (k l m : Kind) → kind_fits world k l ≡ true → kind_fits world l m ≡ true → kind_fits world k m ≡ true
  unfolding kind_fits
  kind_more kinds.I4 kinds.I4 m a b = b
  kind_more kinds.I8 kinds.I8 m a b = b
  kind_more kinds.Null kinds.Null m a b = b
  kind_more kinds.Null (kinds.Ref to) (kinds.Ref up) a b = refl
  kind_more (kinds.Ref of) (kinds.Ref to) (kinds.Ref up) a b = fits_more of to up a b
  kind_more k l m a b = absurd (cc)

  pub stack_itself : (ks : List Kind) → stack_fits world ks ks ≡ true
  stack_itself [] = refl
  stack_itself (k ∷ ks) = ap (λ b. b && stack_fits world ks ks) (kind_itself k) ∙ stack_itself ks

  pub both : (a b : Bool) → a ≡ true → b ≡ true → (a && b) ≡ true
  both true b e f = f
  both false b e f = absurd (cc)

  pub stack_more : (ks ls ms : List Kind) → stack_fits world ks ls ≡ true → stack_fits world ls ms ≡ true → stack_fits world ks ms ≡ true
  stack_more [] [] ms a b = b
  stack_more (k ∷ ks) (l ∷ ls) (m ∷ ms) a b =
      both (kind_fits world k m) (stack_fits world ks ms)
      (kind_more k l m (both_left (kind_fits world k l) (stack_fits world ks ls) a)
      (both_left (kind_fits world l m) (stack_fits world ls ms) b))
      (stack_more ks ls ms (both_right (kind_fits world k l) (stack_fits world ks ls) a)
      (both_right (kind_fits world l m) (stack_fits world ls ms) b))
  stack_more ks ls ms a b = absurd (cc)

  pub same_length : (ks ls : List Kind) → stack_fits world ks ls ≡ true → length ks ≡ length ls
  same_length [] [] e = refl
  same_length [] (l ∷ ls) e = absurd (cc)
  same_length (k ∷ ks) [] e = absurd (cc)
  same_length (k ∷ ks) (l ∷ ls) e = let rest =
      same_length ks ls (both_right (kind_fits world k l) (stack_fits world ks ls) e) in omega (arith, rest)

  -- ---- how far a type is below System.Object

  height : TypeId → ℕ
  height types.Object = 0
  height of = suc (counted (above of) (classes_of world))

  height_at_most : (of : TypeId) → height of < rows_of_world world tables.TypeDef + 2
  unfolding height
  height_at_most types.Object = omega arith
  height_at_most of = let most = counted_at_most (above of) (classes_of world) in let all = count_of world in omega (arith, most, all)

  abbrev IsObject : TypeId → Type 0
  IsObject of = of ≡ types.Object

  object_or_not : (of : TypeId) → IsObject of ⊎ (height of ≡ suc (counted (above of) (classes_of world)))
  unfolding height
  object_or_not types.Object = inl refl
  object_or_not of = inr refl

  -- a type that is above another one, and from which that one is not reached, is less far from it
  lower : (of to : TypeId) → Reaches world of to → above to of ≡ false → (base : TypeId)
      → base_of world of ≡ Extends base → height to < height of
  unfolding height base_of
  lower of to r missed base e = by_of (object_or_not of)
    where
      fewer : counted (above to) (classes_of world) < counted (above of) (classes_of world)
      fewer = counted_less (above to) (above of) (classes_of world) of
          (λ x h. in_chain world of x (reaches_more world of to x r (chain_reaches world to x h)))
          (is_class world of base e) missed (in_chain world of of (itself of))

      by_to : height of ≡ suc (counted (above of) (classes_of world))
          → IsObject to ⊎ (height to ≡ suc (counted (above to) (classes_of world))) → height to < height of
      by_to h (inl o) = let none : height to ≡ 0 = ap height o in omega (arith, h, none)
      by_to h (inr t) = omega (arith, h, t, fewer)

      by_of : IsObject of ⊎ (height of ≡ suc (counted (above of) (classes_of world))) → height to < height of
      by_of (inl o) = absurd (no_class of o base e)
        where
          no_class : (of : TypeId) → IsObject of → (base : TypeId) → base_of world of ≡ Extends base → ⊥
          no_class of o base e = let f : base_of world types.Object ≡ Extends base = subst (λ x. base_of world x ≡ Extends base) o e in cc
      by_of (inr h) = by_to h (object_or_not to)

  -- ---- the nearest common base

  -- it is reached from both, or it is System.Object
  found_in : (test : TypeId → Bool) (list : List TypeId) (to : TypeId) → find test list ≡ Some to
      → (test to ≡ true) × (list_any (type_eq to) list ≡ true)
  found_in test [] to e = absurd (cc)
  found_in test (x ∷ list) to e = by_first (λ g. found_in test list to g) (test x) refl e
    where
      by_first : (find test list ≡ Some to → (test to ≡ true) × (list_any (type_eq to) list ≡ true)) → (b : Bool)
          → test x ≡ b → cond b (Some x) (find test list) ≡ Some to
          → (test to ≡ true) × ((type_eq to x || list_any (type_eq to) list) ≡ true)
      by_first rest true q h =
          let same : x ≡ to = cc in
          (subst (λ y. test y ≡ true) same q, ap (λ b. b || list_any (type_eq to) list) (type_eqs to x (sym same)))
      by_first rest false q h = let r = rest h in (r.0, or_right (type_eq to x) _ r.1)

  abbrev tail_of : TypeId → List TypeId
  tail_of of = then_base (chain_within (rows_of_world world tables.TypeDef) world) (base_of world of)

  tail_reaches : (of to : TypeId) → list_any (type_eq to) (tail_of of) ≡ true
      → (base : TypeId) × (base_of world of ≡ Extends base) × Reaches world base to
  tail_reaches of to h = by_base (base_of world of) refl h
    where
      by_base : (b : Base) → base_of world of ≡ b
          → list_any (type_eq to) (then_base (chain_within (rows_of_world world tables.TypeDef) world) b) ≡ true
          → (base : TypeId) × (base_of world of ≡ Extends base) × Reaches world base to
      by_base (Extends base) q g = (base, q, up_of world (rows_of_world world tables.TypeDef) base to g)
      by_base NoBase q g = absurd (cc)
      by_base UnresolvedBase q g = absurd (cc)

  object_tail : (of : TypeId) → IsObject of → tail_of of ≡ []
  unfolding base_of
  object_tail of o = let none : base_of world of ≡ NoBase =
      ap (base_of world) o in ap (then_base (chain_within (rows_of_world world tables.TypeDef) world)) none

  abbrev base_from : Option TypeId → TypeId
  base_from found = option_map_or (λ base. base) found types.Object

  common_is : (of other : TypeId)
      → common_base world of other ≡ base_from (cond (above other of) (Some of) (find (above other) (tail_of of)))
  common_is of other = ap (λ chain. base_from (find (above other) chain)) (chain_first world of)

  -- it is the type itself, which the other one fits, or nearer to System.Object
  Nearer : TypeId → TypeId → TypeId → Type 0
  Nearer of other base = ((base ≡ of) × (fits world other of ≡ true)) ⊎ (height base < height of)

  common_nearer : (of other : TypeId) → Nearer of other (common_base world of other)
  unfolding Nearer height
  common_nearer of other = subst (λ base. Nearer of other base) (sym (common_is of other)) (by_test (above other of) refl)
    where
      by_found : above other of ≡ false → height of ≡ suc (counted (above of) (classes_of world)) → (f : Option TypeId)
          → find (above other) (tail_of of) ≡ f → Nearer of other (base_from f)
      by_found missed h None q = inr (omega (arith, h))
      by_found missed h (Some to) q =
          let found : (above other to ≡ true) × (list_any (type_eq to) (tail_of of) ≡ true) = found_in (above other) (tail_of of) to q in
          let up : (base : TypeId) × (base_of world of ≡ Extends base) × Reaches world base to = tail_reaches of to found.1 in
          inr (lower of to (reaches_more world of up.0 to (record { steps = 1; up = (up.0, up.1, refl) }) up.2)
          (not_back (above to of) refl found.0) up.0 up.1)
        where
          not_back : (b : Bool) → above to of ≡ b → above other to ≡ true → above to of ≡ false
          not_back false e f = e
          not_back true e f =
              absurd (let hit : above other of
              ≡ true =
              in_chain world other of (reaches_more world other to of (chain_reaches world other to f) (chain_reaches world to of e)) in cc)

      by_object : above other of ≡ false → IsObject of ⊎ (height of ≡ suc (counted (above of) (classes_of world)))
          → Nearer of other (base_from (find (above other) (tail_of of)))
      by_object missed (inl o) = inl (ap (λ list. base_from (find (above other) list)) (object_tail of o) ∙ sym o, fits_so other of (inl o))
      by_object missed (inr h) = by_found missed h (find (above other) (tail_of of)) refl

      by_test : (b : Bool) → above other of ≡ b → Nearer of other (base_from (cond b (Some of) (find (above other) (tail_of of))))
      by_test true e = inl (refl, fits_so other of (inr (chain_reaches world other of e)))
      by_test false e = by_object e (object_or_not of)

  -- from it, whatever is reached from both is reached
  first_reaches : (test : TypeId → Bool) (n : ℕ) (of to : TypeId) → test to ≡ true
      → list_any (type_eq to) (chain_within n world of) ≡ true
      → (first : TypeId) × (find test (chain_within n world of) ≡ Some first) × Reaches world first to
  unfolding chain_within
  first_reaches test zero of to t h = absurd (cc)
  first_reaches test (suc n) of to t h = by_test (λ base g. first_reaches test n base to t g) (test of) refl
    where
      by_base : ((base : TypeId) → list_any (type_eq to) (chain_within n world base) ≡ true
          → (first : TypeId) × (find test (chain_within n world base) ≡ Some first) × Reaches world first to)
          → (b : Base) → list_any (type_eq to) (then_base (chain_within n world) b) ≡ true
          → (first : TypeId) × (find test (then_base (chain_within n world) b) ≡ Some first) × Reaches world first to
      by_base rest (Extends base) g = rest base g
      by_base rest NoBase g = absurd (cc)
      by_base rest UnresolvedBase g = absurd (cc)

      by_type : (b : Bool) → type_eq to of ≡ b → test of ≡ false
          → (b || list_any (type_eq to) (then_base (chain_within n world) (base_of world of))) ≡ true
          → list_any (type_eq to) (then_base (chain_within n world) (base_of world of)) ≡ true
      by_type true q missed g =
          absurd (let same : to ≡ of = type_is to of q in let hit : test of ≡ true = subst (λ x. test x ≡ true) same t in cc)
      by_type false q missed g = g

      by_test : ((base : TypeId) → list_any (type_eq to) (chain_within n world base) ≡ true
          → (first : TypeId) × (find test (chain_within n world base) ≡ Some first) × Reaches world first to)
          → (b : Bool) → test of ≡ b
          → (first : TypeId) × (cond b (Some of) (find test (then_base (chain_within n world) (base_of world of)))
          ≡ Some first) × Reaches world first to
      by_test rest true q = (of, refl, chain_up h)
        where
          chain_up : (type_eq to of || list_any (type_eq to) (then_base (chain_within n world) (base_of world of)))
              ≡ true → Reaches world of to
          chain_up g = up_of world (suc n) of to g
      by_test rest false q = by_base rest (base_of world of) (by_type (type_eq to of) refl q h)

  common_least : (of other to : TypeId) → fits world of to ≡ true → fits world other to ≡ true
      → fits world (common_base world of other) to ≡ true
  common_least of other to a b = by_both (fits_by of to a) (fits_by other to b)
    where
      by_both : Fits of to → Fits other to → fits world (common_base world of other) to ≡ true
      by_both (inl o) g = fits_so (common_base world of other) to (inl o)
      by_both (inr r) (inl o) = fits_so (common_base world of other) to (inl o)
      by_both (inr r) (inr s) =
          let first : (first : TypeId) × (find (above other) (chain_of world of) ≡ Some first) × Reaches world first to =
          first_reaches (above other) (rows_of_world world tables.TypeDef + 1) of to (in_chain world other to s) (in_chain world of to r) in
          subst (λ base. fits world base to ≡ true) (sym (ap base_from first.1)) (fits_so first.0 to (inr first.2))

  -- ---- widening types on the stack

  abbrev pub most : ℕ
  most = rows_of_world world tables.TypeDef + 2

  weight : Kind → ℕ
  weight kinds.I4 = 0
  weight kinds.I8 = 0
  weight kinds.Null = most
  weight (kinds.Ref of) = height of

  weight_at_most : (k : Kind) → weight k ≤ most
  unfolding weight
  weight_at_most kinds.I4 = omega arith
  weight_at_most kinds.I8 = omega arith
  weight_at_most kinds.Null = omega arith
  weight_at_most (kinds.Ref of) = omega (arith, height_at_most of)

  -- it is the type itself, which the other one fits, or a lighter one
  abbrev WidensKind : Kind → Kind → Kind → Type 0
  WidensKind k l m = ((m ≡ k) × (kind_fits world l k ≡ true)) ⊎ (weight m < weight k)

  reference_widens : (of other : TypeId) → Nearer of other (common_base world of other)
      → WidensKind (kinds.Ref of) (kinds.Ref other) (kinds.Ref (common_base world of other))
  unfolding Nearer weight kind_fits
  reference_widens of other (inl same) = inl (ap kinds.Ref same.0, same.1)
  reference_widens of other (inr less) = inr less

  kind_widens : (t k l : Kind) → kind_fits world k t ≡ true → kind_fits world l t ≡ true → WidensKind k l (widen world k l)
  unfolding kind_fits weight
  kind_widens kinds.I4 kinds.I4 kinds.I4 a b = inl (refl, refl)
  kind_widens kinds.I8 kinds.I8 kinds.I8 a b = inl (refl, refl)
  kind_widens kinds.Null kinds.Null kinds.Null a b = inl (refl, refl)
  kind_widens (kinds.Ref to) kinds.Null kinds.Null a b = inl (refl, refl)
  kind_widens (kinds.Ref to) kinds.Null (kinds.Ref other) a b = inr (omega (arith, height_at_most other))
  kind_widens (kinds.Ref to) (kinds.Ref of) kinds.Null a b = inl (refl, refl)
  kind_widens (kinds.Ref to) (kinds.Ref of) (kinds.Ref other) a b = reference_widens of other (common_nearer of other)
  kind_widens t k l a b = absurd (cc)

  kind_least : (k l t : Kind) → kind_fits world k t ≡ true → kind_fits world l t ≡ true → kind_fits world (widen world k l) t ≡ true
  unfolding kind_fits
  kind_least kinds.I4 l t a b = a
  kind_least kinds.I8 l t a b = a
  kind_least kinds.Null l t a b = b
  kind_least (kinds.Ref of) (kinds.Ref other) (kinds.Ref to) a b = common_least of other to a b
  kind_least (kinds.Ref of) kinds.Null t a b = a
  kind_least (kinds.Ref of) kinds.I4 t a b = a
  kind_least (kinds.Ref of) kinds.I8 t a b = a
  kind_least k l t a b = absurd (cc)

  -- ---- and whole stacks

  pub weights : List Kind → ℕ
  weights [] = 0
  weights (k ∷ ks) = weight k + weights ks

  pub weights_of_none : weights [] ≡ 0
  unfolding weights
  weights_of_none = refl

  pub weights_at_most : (ks : List Kind) → weights ks ≤ length ks * most
  unfolding weights
  weights_at_most [] = omega arith
  weights_at_most (k ∷ ks) =
      let more : length (k ∷ ks) * most ≡ most + length ks * most = suc-mul (length ks) most ∙ add_comm (length ks * most) most in
      omega (arith, weight_at_most k, weights_at_most ks, more)

  pub Widens : List Kind → List Kind → List Kind → Type 0
  Widens ks ls ms = ((ms ≡ ks) × (stack_fits world ls ks ≡ true)) ⊎ (weights ms < weights ks)

  pub widens_by : (ks ls ms : List Kind) → Widens ks ls ms → ((ms ≡ ks) × (stack_fits world ls ks ≡ true)) ⊎ (weights ms < weights ks)
  unfolding Widens
  widens_by ks ls ms w = w

  one_widens : (k l m : Kind) (ks ls ms : List Kind) → WidensKind k l m → Widens ks ls ms → Widens (k ∷ ks) (l ∷ ls) (m ∷ ms)
  unfolding Widens weights
  one_widens k l m ks ls ms (inl a) (inl b) =
      inl (ap (λ x. x ∷ ms) a.0 ∙ ap (λ xs. k ∷ xs) b.0, both (kind_fits world l k) (stack_fits world ls ks) a.1 b.1)
  one_widens k l m ks ls ms (inl a) (inr b) = inr (let same : weight m ≡ weight k = ap weight a.0 in omega (arith, same, b))
  one_widens k l m ks ls ms (inr a) (inl b) = inr (let same : weights ms ≡ weights ks = ap weights b.0 in omega (arith, same, a))
  one_widens k l m ks ls ms (inr a) (inr b) = inr (omega (arith, a, b))

  pub stack_widens : (ts ks ls : List Kind) → stack_fits world ks ts ≡ true → stack_fits world ls ts ≡ true
      → Widens ks ls (widen_all world ks ls)
  unfolding widen_all Widens
  stack_widens [] [] [] a b = inl (refl, refl)
  stack_widens (t ∷ ts) (k ∷ ks) (l ∷ ls) a b =
      one_widens k l (widen world k l) ks ls (widen_all world ks ls)
      (kind_widens t k l (both_left (kind_fits world k t) (stack_fits world ks ts) a)
      (both_left (kind_fits world l t) (stack_fits world ls ts) b))
      (stack_widens ts ks ls (both_right (kind_fits world k t) (stack_fits world ks ts) a)
      (both_right (kind_fits world l t) (stack_fits world ls ts) b))
  stack_widens ts ks ls a b = absurd (cc)

  pub stack_least : (ts ks ls : List Kind) → stack_fits world ks ts ≡ true → stack_fits world ls ts ≡ true
      → stack_fits world (widen_all world ks ls) ts ≡ true
  unfolding widen_all
  stack_least [] [] [] a b = refl
  stack_least (t ∷ ts) (k ∷ ks) (l ∷ ls) a b =
      both (kind_fits world (widen world k l) t) (stack_fits world (widen_all world ks ls) ts)
      (kind_least k l t (both_left (kind_fits world k t) (stack_fits world ks ts) a)
      (both_left (kind_fits world l t) (stack_fits world ls ts) b))
      (stack_least ts ks ls (both_right (kind_fits world k t) (stack_fits world ks ts) a)
      (both_right (kind_fits world l t) (stack_fits world ls ts) b))
  stack_least ts ks ls a b = absurd (cc)

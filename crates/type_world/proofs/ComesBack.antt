-- A walk up a chain that comes back to a type: no type of the rest passes a test that none so far has passed.
use Rattle.std.proofs.Common.{◌≡◌, ◌⊎◌, inl, inr, ℕ, zero, suc, ◌||◌, Bool, true, false, List, [], ◌∷◌, find}
use Rattle.std.proofs.Common.{cond, Some, None, refl, sym, ap, ◌∙◌, subst}
use Rattle.std.specs.Option.{option_map_or}
use Rattle.std.specs.List.{list_any}
use Rattle.type_world.specs.declared.base.Base.TheVariants.{Extends}
use Rattle.type_world.specs.declared.identity.TypeId.{TypeId}
use Rattle.type_world.specs.declared.identity.TypeId.TheVariants as types
use Rattle.type_world.specs.Resolution.{base_of, chain_within, then_base, type_eq}
use Rattle.type_world.specs.World.{World}
use Rattle.type_world.proofs.Chains.{Has, type_eqs, type_is}
use Rattle.type_world.proofs.ChainSteps.{nearest}

module _ (world : World) (p : TypeId → Bool) where
  -- a type fails the test, and extends one that is in a list, or is where the walk is
  abbrev pub Passed : List TypeId → TypeId → TypeId → Type 0
  Passed list base x = (p x ≡ false) × (y : TypeId) × (base_of world x ≡ Extends y) × (Has list y ⊎ (y ≡ base))

  -- the types since the mark
  pub record Walked (mark base : TypeId) : Type 0 where
    pub list : List TypeId
    pub marked : Has list mark ⊎ (mark ≡ base)
    pub passed : (x : TypeId) → Has list x → Passed list base x

  pub starts : (of : TypeId) → Walked of of
  starts of = record { list = []; marked = inr refl; passed = λ x h. absurd (cc) }

  or_more : (a b : Bool) → b ≡ true → (a || b) ≡ true
  or_more true b e = refl
  or_more false b e = e

  -- ---- one step further

  pub further : (mark base next : TypeId) → Walked mark base → p base ≡ false → base_of world base ≡ Extends next
      → (list : List TypeId) × Has list mark × ((x : TypeId) → Has list x → Passed list next x)
  further mark base next w fails extends = (base ∷ w.list, by_mark w.marked, λ x h. by_first x (type_eq x base) refl h)
    where
      by_mark : Has w.list mark ⊎ (mark ≡ base) → Has (base ∷ w.list) mark
      by_mark (inl h) = or_more (type_eq mark base) _ h
      by_mark (inr e) = ap (λ b. b || list_any (type_eq mark) w.list) (type_eqs mark base e)

      by_next : (y : TypeId) → Has w.list y ⊎ (y ≡ base) → Has (base ∷ w.list) y
      by_next y (inl h) = or_more (type_eq y base) _ h
      by_next y (inr e) = ap (λ b. b || list_any (type_eq y) w.list) (type_eqs y base e)

      by_first : (x : TypeId) (b : Bool) → type_eq x base ≡ b → (b || list_any (type_eq x) w.list) ≡ true → Passed (base ∷ w.list) next x
      by_first x true q h =
          let same = sym (type_is x base q) in
          (subst (λ z. p z ≡ false) same fails, next, subst (λ z. base_of world z ≡ Extends next) same extends, inr refl)
      by_first x false q h = let was = w.passed x h in (was.0, was.1, was.2, inl (by_next was.1 was.3))

  -- the mark is kept, or set anew
  pub goes_on : (mark base next after : TypeId) → Walked mark base → p base ≡ false → base_of world base ≡ Extends next
      → (after ≡ mark) ⊎ (after ≡ next) → Walked after next
  goes_on mark base next after w fails extends (inl kept) =
      let more = further mark base next w fails extends in
      record { list = more.0; marked = inl (subst (λ z. Has more.0 z) (sym kept) more.1); passed = more.2 }
  goes_on mark base next after w fails extends (inr anew) = subst (λ z. Walked z next) (sym anew) (starts next)

  -- ---- back at the mark

  closed : (list : List TypeId) (mark : TypeId) → Has list mark → ((x : TypeId) → Has list x → Passed list mark x) → (n : ℕ) (x : TypeId)
      → Has list x → list_any p (chain_within n world x) ≡ false
  unfolding chain_within
  closed list mark has passed zero x h = refl
  closed list mark has passed (suc n) x h =
      let was = passed x h in
      ap (λ b. b || list_any p (then_base (chain_within n world) (base_of world x))) was.0
      ∙ ap (λ b. list_any p (then_base (chain_within n world) b)) was.2 ∙ closed list mark has passed n was.1 (in_list was.1 was.3)
    where
      in_list : (y : TypeId) → Has list y ⊎ (y ≡ mark) → Has list y
      in_list y (inl k) = k
      in_list y (inr e) = subst (λ z. Has list z) (sym e) has

  pub comes_back : (mark base next : TypeId) (n : ℕ) → Walked mark base → p base ≡ false → base_of world base ≡ Extends next
      → type_eq next mark ≡ true → list_any p (chain_within n world next) ≡ false
  comes_back mark base next n w fails extends back =
      let more = further mark base next w fails extends in
      let same : next ≡ mark = type_is next mark back in
      closed more.0 next (subst (λ z. Has more.0 z) (sym same) more.1) more.2 n next (subst (λ z. Has more.0 z) (sym same) more.1)

  none_passes : (list : List TypeId) → list_any p list ≡ false → find p list ≡ None
  none_passes [] e = refl
  none_passes (x ∷ list) e = by_first (λ h. none_passes list h) (p x) e
    where
      by_first : (list_any p list ≡ false → find p list ≡ None) → (b : Bool) → (b || list_any p list) ≡ false
          → cond b (Some x) (find p list) ≡ None
      by_first rest true h = absurd (cc)
      by_first rest false h = rest h

  pub nearest_back : (mark base next : TypeId) (n : ℕ) → Walked mark base → p base ≡ false → base_of world base ≡ Extends next
      → type_eq next mark ≡ true → nearest world p n next ≡ types.Object
  nearest_back mark base next n w fails extends back =
      ap (λ o. option_map_or (λ base. base) o types.Object)
      (none_passes (chain_within n world next) (comes_back mark base next n w fails extends back))

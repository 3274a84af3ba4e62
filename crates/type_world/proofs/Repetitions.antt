-- Base chains that come back to one of their types.
use Rattle.std.proofs.Common.{◌≡◌, ℕ, zero, suc, true, refl, sym, ap, ◌∙◌, subst}
use Rattle.type_world.specs.declared.base.Base.TheVariants.{Extends}
use Rattle.type_world.specs.declared.identity.TypeId.{TypeId}
use Rattle.type_world.specs.Repeated.{Above, IsRepeated}
use Rattle.type_world.specs.Resolution.{base_of, type_eq}
use Rattle.type_world.specs.World.{World}
use Rattle.type_world.proofs.Chains.{type_is}

module _ (world : World) where
  pub record IsAbove (of to : TypeId) : Type 0 where
    pub bases : ℕ
    pub above : Above world bases of to

  pub above_none : (of : TypeId) → IsAbove of of
  above_none of = record { bases = 0; above = refl }

  one_more : (n : ℕ) (of at base : TypeId) → Above world n of at → base_of world at ≡ Extends base → Above world (suc n) of base
  one_more zero of at base a b = (base, ap (base_of world) a ∙ b, refl)
  one_more (suc n) of at base a b = (a.0, a.1, one_more n a.0 at base a.2 b)

  pub above_more : (of at base : TypeId) → IsAbove of at → base_of world at ≡ Extends base → IsAbove of base
  above_more of at base a b = record { bases = suc a.bases; above = one_more a.bases of at base a.above b }

  pub is_repeated : (of at base : TypeId) → IsAbove of at → base_of world at ≡ Extends base → type_eq base of ≡ true → IsRepeated world base
  is_repeated of at base a b e =
      record {
        bases = a.bases;
        above = subst (λ x. Above world (suc a.bases) x base) (sym (type_is base of e)) (one_more a.bases of at base a.above b);
      }

-- Base chains that come back to one of their types.
use Rattle.std.specs.Prelude.{◌≡◌, ℕ, zero, suc}
use Rattle.type_world.specs.declared.base.Base.TheVariants.{Extends}
use Rattle.type_world.specs.declared.identity.TypeId.{TypeId}
use Rattle.type_world.specs.Resolution.{base_of}
use Rattle.type_world.specs.World.{World}

-- so many bases up from a type is another one
abbrev pub Above : World → ℕ → TypeId → TypeId → Type 0
Above world zero of to = of ≡ to
Above world (suc n) of to = (base : TypeId) × (base_of world of ≡ Extends base) × Above world n base to

-- a type is above itself
pub record IsRepeated (world : World) (of : TypeId) : Type 0 where
  pub bases : ℕ
  pub above : Above world (suc bases) of of

-- Stacks by their offsets: an index to their places, and a stack that is added at offsets.
use Rattle.std.specs.Prelude.{◌≡◌, ℕ, ◌==◌, suc, List, [], ◌∷◌, Option, Some, None, fold, get_or, if◌then◌else◌}
use Rattle.std.specs.Option.{option_map}
use Rattle.cil_meaning.specs.declared.kind.Kind.{Kind}
use Rattle.type_world.specs.World.{World}
use Rattle.cil_meaning.specs.Typing.{Typing, with_stack}

-- the place of the first stack of an offset
abbrev pub place_of : Typing → ℕ → Option ℕ
place_of [] at = None
place_of (found ∷ typing) at = if found.0 == at then Some 0 else option_map suc (place_of typing at)

-- a list has the place for each offset
abbrev pub IndexedBy : Typing → List (Option ℕ) → Type 0
IndexedBy typing places = (at : ℕ) → get_or places at None ≡ place_of typing at

-- a stack is added at each of some offsets
abbrev pub with_stacks : World → List Kind → List ℕ → Typing → Typing
with_stacks world stack to typing = fold (λ so_far at. with_stack world stack at so_far) typing to

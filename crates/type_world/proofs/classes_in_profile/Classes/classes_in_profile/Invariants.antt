use Rattle.std.proofs.Common.{◌≡◌, map}
use Rattle.std.specs.List.{range_with_len}
use Rattle.type_world.specs.declared.identity.TypeId.TheVariants as types
use Rattle.type_world.specs.Loading.{world_of}
use Rattle.type_world.specs.Profile.{type_in_profile}
use Rattle.type_world.proofs.classes_in_profile.Classes.classes_in_profile.Given as goal

abbrev pub invariant-loop-row : goal.invariant-loop-row
invariant-loop-row l = l.classes.items ≡ map (λ row. type_in_profile (world_of l.self) (types.Class l.asm row)) (range_with_len 0 l.row)

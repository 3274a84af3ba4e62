use Rattle.std.proofs.Common.{◌≡◌, map}
use Rattle.std.specs.List.{range_with_len}
use Rattle.type_world.specs.declared.identity.TheConstants.{BUILT_IN}
use Rattle.type_world.specs.Members.{method_id}
use Rattle.type_world.specs.Loading.{world_of}
use Rattle.type_world.specs.Profile.{profile_shape}
use Rattle.type_world.proofs.classes_in_profile.Classes.built_in_shapes.Given as goal

abbrev pub invariant-loop-index : goal.invariant-loop-index
invariant-loop-index l = l.shapes.items ≡ map (λ row. profile_shape (world_of l.self) (method_id BUILT_IN row)) (range_with_len 1 l.index)

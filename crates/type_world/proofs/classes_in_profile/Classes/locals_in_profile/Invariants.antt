use Rattle.std.proofs.Common.{◌≡◌, map}
use Rattle.std.specs.List.{range_with_len}
use Rattle.type_world.specs.Members.{method_id}
use Rattle.type_world.specs.Loading.{world_of}
use Rattle.type_world.specs.Profiled.{profile_locals}
use Rattle.type_world.proofs.classes_in_profile.Classes.locals_in_profile.Given as goal

abbrev pub invariant-loop-index : goal.invariant-loop-index
invariant-loop-index l = l.locals.items ≡ map (λ row. profile_locals (world_of l.self) (method_id l.asm row)) (range_with_len 1 l.index)

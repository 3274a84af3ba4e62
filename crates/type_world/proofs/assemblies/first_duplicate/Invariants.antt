use Rattle.std.proofs.Common.{◌≡◌, ◌-◌, length}
use Rattle.type_world.specs.Loading.{world_of}
use Rattle.type_world.specs.World.{duplicate_from, first_duplicate}
use Rattle.type_world.proofs.assemblies.first_duplicate.Given as goal

abbrev pub invariant-loop-j : goal.invariant-loop-j
invariant-loop-j l = first_duplicate (world_of l.assemblies) ≡ duplicate_from (world_of l.assemblies) l.j (length l.assemblies - l.j)

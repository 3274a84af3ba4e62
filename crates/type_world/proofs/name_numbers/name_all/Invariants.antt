use Rattle.std.proofs.Common.{◌≡◌, take}
use Rattle.type_world.specs.Loading.{world_of}
use Rattle.type_world.specs.NameNumbers.{world_numbers}
use Rattle.type_world.proofs.name_numbers.name_all.Given as goal

abbrev pub invariant-loop-assembly : goal.invariant-loop-assembly
invariant-loop-assembly l = l.all.items ≡ world_numbers (world_of (take l.assembly-index l.assemblies))

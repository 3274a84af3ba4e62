use Rattle.std.proofs.Common.{◌≡◌, ◌≤◌, ◌*◌, ◌^◌, take}
use Rattle.type_world.specs.Loading.{world_of}
use Rattle.type_world.specs.World.{rows_of_world}
use Rattle.type_world.proofs.numbers.rows_of.Given as goal

abbrev pub invariant-loop-assembly : goal.invariant-loop-assembly
invariant-loop-assembly l =
    (l.rows ≡ rows_of_world (world_of (take l.assembly-index l.assemblies)) l.table) × (l.rows ≤ l.assembly-index * 2 ^ 24)

use Rattle.std.proofs.Common.{◌≡◌, ◌+◌}
use Rattle.type_world.specs.Loading.{world_of}
use Rattle.type_world.specs.Placed.{row_placed}
use Rattle.type_world.specs.World.{rows_before}
use Rattle.type_world.proofs.ByPlace.{search_from}
use Rattle.type_world.proofs.assemblies.Assemblies.row_placed.Given as goal

abbrev pub invariant-loop-asm : goal.invariant-loop-asm
invariant-loop-asm l = record {
  same : row_placed (world_of l.self) l.table l.place ≡ search_from (world_of l.self) l.table l.place l.asm;
  so_far : rows_before (world_of l.self) l.table l.asm + l.left ≡ l.place;
}

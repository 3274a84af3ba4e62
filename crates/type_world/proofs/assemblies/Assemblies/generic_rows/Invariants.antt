use Rattle.std.proofs.Common.{◌≡◌, ◌+◌, length}
use Rattle.cli_assembly.specs.Assemblies.{row_count}
use Rattle.type_world.specs.Loading.{world_of}
use Rattle.type_world.specs.World.{assembly_in}
use Rattle.type_world.proofs.RowMarks.{Marks, owners}
use Rattle.type_world.proofs.assemblies.Assemblies.generic_rows.Given as goal

abbrev pub invariant-loop-before : goal.invariant-loop-before
invariant-loop-before l = record {
  marks : Marks l.marks.items (owners (world_of l.self) l.asm l.table) l.before;
  long : length l.marks.items ≡ row_count (assembly_in (world_of l.self) l.asm) l.table + 1;
}

use Rattle.std.proofs.Common.{◌≡◌, ◌+◌, length}
use Rattle.metadata.specs.declared.schema.Table.TheVariants as tables
use Rattle.cli_assembly.specs.Assemblies.{row_count}
use Rattle.type_world.specs.Loading.{world_of}
use Rattle.type_world.specs.World.{assembly_in}
use Rattle.type_world.proofs.RowMarks.{Marks, overridden}
use Rattle.type_world.proofs.assemblies.Assemblies.overriding_rows.Given as goal

abbrev pub invariant-loop-before : goal.invariant-loop-before
invariant-loop-before l = record {
  marks : Marks l.marks.items (overridden (world_of l.self) l.asm) l.before;
  long : length l.marks.items ≡ row_count (assembly_in (world_of l.self) l.asm) tables.TypeDef + 1;
}

use Rattle.std.proofs.Common.{◌≡◌, ◌+◌, length}
use Rattle.metadata.specs.declared.schema.Table.TheVariants as tables
use Rattle.cli_assembly.specs.Assemblies.{assembly_of, row_count}
use Rattle.type_world.proofs.OtherNames.{nested_by}
use Rattle.type_world.proofs.RowMarks.{Marks}
use Rattle.type_world.proofs.name_numbers.nested_rows.Given as goal

abbrev pub invariant-loop-before : goal.invariant-loop-before
invariant-loop-before l = record {
  marks : Marks l.marks.items (nested_by (assembly_of l.assembly)) l.before;
  long : length l.marks.items ≡ row_count (assembly_of l.assembly) tables.TypeDef + 1;
}

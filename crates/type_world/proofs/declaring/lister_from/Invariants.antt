use Rattle.std.proofs.Common.{◌≤◌}
use Rattle.metadata.specs.declared.schema.Table.TheVariants as tables
use Rattle.cli_assembly.specs.Assemblies.{assembly_of, list_start, row_count}
use Rattle.type_world.proofs.declaring.lister_from.Given as goal

abbrev pub invariant-loop-of : goal.invariant-loop-of
invariant-loop-of l =
    (list_start (assembly_of l.assembly) l.of 5 ≤ l.row) × (l.of ≤ row_count (assembly_of l.assembly) tables.TypeDef)

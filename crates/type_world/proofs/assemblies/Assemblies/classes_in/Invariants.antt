use Rattle.std.proofs.Common.{◌≡◌, ◌≤◌, ◌+◌, map}
use Rattle.std.specs.List.{range_with_len}
use Rattle.metadata.specs.declared.schema.Table.TheVariants as tables
use Rattle.cli_assembly.specs.Assemblies.{assembly_of, list_start, row_count}
use Rattle.type_world.specs.Loading.{world_of}
use Rattle.type_world.specs.Resolution.{method_class}
use Rattle.type_world.proofs.assemblies.Assemblies.classes_in.Given as goal

abbrev pub invariant-loop-index : goal.invariant-loop-index
invariant-loop-index l =
    (l.classes.items ≡ map (method_class (world_of l.self) l.asm) (range_with_len 1 l.index))
    × (list_start (assembly_of l.assembly) l.class 5 ≤ l.index + 1)
    × (l.class ≤ row_count (assembly_of l.assembly) tables.TypeDef)

use Rattle.std.proofs.Common.{◌≡◌, ◌+◌, ◌-◌, find}
use Rattle.std.specs.List.{range_with_len}
use Rattle.std.specs.Str.{bytes_eq}
use Rattle.metadata.specs.declared.schema.Table.TheVariants as tables
use Rattle.cli_assembly.specs.Assemblies.{row_count}
use Rattle.type_world.specs.Loading.{world_of}
use Rattle.type_world.specs.World.{assembly_in}
use Rattle.type_world.specs.Entries.{class_named, full_name}
use Rattle.type_world.proofs.assemblies.Assemblies.class_named.Given as goal

abbrev pub invariant-loop-before : goal.invariant-loop-before
invariant-loop-before l =
    class_named (world_of l.self) l.name
    ≡ find (λ row. bytes_eq l.name (full_name (assembly_in (world_of l.self) 0) row))
    (range_with_len (l.before + 1) (row_count (assembly_in (world_of l.self) 0) tables.TypeDef - l.before))

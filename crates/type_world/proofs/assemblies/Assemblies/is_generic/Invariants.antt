use Rattle.std.proofs.Common.{◌≡◌, ◌+◌, ◌-◌}
use Rattle.std.specs.List.{list_any, range_with_len}
use Rattle.metadata.specs.declared.schema.Table.TheVariants as tables
use Rattle.cli_assembly.specs.Assemblies.{row_count}
use Rattle.type_world.specs.Loading.{world_of}
use Rattle.type_world.specs.Profile.{is_generic, is_owner}
use Rattle.type_world.specs.World.{assembly_in, column_in}
use Rattle.type_world.proofs.assemblies.Assemblies.is_generic.Given as goal

abbrev pub invariant-loop-before : goal.invariant-loop-before
invariant-loop-before l =
    is_generic (world_of l.self) l.asm l.table l.row
    ≡ list_any (λ param. is_owner (world_of l.self) l.asm l.table l.row (column_in (world_of l.self) l.asm tables.GenericParam param 2))
    (range_with_len (l.before + 1) (row_count (assembly_in (world_of l.self) l.asm) tables.GenericParam - l.before))

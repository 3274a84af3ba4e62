use Rattle.std.proofs.Common.{◌≡◌, ◌+◌, ◌-◌, ◌==◌}
use Rattle.std.specs.List.{list_any, range_with_len}
use Rattle.metadata.specs.declared.schema.Table.TheVariants as tables
use Rattle.cli_assembly.specs.Assemblies.{column, row_count}
use Rattle.type_world.specs.Loading.{world_of}
use Rattle.type_world.specs.Profile.{has_method_impl}
use Rattle.type_world.specs.World.{assembly_in}
use Rattle.type_world.proofs.assemblies.Assemblies.has_method_impl.Given as goal

abbrev pub invariant-loop-before : goal.invariant-loop-before
invariant-loop-before l =
    has_method_impl (world_of l.self) l.asm l.row
    ≡ list_any (λ impl. column (assembly_in (world_of l.self) l.asm) tables.MethodImpl impl 0 == l.row)
    (range_with_len (l.before + 1) (row_count (assembly_in (world_of l.self) l.asm) tables.MethodImpl - l.before))

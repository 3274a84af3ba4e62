use Rattle.std.proofs.Common.{◌≡◌, ◌-◌, filter}
use Rattle.std.specs.List.{range_with_len}
use Rattle.cli_assembly.specs.Assemblies.{rows_between}
use Rattle.type_world.specs.Loading.{world_of}
use Rattle.type_world.specs.Entries.{is_static_named}
use Rattle.type_world.proofs.FullNames.{with_found}
use Rattle.type_world.proofs.assemblies.Assemblies.only_static_named.Given as goal

abbrev pub invariant-loop-row : goal.invariant-loop-row
invariant-loop-row l =
    filter (is_static_named (world_of l.self) l.name) (rows_between l.fn.rows.start l.fn.rows.end)
    ≡ with_found l.only (filter (is_static_named (world_of l.self) l.name) (range_with_len l.row (l.fn.rows.end - l.row)))

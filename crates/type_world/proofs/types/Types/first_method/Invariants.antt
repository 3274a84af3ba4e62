use Rattle.std.proofs.Common.{◌≡◌, ◌-◌, find}
use Rattle.std.specs.List.{range_with_len}
use Rattle.cli_assembly.specs.Assemblies.{rows_between}
use Rattle.type_world.specs.Loading.{world_of}
use Rattle.type_world.specs.MethodRefs.{is_wanted}
use Rattle.type_world.proofs.types.Types.first_method.Given as goal

abbrev pub invariant-loop-row : goal.invariant-loop-row
invariant-loop-row l =
    find (is_wanted (world_of l.self) l.wanted l.asm) (rows_between l.fn.rows.start l.fn.rows.end)
    ≡ find (is_wanted (world_of l.self) l.wanted l.asm)
    (range_with_len l.row (l.fn.rows.end - l.row))

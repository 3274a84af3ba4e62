use Rattle.std.proofs.Common.{◌≡◌, ◌+◌, ◌-◌, find}
use Rattle.std.specs.List.{range_with_len}
use Rattle.type_world.specs.Loading.{world_of}
use Rattle.type_world.specs.Members.{built_in_rows}
use Rattle.type_world.specs.MethodRefs.{is_wanted_built_in}
use Rattle.type_world.proofs.types.Types.built_in_method.Given as goal

abbrev pub invariant-loop-before : goal.invariant-loop-before
invariant-loop-before l =
    find (is_wanted_built_in (world_of l.self) l.wanted l.of) built_in_rows
    ≡ find (is_wanted_built_in (world_of l.self) l.wanted l.of)
    (range_with_len (l.before + 1) (8 - l.before))

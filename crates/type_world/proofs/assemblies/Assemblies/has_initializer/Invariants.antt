use Rattle.std.proofs.Common.{◌≡◌, ◌-◌}
use Rattle.std.specs.List.{list_any, range_with_len}
use Rattle.type_world.specs.Loading.{world_of}
use Rattle.type_world.specs.Profile.{has_initializer, is_initializer}
use Rattle.type_world.proofs.assemblies.Assemblies.has_initializer.Given as goal

abbrev pub invariant-loop-method : goal.invariant-loop-method
invariant-loop-method l =
    has_initializer (world_of l.self) l.asm l.row
    ≡ list_any (is_initializer (world_of l.self) l.asm) (range_with_len l.method (l.method-end - l.method))

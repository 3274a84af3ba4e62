use Rattle.std.proofs.Common.{◌≡◌, drop}
use Rattle.std.specs.Cmp.Lexicographic.{pointwise}
use Rattle.type_world.specs.Loading.{world_of}
use Rattle.type_world.specs.Members.{same_type}
use Rattle.type_world.proofs.types.Types.same_params.Given as goal

abbrev pub invariant-loop-i : goal.invariant-loop-i
invariant-loop-i l =
    pointwise (same_type (world_of l.self) l.asm l.other) l.params l.at
    ≡ pointwise (same_type (world_of l.self) l.asm l.other) (drop l.i l.params) (drop l.i l.at)

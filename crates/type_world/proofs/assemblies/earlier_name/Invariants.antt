use Rattle.std.proofs.Common.{◌≡◌, ◌-◌, find}
use Rattle.std.specs.List.{range_with_len}
use Rattle.std.specs.Str.{bytes_eq}
use Rattle.type_world.specs.Loading.{world_of}
use Rattle.type_world.specs.World.{earlier_name, name_in}
use Rattle.type_world.proofs.assemblies.earlier_name.Given as goal

abbrev pub invariant-loop-i : goal.invariant-loop-i
invariant-loop-i l =
    earlier_name (world_of l.assemblies) l.j
    ≡ find (λ i. bytes_eq (name_in (world_of l.assemblies) l.j) (name_in (world_of l.assemblies) i)) (range_with_len l.i (l.j - l.i))

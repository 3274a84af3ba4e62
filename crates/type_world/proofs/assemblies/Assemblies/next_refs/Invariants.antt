use Rattle.std.proofs.Common.{◌≡◌, map}
use Rattle.std.specs.List.{range_with_len}
use Rattle.type_world.specs.Kept.{next_ref}
use Rattle.type_world.specs.Loading.{world_of}
use Rattle.type_world.proofs.assemblies.Assemblies.next_refs.Given as goal

abbrev pub invariant-loop-index : goal.invariant-loop-index
invariant-loop-index l = l.refs.items ≡ map (next_ref (world_of l.self) l.asm l.known) (range_with_len 1 l.index)

use Rattle.std.proofs.Common.{◌≡◌, map}
use Rattle.std.specs.List.{range_with_len}
use Rattle.type_world.specs.Loading.{world_of}
use Rattle.type_world.specs.Resolution.{resolve_ref_within}
use Rattle.type_world.proofs.assemblies.Assemblies.no_refs.Given as goal

abbrev pub invariant-loop-index : goal.invariant-loop-index
invariant-loop-index l = l.refs.items ≡ map (resolve_ref_within 0 (world_of l.self) l.asm) (range_with_len 1 l.index)

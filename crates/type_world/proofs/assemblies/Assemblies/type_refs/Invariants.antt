use Rattle.std.proofs.Common.{◌≡◌}
use Rattle.type_world.specs.Loading.{world_of}
use Rattle.type_world.proofs.TypeRefs.{refs}
use Rattle.type_world.proofs.assemblies.Assemblies.type_refs.Given as goal

abbrev pub invariant-loop-round : goal.invariant-loop-round
invariant-loop-round l = l.refs.items ≡ refs (world_of l.self) l.asm l.round

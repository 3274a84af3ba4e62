use Rattle.std.proofs.Common.{◌≡◌, ◌<◌, ℕ, false}
use Rattle.type_world.specs.Loading.{world_of}
use Rattle.type_world.proofs.TypeRefs.{has_name}
use Rattle.type_world.proofs.assemblies.Assemblies.assembly_named.Given as goal

abbrev pub invariant-loop-asm : goal.invariant-loop-asm
invariant-loop-asm l = (k : ℕ) → k < l.asm → has_name (world_of l.self) l.name k ≡ false

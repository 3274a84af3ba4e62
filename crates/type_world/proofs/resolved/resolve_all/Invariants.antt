use Rattle.std.proofs.Common.{◌≡◌, map}
use Rattle.std.specs.List.{range_with_len}
use Rattle.type_world.specs.Loading.{world_of}
use Rattle.type_world.specs.Kept.{kept_of}
use Rattle.type_world.proofs.resolved.resolve_all.Given as goal

abbrev pub invariant-loop-asm : goal.invariant-loop-asm
invariant-loop-asm l = l.all.items ≡ map (kept_of (world_of l.assemblies)) (range_with_len 0 l.asm)

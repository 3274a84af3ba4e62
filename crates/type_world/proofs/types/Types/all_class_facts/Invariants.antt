use Rattle.std.proofs.Common.{◌≡◌, map}
use Rattle.std.specs.List.{range_with_len}
use Rattle.type_world.specs.Loading.{world_of}
use Rattle.type_world.specs.Profiled.{facts_of}
use Rattle.type_world.proofs.types.Types.all_class_facts.Given as goal

abbrev pub invariant-loop-asm : goal.invariant-loop-asm
invariant-loop-asm l = l.all.items ≡ map (facts_of (world_of l.self)) (range_with_len 0 l.asm)

use Rattle.std.proofs.Common.{◌≡◌, map}
use Rattle.std.specs.List.{range_with_len}
use Rattle.type_world.specs.Loading.{world_of}
use Rattle.type_world.specs.Profiled.{facts}
use Rattle.type_world.proofs.types.Types.class_facts.Given as goal

abbrev pub invariant-loop-row : goal.invariant-loop-row
invariant-loop-row l = l.facts.items ≡ map (facts (world_of l.self) l.asm) (range_with_len 0 l.row)

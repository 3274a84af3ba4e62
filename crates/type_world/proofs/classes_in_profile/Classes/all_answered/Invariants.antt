use Rattle.std.proofs.Common.{◌≡◌, map}
use Rattle.std.specs.List.{range_with_len}
use Rattle.type_world.specs.Loading.{world_of}
use Rattle.type_world.specs.Profiled.{answers_of}
use Rattle.type_world.proofs.classes_in_profile.Classes.all_answered.Given as goal

abbrev pub invariant-loop-asm : goal.invariant-loop-asm
invariant-loop-asm l = l.all.items ≡ map (answers_of (world_of l.self)) (range_with_len 0 l.asm)

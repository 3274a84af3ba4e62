use Rattle.std.proofs.Common.{◌≡◌, map}
use Rattle.std.specs.List.{range_with_len}
use Rattle.type_world.specs.KeptMethods.{member_methods_of}
use Rattle.type_world.specs.Loading.{world_of}
use Rattle.type_world.proofs.types.Types.all_member_methods.Given as goal

abbrev pub invariant-loop-asm : goal.invariant-loop-asm
invariant-loop-asm l = l.all.items ≡ map (member_methods_of (world_of l.self)) (range_with_len 0 l.asm)

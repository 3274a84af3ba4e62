use Rattle.std.proofs.Common.{◌≡◌, map}
use Rattle.std.specs.List.{range_with_len}
use Rattle.type_world.specs.Loading.{world_of}
use Rattle.type_world.specs.Members.{member_method}
use Rattle.type_world.proofs.types.Types.member_methods.Given as goal

abbrev pub invariant-loop-index : goal.invariant-loop-index
invariant-loop-index l = l.methods.items ≡ map (member_method (world_of l.self) l.asm) (range_with_len 1 l.index)

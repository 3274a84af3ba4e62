use Rattle.std.proofs.Common.{◌≡◌, map}
use Rattle.std.specs.List.{range_with_len}
use Rattle.cil_decode.specs.Instructions.{switch_target}
use Rattle.cil_decode.proofs.operand.targets_at.Given as goal

abbrev pub invariant-loop-i : goal.invariant-loop-i
invariant-loop-i l = l.targets.items ≡ map (switch_target l.code l.at l.count) (range_with_len 0 l.i)

use Rattle.std.proofs.Common.{◌≡◌, ◌++◌, take}
use Rattle.cil_decode.specs.Encoding.{distances}
use Rattle.cil_decode.proofs.encode.put_distances.Given as goal

abbrev pub invariant-loop-at : goal.invariant-loop-at
invariant-loop-at l = l.out.items ≡ l.initial.out.items ++ distances l.next (take l.at-index l.targets)

use Rattle.std.proofs.Common.{◌≡◌, take}
use Rattle.type_world.proofs.references.are_equal.Given as goal

abbrev pub invariant-loop-index : goal.invariant-loop-index
invariant-loop-index l = take l.index l.answers ≡ take l.index l.others

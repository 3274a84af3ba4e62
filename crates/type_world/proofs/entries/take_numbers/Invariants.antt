use Rattle.std.proofs.Common.{◌≡◌, drop}
use Rattle.std.specs.Cmp.Lexicographic.{pointwise}
use Rattle.type_world.specs.Entries.{takes_number}
use Rattle.type_world.proofs.entries.take_numbers.Given as goal

abbrev pub invariant-loop-i : goal.invariant-loop-i
invariant-loop-i l = pointwise takes_number l.params l.numbers ≡ pointwise takes_number (drop l.i l.params) (drop l.i l.numbers)

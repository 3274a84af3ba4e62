use Rattle.std.proofs.Common.{◌≡◌, take}
use Rattle.asm_builder.specs.Cells.{user_heap}
use Rattle.asm_builder.proofs.user_strings.user_heap.Given as goal

abbrev pub invariant-loop-units : goal.invariant-loop-units
invariant-loop-units l = l.out.items ≡ user_heap (take l.units-index l.strings)

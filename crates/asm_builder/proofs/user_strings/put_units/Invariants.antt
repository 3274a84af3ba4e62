use Rattle.std.proofs.Common.{◌≡◌, ◌++◌, take}
use Rattle.asm_builder.specs.Cells.{unit_bytes}
use Rattle.asm_builder.proofs.user_strings.put_units.Given as goal

abbrev pub invariant-loop-unit : goal.invariant-loop-unit
invariant-loop-unit l = l.out.items ≡ l.initial.out.items ++ unit_bytes (take l.unit-index l.units)

use Rattle.std.proofs.Common.{◌≡◌, take}
use Rattle.asm_builder.specs.File.{valid_bits}
use Rattle.asm_builder.proofs.file.valid_bits.Given as goal

abbrev pub invariant-loop-table : goal.invariant-loop-table
invariant-loop-table l = l.valid ≡ valid_bits (take l.table l.tables)

use Rattle.std.proofs.Common.{◌≡◌, ◌++◌, drop}
use Rattle.asm_builder.specs.File.{counts_bytes}
use Rattle.asm_builder.proofs.file.put_counts.Given as goal

-- what was put and what is left are all
abbrev pub invariant-loop-rows : goal.invariant-loop-rows
invariant-loop-rows l = l.out.items ++ counts_bytes (drop l.rows-index l.tables) ≡ l.initial.out.items ++ counts_bytes l.tables

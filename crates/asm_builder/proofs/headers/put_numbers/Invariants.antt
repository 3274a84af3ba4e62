use Rattle.std.proofs.Common.{◌≡◌, ◌++◌, drop}
use Rattle.asm_builder.specs.Numbers.{numbers_bytes}
use Rattle.asm_builder.proofs.headers.put_numbers.Given as goal

-- what was put and what is left are all
abbrev pub invariant-loop-n : goal.invariant-loop-n
invariant-loop-n l = l.out.items ++ numbers_bytes (drop l.n-index l.numbers) ≡ l.initial.out.items ++ numbers_bytes l.numbers

use Rattle.std.proofs.Common.{◌≡◌, ◌++◌, drop}
use Rattle.pe_image.specs.Pieces.{numbers_bytes}
use Rattle.pe_image.proofs.numbers.put_numbers.Given as goal

-- what was put and what is left are all
abbrev pub invariant-loop-number : goal.invariant-loop-number
invariant-loop-number l =
    l.out.items ++ numbers_bytes (drop l.number-index l.numbers) ≡ l.initial.out.items ++ numbers_bytes l.numbers

use Rattle.std.proofs.Common.{◌≡◌, ◌++◌, drop, length}
use Rattle.asm_builder.specs.File.{row_bytes}
use Rattle.asm_builder.proofs.file.put_row.Given as goal

-- what was put and what is left are all
abbrev pub invariant-loop-width : goal.invariant-loop-width
invariant-loop-width l =
    l.out.items ++ row_bytes (drop (length l.yielded) l.widths) (drop (length l.yielded) l.numbers)
    ≡ l.initial.out.items ++ row_bytes l.widths l.numbers

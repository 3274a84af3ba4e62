use Rattle.std.proofs.Common.{◌≡◌, ◌++◌, drop}
use Rattle.std.specs.Prelude.{flat_map}
use Rattle.asm_builder.specs.File.{row_bytes}
use Rattle.asm_builder.proofs.file.put_table.Given as goal

-- what was put and what is left are all
abbrev pub invariant-loop-row : goal.invariant-loop-row
invariant-loop-row l =
    l.out.items ++ flat_map (row_bytes l.widths) (drop l.row-index l.rows) ≡ l.initial.out.items ++ flat_map (row_bytes l.widths) l.rows

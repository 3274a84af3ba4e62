use Rattle.std.proofs.Common.{◌≡◌, ◌++◌, drop}
use Rattle.asm_builder.specs.File.{tables_from}
use Rattle.asm_builder.proofs.file.put_tables.Given as goal

-- what was put and what is left are all
abbrev pub invariant-loop-table : goal.invariant-loop-table
invariant-loop-table l =
    l.out.items ++ tables_from l.sizes l.table (drop l.table l.tables) ≡ l.initial.out.items ++ tables_from l.sizes 0 l.tables

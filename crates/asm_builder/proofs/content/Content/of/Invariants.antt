use Rattle.std.proofs.Common.{◌≡◌, take}
use Rattle.asm_builder.specs.Cells.{tables_of}
use Rattle.asm_builder.specs.Content.{all_after, all_numbers, no_heaps}
use Rattle.asm_builder.proofs.content.Content.of.Given as goal

abbrev pub invariant-loop-table : goal.invariant-loop-table
invariant-loop-table l = record {
  heaps : l.heaps ≡ all_after no_heaps (take l.table (tables_of l.builder));
  tables : l.tables.items ≡ all_numbers no_heaps (take l.table (tables_of l.builder));
}

use Rattle.std.proofs.Common.{◌≡◌, ◌≤◌, ◌++◌, All, drop, map}
use Rattle.metadata.specs.Schema.{columns_in}
use Rattle.metadata.specs.Tables.{width_of}
use Rattle.asm_builder.proofs.layout.Sizes.widths_in.Given as goal

abbrev pub invariant-loop-column : goal.invariant-loop-column
invariant-loop-column l = record {
  -- those so far and those of the columns that are left are all
  put : l.widths.items ++ map (width_of l.self) (columns_in (drop l.column-index l.columns) l.table)
      ≡ map (width_of l.self) (columns_in l.columns l.table);
  narrow : All (λ w. w ≤ 8) l.widths.items;
}

use Rattle.std.proofs.Common.{◌≡◌, ◌+◌, ◌*◌, ◌++◌, ◌<◌, ◌^◌, drop, take, All}
use Rattle.std.specs.Prelude.{sum_by}
use Rattle.rtr_sections.specs.Imports.{slot_count}
use Rattle.rtr_sections.specs.Parts.{placed_imports}
use Rattle.rtr_sections.proofs.pieces.placed_imports.Given as goal

abbrev pub invariant-loop-import : goal.invariant-loop-import
invariant-loop-import l =
    let left = drop l.import-index l.imports in
    record {
      -- what was placed and what is left are all
      placed : l.placed.items ++ placed_imports l.rva l.signatures left ≡ placed_imports l.cells l.arrays l.imports;
      -- what is left ends where all does
      cells : l.rva + 8 * sum_by slot_count left ≡ l.cells + 8 * sum_by slot_count l.imports;
      arrays : l.signatures + 4 * sum_by slot_count left ≡ l.arrays + 4 * sum_by slot_count l.imports;
      sizes : All (λ i. i.size < 2 ^ 32) (take l.import-index l.imports);
    }

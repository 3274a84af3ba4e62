use Rattle.std.proofs.Common.{◌<◌, ◌^◌, get_or, arith}
use Rattle.std.proofs.lemmas.List.{take_all}
use Rattle.std.proofs.lemmas.List.Elements.{All-more}
use Rattle.rtr_sections.specs.declared.imports.ImportSection.{ImportSection}
use Rattle.rtr_sections.specs.Parts.{placed_imports}
use Rattle.rtr_sections.proofs.PutLemmas.{cells_of, ends_same, placed_more}
use Rattle.rtr_sections.proofs.pieces.placed_imports.Goals as goal

pub loop-import-preserved : goal.loop-import-preserved
loop-import-preserved c =
    let imports = c.args.imports.now in
    let i = c.loop-import.import-index in
    let d : ImportSection = record { rva = 0; size = 0; flags = 0; kind = 0; entry_size = 0; signatures = 0; auxiliary = 0 } in
    record {
      placed = placed_more imports i c.loop-import.rva c.loop-import.signatures d c.loop-import.placed.items _
          (placed_imports c.args.cells c.args.arrays imports) c.loop-import-test.true c.in_ok-push.ensures.items
          c.loop-import.invariant.placed;
      cells = omega (
        arith,
        ends_same imports i c.loop-import.rva 8 _ d c.loop-import-test.true c.loop-import.invariant.cells,
        cells_of (get_or imports i d) (c.requires.form i d c.loop-import-test.true),
      );
      arrays = ends_same imports i c.loop-import.signatures 4 _ d c.loop-import-test.true c.loop-import.invariant.arrays;
      sizes = All-more (λ (i : ImportSection). i.size < 2 ^ 32) imports i d c.loop-import-test.true c.loop-import.invariant.sizes
          (omega arith);
    }

pub returns-clause-sizes : goal.returns-clause-sizes
returns-clause-sizes c =
    let all = take_all c.loop-import.import-index c.args.imports.now (omega arith) in
    rw all at c.loop-import.invariant.sizes

use Rattle.std.proofs.Common.{◌<◌, ◌^◌, ◌++◌, arith}
use Rattle.std.specs.List.{flat_map}
use Rattle.std.proofs.lemmas.List.{take_all}
use Rattle.std.proofs.lemmas.List.Elements.{All-more}
use Rattle.rtr_sections.specs.declared.imports.ImportSection.{ImportSection}
use Rattle.rtr_sections.specs.Parts.{import_bytes}
use Rattle.rtr_sections.proofs.PutLemmas.{put_more}
use Rattle.rtr_sections.proofs.pieces.put_imports.Goals as goal

pub loop-import-preserved : goal.loop-import-preserved
loop-import-preserved c =
    let imports = c.args.imports.now in
    let i = c.loop-import.import-index in
    let d : ImportSection = record { rva = 0; size = 0; flags = 0; kind = 0; entry_size = 0; signatures = 0; auxiliary = 0 } in
    record {
      put = put_more import_bytes imports i d c.loop-import.out.items _ (c.args.out.now.items ++ flat_map import_bytes imports)
          c.loop-import-test.true c.in_ok-put.ensures.record c.loop-import.invariant.put;
      flags = All-more (λ (i : ImportSection). i.flags < 2 ^ 16) imports i d c.loop-import-test.true c.loop-import.invariant.flags
          c.in_ok-put.ensures.flags;
    }

pub returns-clause-flags : goal.returns-clause-flags
returns-clause-flags c =
    let all = take_all c.loop-import.import-index c.args.imports.now (omega arith) in
    rw all at c.loop-import.invariant.flags

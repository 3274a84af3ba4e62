use Rattle.std.proofs.Common.{◌<◌, ◌^◌, ◌++◌, map, arith}
use Rattle.std.specs.List.{flat_map}
use Rattle.std.proofs.lemmas.List.{take_all}
use Rattle.std.proofs.lemmas.List.Elements.{All-more}
use Rattle.rtr_sections.specs.declared.header.RtrSection.{RtrSection}
use Rattle.rtr_sections.specs.Parts.{section_bytes}
use Rattle.rtr_sections.specs.PartPlaces.{ranged}
use Rattle.rtr_sections.proofs.PutLemmas.{mapped_more}
use Rattle.rtr_sections.proofs.written.put_sections.Goals as goal

pub loop-section-preserved : goal.loop-section-preserved
loop-section-preserved c =
    let sections = c.args.sections.now in
    let i = c.loop-section.section-index in
    let d : RtrSection = record { kind = 0; rva = 0; size = 0 } in
    let made = ranged c.args.places.now c.args.entries in
    record {
      put = mapped_more made section_bytes sections i d c.ranged.result c.loop-section.out.items _
          (c.args.out.now.items ++ flat_map section_bytes (map made sections)) c.loop-section-test.true c.ranged.ensures.section
          c.in_ok-put.ensures c.loop-section.invariant.put;
      ranges = All-more (λ (s : RtrSection). (s.rva < 2 ^ 32) × (s.size < 2 ^ 32)) sections i d c.loop-section-test.true
          c.loop-section.invariant.ranges c.ranged.ensures.fits;
    }

pub returns-clause-ranges : goal.returns-clause-ranges
returns-clause-ranges c =
    let all = take_all c.loop-section.section-index c.args.sections.now (omega arith) in
    rw all at c.loop-section.invariant.ranges

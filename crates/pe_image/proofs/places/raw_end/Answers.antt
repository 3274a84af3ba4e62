use Rattle.std.proofs.Common.{◌<◌, [], arith, length}
use Rattle.pe_image.specs.declared.section.PeSection.{PeSection}
use Rattle.pe_image.specs.Places.{end_from}
use Rattle.pe_image.proofs.PlacesLemmas.{next_within}
use Rattle.pe_image.proofs.places.raw_end.Goals as goal

pub overflow_add-at : goal.overflow_add-at
overflow_add-at c =
    let ss = c.args.sections.now in
    let d : PeSection = record { name = []; virtual_size = 0; rva = 0; raw_size = 0; raw_at = 0; flags = 0 } in
    let more : c.loop-section.section-index < length ss = omega arith in
    omega (
      arith,
      next_within ss c.loop-section.at c.loop-section.section-index c.aligned.result c.from.result (end_from c.args.first ss) d more
          c.from.ensures c.aligned.ensures.value c.loop-section.invariant,
      c.requires,
    )

pub overflow_cast-at : goal.overflow_cast-at
overflow_cast-at c = omega (arith, overflow_add-at c)

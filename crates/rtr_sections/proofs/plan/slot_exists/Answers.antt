use Rattle.std.proofs.Common.{arith}
use Rattle.std.proofs.lemmas.Bool.{ltb-true, lt-ltb}
use Rattle.rtr_sections.specs.declared.imports.ImportSection.{ImportSection}
use Rattle.rtr_sections.proofs.PlanLemmas.{named_at, named_below}
use Rattle.rtr_sections.proofs.plan.slot_exists.Goals as goal

pub returns-then-section-imports : goal.returns-then-section-imports
returns-then-section-imports c =
    let d : ImportSection = record { rva = 0; size = 0; flags = 0; kind = 0; entry_size = 0; signatures = 0; auxiliary = 0 } in
    let count = c.slot_count.ensures.count in (
      λ t. named_at c.args.imports.now c.args.slot.section c.args.slot.slot d c.if-section-imports.true (rw count at (ltb-true _ _ t)),
      λ n. lt-ltb _ _ (rw count (named_below c.args.imports.now c.args.slot.section c.args.slot.slot d n).1),
    )

pub returns-else-section-imports : goal.returns-else-section-imports
returns-else-section-imports c =
    let d : ImportSection = record { rva = 0; size = 0; flags = 0; kind = 0; entry_size = 0; signatures = 0; auxiliary = 0 } in (
      λ t. absurd (let past = c.if-section-imports.false in omega (arith, ltb-true _ _ t, past)),
      λ n. lt-ltb _ _ (named_below c.args.imports.now c.args.slot.section c.args.slot.slot d n).0,
    )

use Rattle.std.proofs.Common.{sym}
use Rattle.rtr_sections.proofs.PlanLemmas.{row_above}
use Rattle.rtr_sections.proofs.entry_writer.elements.Goals as goal

pub element-requires-clause-row : goal.element-requires-clause-row
element-requires-clause-row c =
    let above = row_above c.args.entries.now 1 c.loop-entry.entry-index c.entry-item.result c.requires.rows c.loop-entry-test.true in
    rw (sym c.entry-item.is) at above

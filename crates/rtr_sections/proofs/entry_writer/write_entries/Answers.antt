use Rattle.rtr_sections.proofs.PlanLemmas.{are_elements}
use Rattle.rtr_sections.proofs.entry_writer.write_entries.Goals as goal

pub write_sparse-requires-clause-elements : goal.write_sparse-requires-clause-elements
write_sparse-requires-clause-elements c =
    let entries = c.args.entries.now in
    rw (c.highest_row.ensures, c.deref.ensures.value, c.in_ok-elements.ensures) (are_elements entries c.requires.rows)

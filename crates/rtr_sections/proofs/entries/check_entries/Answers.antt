use Rattle.rtr_sections.proofs.EntriesRead.{within}
use Rattle.rtr_sections.proofs.entries.check_entries.Goals as goal

pub check_paths-requires-clause-within : goal.check_paths-requires-clause-within
check_paths-requires-clause-within c = within c.args.file.now c.args.part c.in_ok-array.array c.in_ok-array.ensures.bytes

pub check_links-requires-clause-within : goal.check_links-requires-clause-within
check_links-requires-clause-within c = within c.args.file.now c.args.part c.in_ok-array.array c.in_ok-array.ensures.bytes

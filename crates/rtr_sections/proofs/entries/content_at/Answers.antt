use Rattle.rtr_sections.proofs.EntriesRead.{found_within}
use Rattle.rtr_sections.proofs.entries.content_at.Goals as goal

pub returns-in-Ok-clause-within : goal.returns-in-Ok-clause-within
returns-in-Ok-clause-within c = found_within _ c.get.result c.in-Ok.place c.in-Ok.is c.get.ensures.within

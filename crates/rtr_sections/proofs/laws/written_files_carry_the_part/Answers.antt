use Rattle.rtr_sections.proofs.Carried.{carried}
use Rattle.rtr_sections.proofs.laws.written_files_carry_the_part.Goals as goal

pub returns : goal.returns
returns c = carried

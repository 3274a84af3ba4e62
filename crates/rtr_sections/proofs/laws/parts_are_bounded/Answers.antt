use Rattle.rtr_sections.proofs.Bounded.{part_bounded}
use Rattle.rtr_sections.proofs.laws.parts_are_bounded.Goals as goal

pub returns : goal.returns
returns c = part_bounded c.lengths_are_bounded.ensures c.shortest_fixup.ensures.most

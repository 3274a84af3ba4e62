use Rattle.pe_image.specs.Places.{aligned}
use Rattle.pe_image.proofs.places.aligned.Goals as goal

pub returns-clause-value : goal.returns-clause-value
unfolding aligned
returns-clause-value c = c.next_multiple_of.ensures.value

use Rattle.std.proofs.Common.{◌-◌, length}
use Rattle.pe_image.proofs.FinderLemmas.{Runs}
use Rattle.pe_image.proofs.finder.Level.of.Given as goal

abbrev pub invariant-loop-at : goal.invariant-loop-at
invariant-loop-at l = Runs l.width l.at l.steps.items l.sections

abbrev pub decreases-loop-at : goal.decreases-loop-at
decreases-loop-at l = length l.sections - l.at

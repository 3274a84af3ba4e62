use Rattle.std.proofs.Common.{◌≡◌, ◌++◌, drop}
use Rattle.pe_image.proofs.StairLemmas.{steps_from}
use Rattle.pe_image.proofs.finder.stairs.Given as goal

-- the steps so far and those of what is left are all
abbrev pub invariant-loop-section : goal.invariant-loop-section
invariant-loop-section l = l.stairs.items ++ steps_from l.reach (drop l.section-index l.section-items) ≡ steps_from 0 l.section-items

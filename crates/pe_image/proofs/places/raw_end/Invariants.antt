use Rattle.std.proofs.Common.{◌≡◌, drop}
use Rattle.pe_image.specs.Places.{end_from}
use Rattle.pe_image.proofs.places.raw_end.Given as goal

-- what is left ends where all does
abbrev pub invariant-loop-section : goal.invariant-loop-section
invariant-loop-section l = end_from l.at (drop l.section-index l.sections) ≡ end_from l.first l.sections

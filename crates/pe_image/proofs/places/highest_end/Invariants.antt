use Rattle.std.proofs.Common.{◌≡◌, ◌<◌, ◌^◌, drop}
use Rattle.std.specs.Prelude.{max}
use Rattle.pe_image.specs.Places.{highest_end}
use Rattle.pe_image.proofs.places.highest_end.Given as goal

abbrev pub invariant-loop-section : goal.invariant-loop-section
invariant-loop-section l = record {
  -- the highest so far and that of what is left is the highest of all
  both : max l.highest (highest_end (drop l.section-index l.sections)) ≡ highest_end l.sections;
  small : l.highest < 2 ^ 33;
}

use Rattle.std.proofs.Common.{◌≡◌, ◌-◌, length}
use Rattle.pe_image.specs.Finder.{run_width, AreLevels}
use Rattle.pe_image.proofs.finder.Finder.of.Given as goal

abbrev pub invariant-loop-width : goal.invariant-loop-width
invariant-loop-width l = record {
  width : l.width ≡ run_width l.levels.items;
  levels : AreLevels l.levels.items l.sections;
}

abbrev pub decreases-loop-width : goal.decreases-loop-width
decreases-loop-width l = length l.sections - l.width

use Rattle.std.proofs.Common.{drop}
use Rattle.pe_image.specs.Sections.{has_range}
use Rattle.pe_image.proofs.FinderLemmas.{StandsAt}
use Rattle.pe_image.proofs.finder.Finder.run_of.Given as goal

abbrev pub invariant-loop-level : goal.invariant-loop-level
invariant-loop-level l = StandsAt (has_range l.rva l.len) l.sections (drop l.level-index l.level-items) l.width l.at

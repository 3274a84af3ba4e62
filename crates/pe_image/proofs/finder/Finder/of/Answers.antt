use Rattle.std.proofs.Common.{arith}
use Rattle.pe_image.proofs.FinderLemmas.{run_width-positive}
use Rattle.pe_image.proofs.finder.Finder.of.Goals as goal

pub of-requires-clause-some : goal.of-requires-clause-some
of-requires-clause-some c = omega (arith, run_width-positive c.loop-width.levels.items)

pub loop-width-smaller : goal.loop-width-smaller
loop-width-smaller c = omega (arith, run_width-positive c.loop-width.levels.items)

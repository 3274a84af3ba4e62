use Rattle.fixup_sigs.specs.Fixup.{IsFixup}
use Rattle.fixup_sigs.specs.Shortest.{fixup_bytes}
use Rattle.fixup_sigs.proofs.Bounds.{fixup_bounded}
use Rattle.fixup_sigs.proofs.Written.{fixup_spelled, fixup_shortest, begins_after}
use Rattle.fixup_sigs.proofs.laws.shortest_fixup.Goals as goal

pub returns-clause-spells : goal.returns-clause-spells
returns-clause-spells c = fixup_spelled c.shortest_compressed.ensures.spells

pub returns-clause-shortest : goal.returns-clause-shortest
returns-clause-shortest c = fixup_shortest c.shortest_compressed.ensures.shortest

pub returns-clause-read_back : goal.returns-clause-read_back
returns-clause-read_back c fixup before rest h =
    begins_after IsFixup (fixup_bytes fixup) before rest fixup (fixup_spelled c.shortest_compressed.ensures.spells fixup h)

pub returns-clause-most : goal.returns-clause-most
returns-clause-most c = fixup_bounded

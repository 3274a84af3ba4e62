use Rattle.fixup_sigs.proofs.ReadingLaws.{fixup_at-written}
use Rattle.fixup_sigs.proofs.Written.{fixup_spelled}
use Rattle.fixup_sigs.proofs.laws.written_fixup_is_read.Goals as goal

pub returns : goal.returns
returns c fixup bytes rest at h is = fixup_at-written fixup bytes rest at (fixup_spelled c.shortest_compressed.ensures.spells fixup h) is

use Rattle.fixup_sigs.proofs.Apart.{fixups_apart}
use Rattle.fixup_sigs.proofs.laws.no_fixup_begins_another.Goals as goal

pub returns : goal.returns
returns c = fixups_apart c.no_compressed_begins_another.ensures

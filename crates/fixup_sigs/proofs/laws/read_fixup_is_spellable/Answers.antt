use Rattle.fixup_sigs.proofs.Writable.{fixup_at-spellable}
use Rattle.fixup_sigs.proofs.laws.read_fixup_is_spellable.Goals as goal

pub returns : goal.returns
returns c = fixup_at-spellable

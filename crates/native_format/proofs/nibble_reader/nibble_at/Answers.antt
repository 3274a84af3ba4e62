use Rattle.native_format.proofs.NibbleLaws.{low_nibble, high_nibble}
use Rattle.native_format.proofs.nibble_reader.nibble_at.Goals as goal

pub returns-then-at-eq0-clause-value : goal.returns-then-at-eq0-clause-value
returns-then-at-eq0-clause-value c = low_nibble c.args.bytes.now c.args.at c.if-at-eq0.true

pub returns-else-at-eq0-clause-value : goal.returns-else-at-eq0-clause-value
returns-else-at-eq0-clause-value c = high_nibble c.args.bytes.now c.args.at c.if-at-eq0.false

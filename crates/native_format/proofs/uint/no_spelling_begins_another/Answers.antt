use Rattle.native_format.proofs.UintLaws.{one_spelling}
use Rattle.native_format.proofs.uint.no_spelling_begins_another.Goals as goal

pub returns : goal.returns
returns c = one_spelling

use Rattle.metadata.proofs.Taken.{none_taken}
use Rattle.metadata.proofs.names.Names.new.Goals as goal

pub returns : goal.returns
returns c = none_taken c.new.result.keys c.new.ensures.empty

use Rattle.r2rdump.proofs.Lowest.{lower_is}
use Rattle.r2rdump.proofs.laws.fault_is_the_lower.Goals as goal

pub returns : goal.returns
returns c = lower_is

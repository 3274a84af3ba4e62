use Rattle.a64_meaning.proofs.WholeSteps.{step_whole}
use Rattle.a64_meaning.proofs.laws.steps_are_whole.Goals as goal

pub returns : goal.returns
returns g c = record { whole = step_whole }

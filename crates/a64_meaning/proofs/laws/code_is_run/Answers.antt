use Rattle.a64_meaning.proofs.Straight.{step_at}
use Rattle.a64_meaning.proofs.laws.code_is_run.Goals as goal

pub returns : goal.returns
returns g c = record { runs = step_at }

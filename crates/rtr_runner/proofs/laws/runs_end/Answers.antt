use Rattle.cil_meaning.specs.Run.{cil}
use Rattle.rtr_runner.proofs.Ends.{over_ends}
use Rattle.rtr_runner.proofs.laws.runs_end.Goals as goal

pub returns : goal.returns
returns c = λ world job starts.
    over_ends (cil world job.entry job.numbers job.ticks) (c.runs_end.ensures.over world job.entry job.numbers job.ticks)
    (c.typed_code_runs.ensures world job.entry job.numbers job.ticks starts)

use Rattle.std.proofs.Common.{[]}
use Rattle.cil_meaning.specs.State.{no_objects}
use Rattle.cil_meaning.specs.Run.{cil}
use Rattle.cil_meaning.proofs.Bound.{ends_are_reached, runs_end}
use Rattle.cil_meaning.proofs.laws.runs_end.Goals as goal

pub returns-clause-over : goal.returns-clause-over
unfolding cil
returns-clause-over c = λ world entry numbers ticks. runs_end no_objects world entry numbers [] ticks

pub returns-clause-reached : goal.returns-clause-reached
unfolding cil
returns-clause-reached c =
    λ world entry numbers ticks run reached over. ends_are_reached no_objects world entry numbers [] ticks run reached over

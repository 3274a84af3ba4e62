use Rattle.import_cells.proofs.SeatLaws.{next_answer, called, allowed}
use Rattle.import_cells.proofs.laws.seats_answers_are_allowed.Goals as goal

pub returns-clause-each : goal.returns-clause-each
returns-clause-each c = λ v l w h. (called v l w h, allowed v l w h)

pub returns-clause-load : goal.returns-clause-load
returns-clause-load c = next_answer

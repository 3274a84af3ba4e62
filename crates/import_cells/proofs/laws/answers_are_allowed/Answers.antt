use Rattle.import_cells.proofs.CoreLaws.{in_order}
use Rattle.import_cells.proofs.AnswerLaws.{each_allowed}
use Rattle.import_cells.proofs.laws.answers_are_allowed.Goals as goal

pub returns-clause-each : goal.returns-clause-each
returns-clause-each c = each_allowed

pub returns-clause-in_order : goal.returns-clause-in_order
returns-clause-in_order c = in_order

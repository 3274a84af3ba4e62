use Rattle.std.proofs.Common.{rules, ap, refl}
use Rattle.import_cells.proofs.RuleKept.{loads}
use Rattle.import_cells.proofs.SeatLaws.{next_answer, next_from}
use Rattle.import_cells.proofs.cells.Cells.read.Goals as goal

pub load-requires : goal.load-requires
load-requires c = (
  search rules,
  search rules,
  loads c.self.inside.words.shared.key.value.items _ _ _ c.args.cell
      (search rules) c.seat.invariant.live,
)

pub returns-clause-answer : goal.returns-clause-answer
returns-clause-answer c = next_answer _ _ _ (next_from _ _ _ _ _ (ap (λ s. s.view) c.seat.view_is) refl c.load.ensures.2.2)

pub returns-clause-event : goal.returns-clause-event
returns-clause-event c = next_from _ _ _ _ _ (ap (λ s. s.view) c.seat.view_is) refl c.load.ensures.2.2

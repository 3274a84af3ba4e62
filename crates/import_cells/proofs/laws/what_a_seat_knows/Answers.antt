use Rattle.import_cells.proofs.SeatLaws.{knows, first_seat}
use Rattle.import_cells.proofs.laws.what_a_seat_knows.Goals as goal

pub returns-clause-after : goal.returns-clause-after
returns-clause-after c = knows

pub returns-clause-first : goal.returns-clause-first
returns-clause-first c = first_seat

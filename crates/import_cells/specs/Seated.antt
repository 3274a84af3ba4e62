-- What the cells and a seat keep as the program runs.
use Rattle.std.specs.Prelude.{◌≡◌, ◌+◌, ◌<◌, Bool, List, [], length}
use Rattle.atomic_table.specs.Seated.{TableId}
use Rattle.atomic_table.specs.declared.shared.Seat.{Seat}
use Rattle.import_cells.specs.declared.plan.CellPlan.{CellPlan}
use Rattle.import_cells.specs.declared.event.SeatView.{SeatView}
use Rattle.import_cells.specs.Plan.{Marks}

-- the table has the plan for its key, and a word more than there are cells
pub record IsTableOf (plan key : List CellPlan) (table : TableId) : Type 0 where
  pub key_is : key ≡ plan
  pub words : table.words ≡ length plan + 1
  pub slots : table.slots ≡ 0

-- the flags say of each cell whether it was asked
pub record Remembers (flags : List Bool) (v : SeatView) : Type 0 where
  pub count : length flags ≡ length v.plan
  pub each : Marks flags (length v.plan) v.asked

-- a seat has a share, and no slot
pub record IsSeat (flags : List Bool) (place : Seat (Unit {0}) SeatView) : Type 0 where
  pub remembers : Remembers flags place.me.0
  pub live : 0 < place.me.0.share
  pub holds_no_slot : place.me.1 ≡ []

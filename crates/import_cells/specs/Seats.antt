-- What callers see of the cells and of a seat, and how a seat's calls change what is known with it.
use Rattle.std.specs.Prelude.{◌≡◌, ℕ, ◌+◌, ◌-◌, ◌/◌, ◌<◌, ◌≤◌, ◌⊎◌, List, [], ◌∷◌, ◌++◌, length, Some}
use Rattle.atomic_table.specs.Seated.{TableId}
use Rattle.import_cells.specs.declared.plan.CellPlan.{CellPlan}
use Rattle.import_cells.specs.declared.event.CellEvent.{CellEvent}
use Rattle.import_cells.specs.declared.event.SeatView.{SeatView}
use Rattle.import_cells.specs.Plan.{In, initial_of, bound_of, first_of, IsWordOf, IsReady, ready_cells}
use Rattle.import_cells.specs.Core.{WorkerEvent, of_worker, asked_on, asked_after, shown_by, IsCore, IsCoreEvent}
use Rattle.import_cells.specs.Core.{AsksInOrder, ComesAfterFirst}

-- the cells: which ones they are, and their plan
pub record CellsState : Type 0 where
  pub table : TableId
  pub plan : List CellPlan

-- a seat: of which cells it is, and what is known with it
pub record SeatState : Type 0 where
  pub table : TableId
  pub view : SeatView

-- the seat and the cells belong together
abbrev pub IsSeatOf : CellsState → SeatState → Type 0
IsSeatOf cells seat = (seat.table ≡ cells.table) × (seat.view.plan ≡ cells.plan)

-- the number names a cell
abbrev pub HasCell : CellsState → ℕ → Type 0
HasCell cells c = c < length cells.plan

-- the word is the bound value of that cell
abbrev pub IsBoundValue : CellsState → ℕ → ℕ → Type 0
IsBoundValue cells c value = bound_of cells.plan c ≡ Some value

-- the seat has seen the cells before that one bound
abbrev pub HasSeenFirst : CellsState → SeatState → ℕ → Type 0
HasSeenFirst cells seat c = (d : ℕ) → In (first_of cells.plan c) d → In seat.view.seen d

-- the share of all seats together
abbrev pub whole : ℕ
whole = 65536

-- the seat's share can be halved
abbrev pub CanSplit : SeatState → Type 0
CanSplit seat = 2 ≤ seat.view.share

-- the seat has the whole share, so no other seat of its cells is left
abbrev pub IsAlone : SeatState → Type 0
IsAlone seat = seat.view.share ≡ whole

-- the first seat's view
abbrev pub first_view : List CellPlan → SeatView
first_view plan = record { plan = plan; share = whole; asked = ready_cells plan; seen = ready_cells plan; log = [] }

-- ---- what a call changes

-- what a call adds to what is known with its seat
abbrev pub after_event : SeatView → CellEvent → SeatView
after_event v e = record { plan = v.plan; share = v.share; asked = asked_on e v.asked; seen = shown_by v.plan e ++ v.seen; log = e ∷ v.log }

-- what a seat has asked and seen after these calls, the newest first
abbrev pub after_events : SeatView → List CellEvent → SeatView
after_events v [] = v
after_events v (e ∷ l) = after_event (after_events v l) e

-- a seat that is split keeps what it asked and saw, and gives away half of its share, rounded down
abbrev pub kept_half : SeatView → SeatView
kept_half v = record { plan = v.plan; share = v.share - v.share / 2; asked = v.asked; seen = v.seen; log = v.log }

-- the new seat has that half, has asked nothing, and knows what the other one has seen
abbrev pub given_half : SeatView → SeatView
given_half v = record { plan = v.plan; share = v.share / 2; asked = []; seen = v.seen; log = [] }

-- a seat that takes another one in has both shares, and all that both asked and saw
abbrev pub joined : SeatView → SeatView → SeatView
joined v w = record { plan = v.plan; share = v.share + w.share; asked = v.asked ++ w.asked; seen = v.seen ++ w.seen; log = v.log }

-- what is left of a seat that was joined into another
abbrev pub spent_view : SeatView
spent_view = record { plan = []; share = 0; asked = []; seen = []; log = [] }

-- ---- what a seat's calls are

-- A list of the core's events that fits the seat: the seat's log is what one worker did there, what it has asked or seen was asked there,
-- and where it has the whole share it has asked whatever was asked.
pub record Run (v : SeatView) : Type 0 where
  pub worker : ℕ
  pub events : List WorkerEvent
  pub core : IsCore v.plan events
  pub order : AsksInOrder v.plan events
  pub log : of_worker worker events ≡ v.log
  pub asked : (c : ℕ) → In v.asked c → In (asked_after v.plan events) c
  pub seen : (c : ℕ) → In v.seen c → In (asked_after v.plan events) c
  pub alone : v.share ≡ whole → (c : ℕ) → In (asked_after v.plan events) c → In v.asked c

-- the call is the core's next event
abbrev pub IsNext : SeatView → CellEvent → Type 0
IsNext v e = (r : Run v) × IsCoreEvent v.plan r.events e × ComesAfterFirst v.plan r.events e

-- what a load's answer is to the seat that made it
pub record Answer (v : SeatView) (c a : ℕ) : Type 0 where
  -- the initial or the bound value
  pub word : IsWordOf v.plan c a
  -- the bound value of an eager cell that has one
  pub ready : IsReady v.plan c → bound_of v.plan c ≡ Some a
  -- the bound value of a cell that the seat has asked or seen
  pub known : In v.asked c ⊎ In v.seen c → bound_of v.plan c ≡ Some a
  -- with the whole share, the initial value of every other cell
  pub alone : v.share ≡ whole → ¬ (In v.asked c) → a ≡ initial_of v.plan c

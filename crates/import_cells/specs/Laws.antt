-- The laws of shared binding, over any list of the core's events.
use Rattle.std.specs.Prelude.{◌≡◌, ◌≢◌, ℕ, ◌⊎◌, ◌↔◌, true, List, [], ◌∷◌, ◌++◌, Some}
use Rattle.atomic_table.specs.Table.{State}
use Rattle.import_cells.specs.declared.plan.CellPlan.{CellPlan}
use Rattle.import_cells.specs.declared.event.CellEvent.{CellEvent}
use Rattle.import_cells.specs.declared.event.CellEvent.TheVariants.{Loaded, Asked}
use Rattle.import_cells.specs.declared.event.SeatView.{SeatView}
use Rattle.import_cells.specs.Plan.{In, initial_of, bound_of, is_eager, first_of, IsWordOf, IsReady, IsPlan}
use Rattle.import_cells.specs.Core.{WorkerEvent, of_worker, word_after, IsBound, IsCore, AsksInOrder, EachAsksFirst}
use Rattle.import_cells.specs.Core.{asks, shown, Allowed, Quiet}
use Rattle.import_cells.specs.Seats.{whole, first_view, after_event, after_events, IsNext, Answer}
use Rattle.import_cells.specs.Shared.{Kept, Parts}

-- the answers of each worker are allowed
abbrev pub EachIsAllowed : Type 0
EachIsAllowed = (plan : List CellPlan) → IsPlan plan → (es : List WorkerEvent) → IsCore plan es → AsksInOrder plan es → (w : ℕ)
    → Allowed plan (Quiet plan w es) (of_worker w es)

-- where each worker asks the cells before a cell itself, they are bound when that one is asked
abbrev pub OwnAsksAreInOrder : Type 0
OwnAsksAreInOrder = (plan : List CellPlan) (es : List WorkerEvent) → IsCore plan es → EachAsksFirst plan es → AsksInOrder plan es

-- a word is its initial or its bound value
abbrev pub IsInitialOrBound : Type 0
IsInitialOrBound = (plan : List CellPlan) (es : List WorkerEvent) (c : ℕ)
    → IsWordOf plan c (word_after plan es c)

-- between two moments a word stays, or goes from its initial to its bound value
abbrev pub ChangesOnce : Type 0
ChangesOnce =
    (plan : List CellPlan) (es later : List WorkerEvent) (c : ℕ)
    → (word_after plan (later ++ es) c ≡ word_after plan es c) ⊎ ((word_after plan es c ≡ initial_of plan c)
    × (bound_of plan c ≡ Some (word_after plan (later ++ es) c)))

-- a bound cell stays so
abbrev pub StaysBound : Type 0
StaysBound = (plan : List CellPlan) (es later : List WorkerEvent) (c : ℕ) → IsBound plan es c → IsBound plan (later ++ es) c

-- where a cell's word isn't the initial one, the cells before it are bound
abbrev pub NewAfterFirst : Type 0
NewAfterFirst =
    (plan : List CellPlan) → IsPlan plan → (es : List WorkerEvent) → IsCore plan es → AsksInOrder plan es
    → (c d : ℕ) → word_after plan es c ≢ initial_of plan c → In (first_of plan c) d → IsBound plan es d

-- ---- the calls of one seat, the newest first

-- what a seat's view is after these calls
pub record Knows (v : SeatView) (l : List CellEvent) (v' : SeatView) : Type 0 where
  pub plan : v'.plan ≡ v.plan
  pub share : v'.share ≡ v.share
  pub log : v'.log ≡ l ++ v.log
  -- it has asked what it asked before and the cells of these asks
  pub asked : (c : ℕ) → In v'.asked c ↔ (In (asks l) c ⊎ In v.asked c)
  -- it has seen what it saw before and the cells that these calls show to be bound
  pub seen : (c : ℕ) → In v'.seen c ↔ (In (shown v.plan l) c ⊎ In v.seen c)

abbrev pub KnowsAfter : Type 0
KnowsAfter = (v : SeatView) (l : List CellEvent) → Knows v l (after_events v l)

-- what a call says of its answer
abbrev pub Replies : SeatView → CellEvent → Type 0
Replies v (Loaded c a) = Answer v c a
Replies v (Asked c) = Unit {0}

-- these calls lead from one view to the other
abbrev pub Called : SeatView → List CellEvent → SeatView → Type 0
Called v [] v' = v' ≡ v
Called v (e ∷ l) v' = (m : SeatView) × Called v l m × (Replies m e × (v' ≡ after_event m e))

-- the seat has the whole share, and has asked eager cells alone
abbrev pub BeginsAlone : SeatView → Type 0
BeginsAlone v = (v.share ≡ whole) × ((c : ℕ) → In v.asked c → is_eager v.plan c ≡ true)

-- the first seat begins alone, and has seen the cells that are bound from the start
abbrev pub FirstSeat : Type 0
FirstSeat = (plan : List CellPlan) → BeginsAlone (first_view plan) × ((c : ℕ) → IsReady plan c → In (first_view plan).seen c)

-- the answers to one seat are allowed
abbrev pub SeatIsAllowed : Type 0
SeatIsAllowed = (v : SeatView) (l : List CellEvent) (v' : SeatView) → Called v l v'
    → (v' ≡ after_events v l) × Allowed v.plan (BeginsAlone v) l

-- a load that is the core's next event has such an answer
abbrev pub NextAnswers : Type 0
NextAnswers = (v : SeatView) (c a : ℕ) → IsNext v (Loaded c a) → Answer v c a

-- ---- the table

abbrev pub RuleSays : Type 0
RuleSays = (plan : List CellPlan) (s : State (Unit {0}) SeatView) → Kept plan s → Parts plan s

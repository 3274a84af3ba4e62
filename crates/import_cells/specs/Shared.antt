-- The rule of the table that holds the words, and what its steps say. Word 0 is no cell and stays 0; cell c is word c + 1.
use Rattle.std.specs.Prelude.{◌≡◌, ◌≢◌, ℕ, ◌+◌, ◌-◌, ◌<◌, ◌≤◌, ◌⊎◌, List, [], ◌∷◌, length, Some, slice_index}
use mathlib.Core.Option.{some}
use lib.ListN.{get_elem?}
use Rattle.atomic_table.specs.Table.{State, Me, Step}
use Rattle.import_cells.specs.declared.plan.CellPlan.{CellPlan}
use Rattle.import_cells.specs.declared.event.CellEvent.TheVariants.{Loaded, Asked}
use Rattle.import_cells.specs.declared.event.SeatView.{SeatView}
use Rattle.import_cells.specs.Plan.{In, initial_of, bound_of, first_of, IsReady, IsPlan, IsWordOf}
use Rattle.import_cells.specs.Core.{WorkerEvent, of_worker, word_after, asked_after, IsCore, AsksInOrder}
use Rattle.import_cells.specs.Seats.{whole, after_event, IsNext}

-- the shares of these views together
abbrev pub shares : List SeatView → ℕ
shares [] = 0
shares (v ∷ vs) = v.share + shares vs

-- the cell is in the asked of some view
abbrev pub AskedBySome : List SeatView → ℕ → Type 0
AskedBySome views c = (id : ℕ) × (v : SeatView) × (get_elem? views id ≡ some v) × In v.asked c

-- the view of the seat with this number, after these events
pub record IsView (plan : List CellPlan) (events : List WorkerEvent) (id : ℕ) (v : SeatView) : Type 0 where
  pub plan_is : 0 < v.share → v.plan ≡ plan
  pub log : 0 < v.share → of_worker id events ≡ v.log
  pub asked : (c : ℕ) → In v.asked c → In (asked_after plan events) c
  pub seen : (c : ℕ) → In v.seen c → In (asked_after plan events) c
  pub spent : v.share ≡ 0 → (v.asked ≡ []) × (v.seen ≡ [])

-- There is a list of the core's events, in which seats are workers, after which the words are as they are. What was asked there is in the
-- asked of some view, and what the views have was asked there.
pub record Kept (plan : List CellPlan) (s : State (Unit {0}) SeatView) : Type 0 where
  pub sound : IsPlan plan
  pub events : List WorkerEvent
  pub core : IsCore plan events
  pub order : AsksInOrder plan events
  pub count : length s.words ≡ length plan + 1
  pub unused : slice_index s.words 0 ≡ 0
  pub words : (c : ℕ) → c < length plan → slice_index s.words (c + 1) ≡ word_after plan events c
  -- a cell is asked after its `first` cells
  pub closed : (c d : ℕ) → In (asked_after plan events) c → In (first_of plan c) d → In (asked_after plan events) d
  pub askers : (c : ℕ) → In (asked_after plan events) c → AskedBySome s.views c
  pub views : (id : ℕ) (v : SeatView) → get_elem? s.views id ≡ some v → IsView plan events id v
  pub shared : shares s.views ≡ whole
  pub unborn : (id : ℕ) → length s.views ≤ id → of_worker id events ≡ []

-- What the rule says of the words and the views, with no list of events
pub record Parts (plan : List CellPlan) (s : State (Unit {0}) SeatView) : Type 0 where
  -- each word is its initial or its bound value
  pub word : (c : ℕ) → c < length plan
      → IsWordOf plan c (slice_index s.words (c + 1))
  -- each cell that a view has asked or seen has its bound value
  pub bound : (id c : ℕ) (v : SeatView) → get_elem? s.views id ≡ some v → In v.asked c ⊎ In v.seen c
      → bound_of plan c ≡ Some (slice_index s.words (c + 1))
  -- a cell whose word is new, that is bound from the start, or that some view has seen, is in the asked of some view
  pub new : (c : ℕ) → c < length plan → slice_index s.words (c + 1) ≢ initial_of plan c → AskedBySome s.views c
  pub ready : (c : ℕ) → IsReady plan c → AskedBySome s.views c
  pub seen : (id c : ℕ) (v : SeatView) → get_elem? s.views id ≡ some v → In v.seen c → AskedBySome s.views c
  -- where a cell's word is new, its `first` cells have their bound values, and are in the asked of some view
  pub first : (c d : ℕ) → c < length plan → slice_index s.words (c + 1) ≢ initial_of plan c → In (first_of plan c) d
      → AskedBySome s.views d × (bound_of plan d ≡ Some (slice_index s.words (d + 1)))
  pub shared : shares s.views ≡ whole
  pub spent : (id : ℕ) (v : SeatView) → get_elem? s.views id ≡ some v → v.share ≡ 0 → (v.asked ≡ []) × (v.seen ≡ [])

-- ---- what a step says

-- a seat's view, and its slots, of which it has none
abbrev pub Sitter : Type 0
Sitter = Me (Unit {0}) SeatView

-- a load of a cell: the seat gains the event with the number that was found
abbrev pub loaded : Step (Unit {0}) → Sitter → ℕ → Sitter → Type 0
loaded st m a m' = (m'.1 ≡ m.1) × (m'.0 ≡ after_event m.0 (Loaded (st.word - 1) a)) × IsNext m.0 (Loaded (st.word - 1) a)

-- an exchange that binds a cell
abbrev pub asked : Step (Unit {0}) → Sitter → ℕ → Sitter → Type 0
asked st m a m' = (m'.1 ≡ m.1) × (m'.0 ≡ after_event m.0 (Asked (st.word - 1))) × IsNext m.0 (Asked (st.word - 1))

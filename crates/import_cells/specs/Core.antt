-- The core of shared binding: one word for each cell, and the events of the workers. A `load` answers a cell's word; an `ask` gives a cell
-- that has a bound value that value. Events are listed with the newest first.
use Rattle.std.specs.Prelude.{◌≡◌, ℕ, ◌⊎◌, ◌==◌, ◌&&◌, not, Bool, true, false, List, [], ◌∷◌, ◌++◌, Option, Some, None}
use Rattle.std.specs.Prelude.{unwrap_or, if◌then◌else◌}
use Rattle.import_cells.specs.declared.plan.CellPlan.{CellPlan}
use Rattle.import_cells.specs.declared.event.CellEvent.{CellEvent}
use Rattle.import_cells.specs.declared.event.CellEvent.TheVariants.{Loaded, Asked}
use Rattle.import_cells.specs.Plan.{In, initial_of, bound_of, is_eager, first_of, IsWordOf, can_bind, IsReady, ready_cells}

-- an event, and its worker
pub record WorkerEvent : Type 0 where
  pub worker : ℕ
  pub event : CellEvent

-- the value is there, and is this number
abbrev pub same_value : Option ℕ → ℕ → Bool
same_value None a = false
same_value (Some v) a = v == a

-- the cells of these events that were asked
abbrev pub asks : List CellEvent → List ℕ
asks [] = []
asks (Asked c ∷ l) = c ∷ asks l
asks (Loaded c a ∷ l) = asks l

-- the cells that are asked after one event more
abbrev pub asked_on : CellEvent → List ℕ → List ℕ
asked_on (Asked c) cs = c ∷ cs
asked_on (Loaded c a) cs = cs

-- the events of one worker
abbrev pub of_worker : ℕ → List WorkerEvent → List CellEvent
of_worker w [] = []
of_worker w (e ∷ es) = if e.worker == w then e.event ∷ of_worker w es else of_worker w es

-- the first or the second fact
abbrev pub OneOf : Bool → Type 0 → Type 0 → Type 0
OneOf true A B = A
OneOf false A B = B

module _ (plan : List CellPlan) where
  -- what the cell holds once it is asked
  abbrev pub value_of : ℕ → ℕ
  value_of c = unwrap_or (bound_of plan c) (initial_of plan c)

  -- ---- the core's state

  -- the word of a cell before any event
  abbrev pub opening_of : ℕ → ℕ
  opening_of c = if is_eager plan c then value_of c else initial_of plan c

  -- what an event makes of the word n of a cell
  abbrev pub word_by : CellEvent → ℕ → ℕ → ℕ
  word_by (Loaded d a) c n = n
  word_by (Asked d) c n = if c == d then value_of c else n

  -- the word of a cell after these events
  abbrev pub word_after : List WorkerEvent → ℕ → ℕ
  word_after [] c = opening_of c
  word_after (e ∷ es) c = word_by e.event c (word_after es c)

  -- the cell holds its bound value
  abbrev pub IsBound : List WorkerEvent → ℕ → Type 0
  IsBound es c = bound_of plan c ≡ Some (word_after es c)

  -- the cells that are bound from the start, or that somebody asked
  abbrev pub asked_after : List WorkerEvent → List ℕ
  asked_after [] = ready_cells plan
  asked_after (e ∷ es) = asked_on e.event (asked_after es)

  -- ---- the core's lists of events

  -- the core can do this next: a load answers the word, and what is asked has a bound value
  abbrev pub IsCoreEvent : List WorkerEvent → CellEvent → Type 0
  IsCoreEvent es (Loaded c a) = a ≡ word_after es c
  IsCoreEvent es (Asked c) = can_bind plan c ≡ true

  -- each event is one that the core can do after those before it
  abbrev pub IsCore : List WorkerEvent → Type 0
  IsCore [] = Unit {0}
  IsCore (e ∷ es) = IsCoreEvent es e.event × IsCore es

  -- a cell is asked only where the cells before it hold their bound values, whoever asked them
  abbrev pub ComesAfterFirst : List WorkerEvent → CellEvent → Type 0
  ComesAfterFirst es (Loaded c a) = Unit {0}
  ComesAfterFirst es (Asked c) = (d : ℕ) → In (first_of plan c) d → IsBound es d

  abbrev pub AsksInOrder : List WorkerEvent → Type 0
  AsksInOrder [] = Unit {0}
  AsksInOrder (e ∷ es) = ComesAfterFirst es e.event × AsksInOrder es

  -- the worker asked the cells before a cell itself, one event for each, or they are bound from the start
  abbrev pub AskedFirst : ℕ → List WorkerEvent → CellEvent → Type 0
  AskedFirst w es (Loaded c a) = Unit {0}
  AskedFirst w es (Asked c) = (d : ℕ) → In (first_of plan c) d → IsReady plan d ⊎ In (asks (of_worker w es)) d

  abbrev pub EachAsksFirst : List WorkerEvent → Type 0
  EachAsksFirst [] = Unit {0}
  EachAsksFirst (e ∷ es) = AskedFirst e.worker es e.event × EachAsksFirst es

  -- ---- what the answers of one worker may be

  -- a new answer shows that the cell is bound
  abbrev pub is_new : ℕ → ℕ → Bool
  is_new c a = same_value (bound_of plan c) a && not (a == initial_of plan c)

  -- the cells that an event shows to be bound
  abbrev pub shown_by : CellEvent → List ℕ
  shown_by (Asked c) = c ∷ []
  shown_by (Loaded c a) = if is_new c a then c ∷ first_of plan c else []

  -- the cells that these events show to be bound
  abbrev pub shown : List CellEvent → List ℕ
  shown [] = []
  shown (e ∷ l) = shown_by e ++ shown l

  -- The four parts, of a load's answer after the worker's events l. `quiet` says that nobody else asked a cell that isn't eager
  pub record AllowedAnswer (quiet : Type 0) (l : List CellEvent) (c a : ℕ) : Type 0 where
    -- the answer is the initial or the bound value
    pub word : IsWordOf plan c a
    -- it is the bound value of an eager cell that has one
    pub ready : IsReady plan c → bound_of plan c ≡ Some a
    -- after an ask or a new answer of the cell, or a new answer of a cell that comes after it, it is the bound value
    pub shown : In (shown l) c → bound_of plan c ≡ Some a
    -- where nobody else asked, a cell that isn't eager and that the worker hasn't asked answers its initial value
    pub untouched : quiet → is_eager plan c ≡ false → ¬ (In (asks l) c) → a ≡ initial_of plan c

  abbrev pub IsAllowed : Type 0 → List CellEvent → CellEvent → Type 0
  IsAllowed quiet l (Loaded c a) = AllowedAnswer quiet l c a
  IsAllowed quiet l (Asked c) = Unit {0}

  -- the answers of one worker are allowed
  abbrev pub Allowed : Type 0 → List CellEvent → Type 0
  Allowed quiet [] = Unit {0}
  Allowed quiet (e ∷ l) = IsAllowed quiet l e × Allowed quiet l

  -- nobody but the worker asked a cell that isn't eager
  abbrev pub OnlyAsker : ℕ → List WorkerEvent → Type 0
  OnlyAsker w [] = Unit {0}
  OnlyAsker w (e ∷ es) = ((c : ℕ) → e.event ≡ Asked c → is_eager plan c ≡ false → e.worker ≡ w) × OnlyAsker w es

  -- nobody did before the worker's last event
  abbrev pub Quiet : ℕ → List WorkerEvent → Type 0
  Quiet w [] = Unit {0}
  Quiet w (e ∷ es) = OneOf (e.worker == w) (OnlyAsker w es) (Quiet w es)

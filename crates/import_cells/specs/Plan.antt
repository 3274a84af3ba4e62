-- The plan of the import cells (ReadyToRun File Format, "Import Sections"): the word of each cell at first, the one value that
-- binding gives it, and the cells that are bound before it. A cell outside the plan holds 0 and is never bound.
use Rattle.std.specs.Prelude.{◌≡◌, ℕ, ◌<◌, ◌^◌, ◌+◌, ◌-◌, ◌⊎◌, ◌&&◌, if◌then◌else◌, Bool, true, false, List, [], ◌∷◌}
use Rattle.std.specs.Prelude.{length, Option, Some, None, is_some, unwrap_or, slice_get, All, ◌↔◌, slice_index_or}
use Rattle.import_cells.specs.declared.plan.CellPlan.{CellPlan}

-- the list has this cell
abbrev pub In : List ℕ → ℕ → Type 0
In [] c = ⊥
In (d ∷ ds) c = (c ≡ d) ⊎ In ds c

-- of the first n cells, the flags mark those that are in the list
abbrev pub Marks : List Bool → ℕ → List ℕ → Type 0
Marks flags n cells = (c : ℕ) → c < n → (slice_index_or flags c false ≡ true) ↔ In cells c

abbrev pub initial_in : Option CellPlan → ℕ
initial_in None = 0
initial_in (Some p) = p.initial

abbrev pub bound_in : Option CellPlan → Option ℕ
bound_in None = None
bound_in (Some p) = p.bound

abbrev pub eager_in : Option CellPlan → Bool
eager_in None = false
eager_in (Some p) = p.eager

abbrev pub first_in : Option CellPlan → List ℕ
first_in None = []
first_in (Some p) = p.first

-- the cell is bound from the start
abbrev pub is_ready : CellPlan → Bool
is_ready p = p.eager && is_some p.bound

-- the word that the cell holds from the start
abbrev pub opening_in : CellPlan → ℕ
opening_in p = if p.eager then unwrap_or p.bound p.initial else p.initial

-- the numbers of the eager cells that have a bound value, where the list's first cell has the number n
abbrev pub ready_from : ℕ → List CellPlan → List ℕ
ready_from n [] = []
ready_from n (p ∷ ps) = if is_ready p then n ∷ ready_from (n + 1) ps else ready_from (n + 1) ps

module _ (plan : List CellPlan) where
  -- the word of a cell at first
  abbrev pub initial_of : ℕ → ℕ
  initial_of c = initial_in (slice_get plan c)

  -- its one bound value, if it has one
  abbrev pub bound_of : ℕ → Option ℕ
  bound_of c = bound_in (slice_get plan c)

  abbrev pub is_eager : ℕ → Bool
  is_eager c = eager_in (slice_get plan c)

  -- the cells that are bound before it
  abbrev pub first_of : ℕ → List ℕ
  first_of c = first_in (slice_get plan c)

  -- the number is the initial or the bound value of the cell
  abbrev pub IsWordOf : ℕ → ℕ → Type 0
  IsWordOf c n = (n ≡ initial_of c) ⊎ (bound_of c ≡ Some n)

  -- the cell has a bound value
  abbrev pub can_bind : ℕ → Bool
  can_bind c = is_some (bound_of c)

  -- an eager cell that has a bound value is bound from the start
  abbrev pub IsReady : ℕ → Type 0
  IsReady c = (is_eager c ≡ true) × (can_bind c ≡ true)

  abbrev pub ready_cells : List ℕ
  ready_cells = ready_from 0 plan

  -- each cell before this one has a bound value, and an eager cell has none before it
  abbrev pub IsSound : CellPlan → Type 0
  IsSound p = All (λ d. can_bind d ≡ true) p.first × (p.eager ≡ true → p.first ≡ [])

  -- cells can be made of the plan
  pub record IsPlan : Type 0 where
    pub few : length plan < 2 ^ 32 - 1
    pub each : All IsSound plan

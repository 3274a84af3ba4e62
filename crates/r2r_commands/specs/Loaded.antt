-- How the functions that check and load the files of a run answer.
use Rattle.std.specs.Prelude.{◌≡◌, ℕ, ◌+◌, ℤ, List, [], ◌∷◌, Option, Some, None, Result, Ok, Err}
use Rattle.type_world.specs.declared.identity.MethodId.{MethodId}
use Rattle.rtr_runner.specs.Workers.{WorkerState, new_worker}
use Rattle.r2r_commands.specs.declared.refusals.Stop.{Stop}
use Rattle.r2r_commands.specs.declared.refusals.Stop.TheVariants as stops
use Rattle.r2r_commands.specs.Refusals.{Refusal, meaning}

-- the first of some refusals
abbrev pub first_of : List Refusal → Option Refusal
first_of [] = None
first_of (refusal ∷ later) = Some refusal

-- Either nothing refuses, and this holds of the value; or the refusal is the first, or there is no memory.
abbrev pub IsUnlessRefused : {X : Type 0} → List Refusal → (X → Type 0) → Result X Stop → Type 0
IsUnlessRefused all P (Ok x) = (all ≡ []) × P x
IsUnlessRefused all P (Err (stops.Refused refusal)) = first_of all ≡ Some (meaning refusal)
IsUnlessRefused all P (Err stops.NoMemory) = Unit {0}

-- ---- workers as they are made, the first of which has this number

abbrev pub new_workers : MethodId → ℕ → ℕ → List (List ℤ) → List WorkerState
new_workers entry ticks number [] = []
new_workers entry ticks number (numbers ∷ workers) = new_worker entry ticks number numbers ∷ new_workers entry ticks (number + 1) workers

-- The first check that a file fails.
use Rattle.std.specs.Prelude.{◌≡◌, ℕ, zero, suc, ◌+◌, Bool, List, [], ◌∷◌, Option, Some, None, if◌then◌else◌}
use Rattle.rtr_bytes.specs.declared.fault.Fault.{Fault}
use Rattle.rtr_bytes.specs.declared.fault.ReadRefusal.{ReadRefusal}
use Rattle.rtr_bytes.specs.declared.fault.ReadRefusal.TheVariants as refusals

-- A check: its number, and the first place at which it fails, computed from the bytes alone. Where an
-- earlier check fails, nothing is asked of that place.
pub record Check : Type 0 where
  pub number : ℕ
  pub failing_place : List ℕ → Option ℕ

abbrev pub check : ℕ → (List ℕ → Option ℕ) → Check
check n failing = record { number = n; failing_place = failing }

-- a check that holds where the test does, and else fails at the place
abbrev pub holds_or : Bool → ℕ → Option ℕ
holds_or test at = if test then None else Some at

-- the fault of one answer, or that of the other checks
abbrev pub fault_or : ℕ → Option ℕ → Option Fault → Option Fault
fault_or n (Some at) others = Some (record { check = n; place = at })
fault_or n None others = others

-- the first check of a list that the bytes fail, with its place
abbrev pub first_fault : List Check → List ℕ → Option Fault
first_fault [] bytes = None
first_fault (c ∷ checks) bytes = fault_or c.number (c.failing_place bytes) (first_fault checks bytes)

-- the place of the first of n records, each size bytes after the one before, that fails a test of its place
abbrev pub first_record : (ℕ → Bool) → ℕ → ℕ → ℕ → Option ℕ
first_record test at size zero = None
first_record test at size (suc n) = if test at then first_record test (at + size) size n else Some at

-- n records, each size bytes after the one before
abbrev pub records : {X : Type 0} → (ℕ → X) → ℕ → ℕ → ℕ → List X
records record_at at size zero = []
records record_at at size (suc n) = record_at at ∷ records record_at (at + size) size n

-- a reader that refuses names this first fault, or found no memory
abbrev pub RefusedBy : Option Fault → ReadRefusal → Type 0
RefusedBy first (refusals.Malformed f) = first ≡ Some f
RefusedBy first refusals.NoMemory = Unit {0}

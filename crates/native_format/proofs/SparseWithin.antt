-- The places that a sparse array's look-up answers are in the array's bytes.
use Rattle.std.proofs.Common.{◌≡◌, ℕ, ◌+◌, ◌/◌, ◌%◌, ◌==◌, ◌&&◌, ◌≤◌, Bool, true, false, cond, List, [], ◌∷◌, length, Option, Some, None}
use Rattle.std.proofs.Common.{Result, Ok, Err, refl, arith}
use Rattle.std.specs.Prelude.{not, nat_le}
use Rattle.std.proofs.lemmas.Bool.Decides.{nat_tests}
use Rattle.rtr_bytes.specs.declared.fault.Fault.{Fault}
use Rattle.native_format.specs.declared.sparse.Step.{Step}
use Rattle.native_format.specs.declared.sparse.Step.TheVariants as steps
use Rattle.native_format.specs.Uint.{uint_at}
use Rattle.native_format.specs.Sparse.{Answer, IsWithin, bit_of, onward, path, step_at, step_of}
use Rattle.native_format.proofs.UintLaws.{found}

abbrev pub StepIsWithin : ℕ → Result Step Fault → Type 0
StepIsWithin n (Ok (steps.Child place)) = place ≤ n
StepIsWithin n (Ok (steps.Content place)) = place ≤ n
StepIsWithin n (Ok steps.Absent) = Unit {0}
StepIsWithin n (Err fault) = fault.place ≤ n

-- what holds of both sides of a test
either_way : {X : Type 0} (P : X → Type 0) (b : Bool) (x y : X) → (b ≡ true → P x) → (b ≡ false → P y) → P (cond b x y)
either_way P true x y here there = here refl
either_way P false x y here there = there refl

step_of_within : (bytes : List ℕ) (low : ℕ) (bit : Bool) (at : ℕ) (read : Option (ℕ × ℕ)) → at ≤ length bytes
    → ((v next : ℕ) → read ≡ Some (v, next) → next ≤ length bytes) → StepIsWithin (length bytes) (step_of bytes low bit at read)
step_of_within bytes low bit at None h behind_is = h
step_of_within bytes low bit at (Some (v, behind)) h behind_is =
    let fits : behind ≤ length bytes = behind_is v behind refl in
    let P : Result Step Fault → Type 0 = λ s. StepIsWithin (length bytes) s in
    either_way P (bit && (v / 2 % 2 == 1)) _ _
    (λ _. either_way P (nat_le (at + v / 4) (length bytes)) _ _ (λ t. grind (arith, nat_tests)) (λ _. h))
    (λ _. either_way P (not bit && (v % 2 == 1)) _ _ (λ _. fits)
    (λ _. either_way P ((v % 4 == 0) && (v / 4 == low)) _ _ (λ _. fits) (λ _. tt)))

step_at_within : (bytes : List ℕ) (low weight at : ℕ) → at ≤ length bytes → StepIsWithin (length bytes) (step_at bytes low weight at)
unfolding step_at
step_at_within bytes low weight at h =
    step_of_within bytes low (bit_of low weight) at (uint_at bytes at) h (λ v next e. (found bytes at v next e).within)

onward_within : (n : ℕ) (go : ℕ → Answer) (s : Result Step Fault) → StepIsWithin n s → ((place : ℕ) → place ≤ n → IsWithin n (go place))
    → IsWithin n (onward go s)
onward_within n go (Ok (steps.Child place)) h on = on place h
onward_within n go (Ok (steps.Content place)) h on = h
onward_within n go (Ok steps.Absent) h on = tt
onward_within n go (Err fault) h on = h

pub path_within : (bytes : List ℕ) (low : ℕ) (ws : List ℕ) (at : ℕ) → at ≤ length bytes → IsWithin (length bytes) (path bytes low ws at)
unfolding path
path_within bytes low [] at h = h
path_within bytes low (weight ∷ ws) at h =
    onward_within (length bytes) (path bytes low ws) (step_at bytes low weight at) (step_at_within bytes low weight at h)
    (path_within bytes low ws)

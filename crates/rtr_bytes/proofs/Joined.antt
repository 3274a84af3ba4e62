-- The first fault over two lists of checks, one after the other.
use Rattle.std.proofs.Common.{◌≡◌, ℕ, List, [], ◌∷◌, ◌++◌, Option, Some, None, refl}
use Rattle.rtr_bytes.specs.declared.fault.Fault.{Fault}
use Rattle.rtr_bytes.specs.Checks.{Check, first_fault, fault_or}

none_of : (n : ℕ) (o : Option ℕ) (a b c : Option Fault) → (a ≡ None → b ≡ c) → fault_or n o a ≡ None → fault_or n o b ≡ c
none_of n None a b c f e = f e
none_of n (Some p) a b c f e = absurd (let x : ⊥ = cc in x)

some_of : (n : ℕ) (o : Option ℕ) (a b : Option Fault) (f : Fault) → (a ≡ Some f → b ≡ Some f) → fault_or n o a ≡ Some f
    → fault_or n o b ≡ Some f
some_of n None a b f g e = g e
some_of n (Some p) a b f g e = e

-- where no check of the first list fails, the first fault is that of the second
pub first_fault-append : (cs ds : List Check) (bytes : List ℕ) → first_fault cs bytes ≡ None
    → first_fault (cs ++ ds) bytes ≡ first_fault ds bytes
first_fault-append [] ds bytes h = refl
first_fault-append (c ∷ cs) ds bytes h =
    none_of c.number (c.failing_place bytes) (first_fault cs bytes) (first_fault (cs ++ ds) bytes)
    (first_fault ds bytes) (first_fault-append cs ds bytes) h

-- and else it is that of the first list
pub first_fault-append_some : (cs ds : List Check) (bytes : List ℕ) (f : Fault) → first_fault cs bytes ≡ Some f
    → first_fault (cs ++ ds) bytes ≡ Some f
first_fault-append_some [] ds bytes f h = absurd (let x : ⊥ = cc in x)
first_fault-append_some (c ∷ cs) ds bytes f h =
    some_of c.number (c.failing_place bytes) (first_fault cs bytes) (first_fault (cs ++ ds) bytes) f
    (first_fault-append_some cs ds bytes f) h

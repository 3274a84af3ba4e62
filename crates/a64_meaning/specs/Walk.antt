-- Straight code: so many steps of the machine, none of which leaves it. What a compiler proves of its words is said of these.
use Rattle.std.specs.Prelude.{◌≡◌, ◌+◌, ℕ, zero, suc, List, [], ◌∷◌, Some}
use Rattle.a64_meaning.specs.Machine.{Machine, Bytes, Ground, Goal, Next, Loads, Helper, Stub, BadCode, BadAccess}
use Rattle.a64_meaning.specs.Access.{plain_load}
use Rattle.a64_meaning.specs.Step.{step}

abbrev pub then_goal : {H : Type 0} → Goal H → (Machine → H → Goal H) → Goal H
then_goal (Next m h) next = next m h
then_goal (Loads rva go) next = Loads rva (λ n. then_goal (go n) next)
then_goal (Helper n) next = Helper n
then_goal (Stub n) next = Stub n
then_goal (BadCode address) next = BadCode address
then_goal (BadAccess address) next = BadAccess address

-- exactly so many steps
unfoldable pub walk : {H : Type 0} → Bytes H → Ground → ℕ → Machine → H → Goal H
walk b g zero m h = Next m h
walk b g (suc n) m h = then_goal (step b g m h) (walk b g n)

-- where cells answer by `answers`, it goes on with a machine and a memory of which Q holds
unfoldable pub LeadsTo : {H : Type 0} → (ℕ → ℕ → Type 0) → (Machine → H → Type 0) → Goal H → Type 0
LeadsTo answers Q (Next m h) = Q m h
LeadsTo answers Q (Loads rva go) = (n : ℕ) → answers rva n → LeadsTo answers Q (go n)
LeadsTo answers Q (Helper n) = ⊥
LeadsTo answers Q (Stub n) = ⊥
LeadsTo answers Q (BadCode address) = ⊥
LeadsTo answers Q (BadAccess address) = ⊥

-- the image has these words from an RVA on, outside its cells
unfoldable pub HasCode : Ground → ℕ → List ℕ → Type 0
HasCode g rva [] = Unit {0}
HasCode g rva (word ∷ words) = (plain_load g 4 rva ≡ Some word) × HasCode g (rva + 4) words

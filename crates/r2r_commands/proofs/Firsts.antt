-- The first of some refusals.
use Rattle.std.proofs.Common.{◌≡◌, List, [], ◌∷◌, ◌++◌, Option, Some, None, Ok, Err, refl, sym, ap}
use Rattle.r2r_commands.specs.declared.refusals.Stop.{Stop}
use Rattle.r2r_commands.specs.declared.refusals.Stop.TheVariants as stops
use Rattle.r2r_commands.specs.Refusals.{Refusal, meaning}
use Rattle.r2r_commands.specs.Ending.{Reply, Refuses, Decides}
use Rattle.r2r_commands.specs.Loaded.{IsUnlessRefused, first_of}

-- one of the front is that of all
pub first_in_front : (some others : List Refusal) (refusal : Refusal) → first_of some ≡ Some refusal
    → first_of (some ++ others) ≡ Some refusal
first_in_front [] others refusal e = absurd cc
first_in_front (first ∷ later) others refusal e = e

-- where the front has none, what is said of the others is said of all
pub first_after : (some others : List Refusal) (first : Option Refusal) → some ≡ [] → first_of others ≡ first
    → first_of (some ++ others) ≡ first
first_after some others first none e = rw none e

pub none_of_both : (some others : List Refusal) → some ≡ [] → others ≡ [] → some ++ others ≡ []
none_of_both some others none e = rw none e

-- there is none where there is no first one
pub none_first : (some : List Refusal) → first_of some ≡ None → some ≡ []
none_first [] e = refl
none_first (first ∷ later) e = absurd cc

-- the first decides
pub first_decides : (all : List Refusal) (A : Type 0) (refusal : Refusal) → first_of all ≡ Some refusal → Decides all A (Refuses refusal)
first_decides [] A refusal e = absurd cc
first_decides (first ∷ later) A refusal e = let same : first ≡ refusal = cc in ap Refuses (sym same)

pub answer_decides : (all : List Refusal) (A : Type 0) (reply : Reply) → all ≡ [] → A → Decides all A reply
answer_decides all A reply none answer = rw none answer

-- ---- answers by what refuses, in front of other refusals or after them

module _ {X Y : Type 0} (P : X → Type 0) (Q : Y → Type 0) (some others : List Refusal) where
  pub stops_in_front : (stop : Stop) → IsUnlessRefused some P (Err stop) → IsUnlessRefused (some ++ others) Q (Err stop)
  stops_in_front (stops.Refused refusal) h = first_in_front some others (meaning refusal) h
  stops_in_front stops.NoMemory h = tt

  pub stops_after : (stop : Stop) → some ≡ [] → IsUnlessRefused others P (Err stop) → IsUnlessRefused (some ++ others) Q (Err stop)
  stops_after (stops.Refused refusal) none h = first_after some others (Some (meaning refusal)) none h
  stops_after stops.NoMemory none h = tt

pub ends_after : {X : Type 0} (P Q : X → Type 0) (some others : List Refusal) (x : X) → some ≡ [] → (P x → Q x)
    → IsUnlessRefused others P (Ok x) → IsUnlessRefused (some ++ others) Q (Ok x)
ends_after P Q some others x none more h = (none_of_both some others none h.0, more h.1)

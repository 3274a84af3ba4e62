-- Checks that pass, before others in a list.
use Rattle.std.proofs.Common.{◌≡◌, ℕ, List, [], ◌∷◌, ◌++◌, Option, None, refl, ap, ◌∙◌}
use Rattle.rtr_bytes.specs.Checks.{Check, first_fault, fault_or}

-- each check passes
abbrev pub AllPass : List Check → List ℕ → Type 0
AllPass [] bytes = Unit {0}
AllPass (c ∷ cs) bytes = (c.failing_place bytes ≡ None) × AllPass cs bytes

pub pass-by : (cs ds : List Check) (bytes : List ℕ) → AllPass cs bytes → first_fault (cs ++ ds) bytes ≡ first_fault ds bytes
pass-by [] ds bytes h = refl
pass-by (c ∷ cs) ds bytes (h, hs) = ap (λ (t : Option ℕ). fault_or c.number t (first_fault (cs ++ ds) bytes)) h ∙ pass-by cs ds bytes hs

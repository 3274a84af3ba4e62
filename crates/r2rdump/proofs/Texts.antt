-- What a reference that may be none refers to, or another.
use Rattle.std.proofs.Common.{Bor, ◌≡◌, ℕ, List, Option, Some, None, ap, ◌∙◌}
use Rattle.std.specs.Prelude.{option_copied, unwrap_or}

now_or : (o : Option (Bor (List ℕ))) (d : Bor (List ℕ)) (text : Option (List ℕ)) → option_copied o ≡ text
    → (unwrap_or o d).now ≡ unwrap_or text d.now
now_or None d text e = ap (λ (t : Option (List ℕ)). unwrap_or t d.now) e
now_or (Some r) d text e = ap (λ (t : Option (List ℕ)). unwrap_or t d.now) e

-- what is found at a place, by a place that is the same
pub found_or : (found : ℕ → Option (List ℕ)) (o : Option (Bor (List ℕ))) (d : Bor (List ℕ)) (at place : ℕ)
    → option_copied o ≡ found at → at ≡ place → (unwrap_or o d).now ≡ unwrap_or (found place) d.now
found_or found o d at place e same =
    now_or o d (found at) e ∙ ap (λ (n : ℕ). unwrap_or (found n) d.now) same

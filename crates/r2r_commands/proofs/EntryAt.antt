-- The entry that is split at the last `::`, by where that is.
use Rattle.std.proofs.Common.{◌≡◌, ℕ, zero, suc, ◌≤◌, List, [], ◌∷◌, length, take, drop}
use Rattle.std.proofs.Common.{Some, None, Bool, true, false, refl}
use Rattle.std.proofs.Common.{arith, eqb-true}
use Rattle.std.specs.Prelude.{◌==◌, ◌&&◌, if◌then◌else◌}
use Rattle.std.specs.Str.Pattern.{LacksTextAt}
use Rattle.r2r_commands.specs.RunWords.{Entry, after_colons, split_entry}

abbrev pub colons : List ℕ
colons = 0x3A ∷ 0x3A ∷ []

-- the text has no `::` from this place on
abbrev pub LacksFrom : List ℕ → ℕ → Type 0
LacksFrom text low = (i : ℕ) → low ≤ i → i ≤ length text → LacksTextAt colons text i

lacks_rest : (b : ℕ) (text : List ℕ) (low : ℕ) → LacksFrom (b ∷ text) (suc low) → LacksFrom text low
lacks_rest b text low h i from to rest e = h (suc i) (omega arith) (omega arith) rest e

no_colons : (b : ℕ) (text : List ℕ) → LacksTextAt colons (b ∷ text) 0 → after_colons b text ≡ None
no_colons b [] h = refl
no_colons b (c ∷ method) h = by_tests (record { type_name = []; method = method }) (b == 0x3A) (c == 0x3A) refl refl
  where
    by_tests : (entry : Entry) (x y : Bool) → (b == 0x3A) ≡ x → (c == 0x3A) ≡ y → (if x && y then Some entry else None) ≡ None
    by_tests entry true true e f =
        let first : b ≡ 0x3A = eqb-true b 0x3A e in
        let second : c ≡ 0x3A = eqb-true c 0x3A f in
        absurd (h method (rw (first, second) refl))
    by_tests entry true false e f = refl
    by_tests entry false y e f = refl

pub lacks_none : (text : List ℕ) → LacksFrom text 0 → split_entry text ≡ None
lacks_none [] h = refl
lacks_none (b ∷ text) h =
    rw (lacks_none text (lacks_rest b text 0 (λ i from to. h i (omega arith) to)), no_colons b text (h 0 (omega arith) (omega arith))) refl

-- it is split at a place that has `::` and after which there is none
pub splits_at : (i : ℕ) (text after : List ℕ) → drop i text ≡ 0x3A ∷ 0x3A ∷ after → LacksFrom text (suc i)
    → split_entry text ≡ Some (record { type_name = take i text; method = after })
splits_at zero [] after at lacks = cc
splits_at zero (b ∷ []) after at lacks = cc
splits_at zero (b ∷ c ∷ method) after at lacks =
    let first : b ≡ 0x3A = cc in
    let second : c ≡ 0x3A = cc in
    let last : method ≡ after = cc in
    rw (lacks_none (c ∷ method) (lacks_rest b (c ∷ method) 0 lacks), first, second, last) refl
splits_at (suc i) [] after at lacks = cc
splits_at (suc i) (b ∷ text) after at lacks = rw (splits_at i text after at (lacks_rest b text (suc i) lacks)) refl

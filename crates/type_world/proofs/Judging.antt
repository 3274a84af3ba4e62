-- Up the bases of a type: whether it is in the profile.
use Rattle.std.proofs.Common.{◌≡◌, ℕ, zero, suc, ◌+◌, ◌-◌, ◌<◌, ◌≤◌, Bool, sym, ap, ◌∙◌, refl, arith}
use Rattle.type_world.specs.declared.classes_in_profile.Judged.{Judged}
use Rattle.type_world.specs.declared.classes_in_profile.Judged.TheVariants.{Decided, ByBase}
use Rattle.type_world.specs.declared.identity.TypeId.{TypeId}
use Rattle.type_world.specs.Profile.{class_within, type_in_profile}
use Rattle.type_world.specs.Profiled.{judged}
use Rattle.type_world.specs.World.{World}

pub from_start : (world : World) (of : TypeId) → type_in_profile world of ≡ class_within (64 - 0) world of
unfolding type_in_profile
from_start world of = refl

-- a type says the same for every number of bases
abbrev pub Says : World → TypeId → Judged → Type 0
Says world of j = (n : ℕ) → judged (class_within n world) j ≡ class_within (suc n) world of

one_base : (world : World) (of : TypeId) (passed : ℕ) (j : Judged) → passed < 64 → Says world of j
    → class_within (64 - passed) world of ≡ judged (class_within (64 - (passed + 1)) world) j
one_base world of passed j l says =
    let more : 64 - passed ≡ suc (64 - (passed + 1)) = omega arith in
    ap (λ n. class_within n world of) more ∙ sym (says (64 - (passed + 1)))

pub decided : (world : World) (of : TypeId) (passed : ℕ) (j : Judged) (answer : Bool) → passed < 64 → Says world of j → j ≡ Decided answer
    → class_within (64 - passed) world of ≡ answer
decided world of passed j answer l says e = one_base world of passed j l says ∙ ap (judged (class_within (64 - (passed + 1)) world)) e

pub by_base : (world : World) (of base : TypeId) (passed : ℕ) (j : Judged) → passed < 64 → Says world of j → j ≡ ByBase base
    → class_within (64 - passed) world of ≡ class_within (64 - (passed + 1)) world base
by_base world of base passed j l says e = one_base world of passed j l says ∙ ap (judged (class_within (64 - (passed + 1)) world)) e

pub no_bases : (world : World) (of : TypeId) (passed : ℕ) → 64 ≤ passed → class_within (64 - passed) world of ≡ class_within zero world of
no_bases world of passed l = let none : 64 - passed ≡ 0 = omega arith in ap (λ n. class_within n world of) none

-- No written list of slots is longer than 17 bytes for each slot, and 2.
use Rattle.std.proofs.Common.{◌≡◌, ℕ, ◌+◌, ◌*◌, ◌-◌, ◌/◌, ◌%◌, ◌^◌, ◌<◌, ◌≤◌, Bool, true, false, cond, eqb, List, [], ◌∷◌, ◌++◌, length}
use Rattle.std.proofs.Common.{map, refl, arith}
use Rattle.std.specs.List.{AllByRecursion, flat_map}
use Rattle.std.specs.Int.Digits.{digits_of}
use Rattle.std.proofs.lemmas.List.{length-append, length-map}
use Rattle.std.proofs.lemmas.Int.Digits.{length-digits_of-le}
use Rattle.native_format.specs.declared.nibbles.SlotRef.{SlotRef}
use Rattle.native_format.specs.Nibbles.{FitsWords, groups, list_bytes, numbers_after_slot, numbers_of, packed}

groups_bounded : (v : ℕ) → v < 2 ^ 32 → length (groups v) ≤ 11
unfolding groups
groups_bounded v h =
    let few = length-digits_of-le 8 10 (v / 8) (omega arith) (omega arith) in
    omega (arith, few, length-append (map (λ d. 8 + d) (digits_of 8 (v / 8))) ((v % 8) ∷ []), length-map (digits_of 8 (v / 8)) (λ d. 8 + d))

no_groups : length (groups 0) ≤ 1
unfolding groups
no_groups =
    let few = length-digits_of-le 8 0 (0 / 8) (omega arith) (omega arith) in
    omega (arith, few, length-append (map (λ d. 8 + d) (digits_of 8 (0 / 8))) ((0 % 8) ∷ []), length-map (digits_of 8 (0 / 8)) (λ d. 8 + d))

nibbles_of : List ℕ → ℕ
nibbles_of numbers = length (flat_map groups numbers)

nibbles_cons : (v : ℕ) (vs : List ℕ) → nibbles_of (v ∷ vs) ≡ length (groups v) + nibbles_of vs
unfolding nibbles_of
nibbles_cons v vs = length-append (groups v) (flat_map groups vs)

no_nibbles : nibbles_of [] ≡ 0
unfolding nibbles_of
no_nibbles = refl

between_bounded : (b : Bool) (low high slot : ℕ) (others : List ℕ) → low < 2 ^ 32 → high < 2 ^ 32 → slot < 2 ^ 32
    → nibbles_of (cond b (low ∷ []) (0 ∷ high ∷ slot ∷ []) ++ others) ≤ 33 + nibbles_of others
between_bounded true low high slot others p q r = omega (arith, nibbles_cons low others, groups_bounded low p)
between_bounded false low high slot others p q r =
    omega (
      arith,
      nibbles_cons 0 (high ∷ slot ∷ others),
      nibbles_cons high (slot ∷ others),
      nibbles_cons slot others,
      no_groups,
      groups_bounded high q,
      groups_bounded slot r,
    )

others_bounded : (last : SlotRef) (list : List SlotRef) → AllByRecursion FitsWords list
    → nibbles_of (numbers_after_slot last list) ≤ 33 * length list + 2
unfolding numbers_after_slot
others_bounded last [] fit = omega (arith, nibbles_cons 0 (0 ∷ []), nibbles_cons 0 [], no_nibbles, no_groups)
others_bounded last (r ∷ rs) fit =
    let others = numbers_after_slot r rs in
    let here = between_bounded (eqb r.section last.section) (r.slot - last.slot) (r.section - last.section) r.slot others
    (omega (arith, fit.0.1)) (omega (arith, fit.0.0)) fit.0.1 in
    omega (arith, here, others_bounded r rs fit.1)

all_bounded : (list : List SlotRef) → AllByRecursion FitsWords list → nibbles_of (numbers_of list) ≤ 33 * length list + 2
unfolding numbers_of
all_bounded [] fit = omega (arith, no_nibbles)
all_bounded (r ∷ rs) fit =
    omega (
      arith,
      nibbles_cons r.section (r.slot ∷ numbers_after_slot r rs),
      nibbles_cons r.slot (numbers_after_slot r rs),
      groups_bounded r.section fit.0.0,
      groups_bounded r.slot fit.0.1,
      others_bounded r rs fit.1,
    )

packed_bounded : (ns : List ℕ) → 2 * length (packed ns) ≤ length ns + 1
unfolding packed
packed_bounded [] = omega arith
packed_bounded (low ∷ []) = omega arith
packed_bounded (low ∷ high ∷ ns) = omega (arith, packed_bounded ns)

pub list_bounded : (list : List SlotRef) → AllByRecursion FitsWords list → length (list_bytes list) ≤ 17 * length list + 2
unfolding nibbles_of
list_bounded list fit = omega (arith, packed_bounded (flat_map groups (numbers_of list)), all_bounded list fit)

-- Where fields and methods of types begin, with one more of them, and with one type more.
use Rattle.std.proofs.Common.{◌≡◌, ◌≤◌, ◌+◌, ◌^◌, ℕ, true, false, not, List, [], ◌∷◌, ◌++◌, map, refl, arith, inl, inr}
use Rattle.std.specs.Prelude.{◌&&◌, ◌==◌, nat_le, nat_lt}
use Rattle.std.specs.List.{list_all}
use Rattle.std.proofs.lemmas.Bool.{and_from, and_parts, cases_lt, leb-true, le-leb, lt-ltb, ltb-true, ne_eqb, eqb-false}
use Rattle.std.proofs.lemmas.Bool.{not-true, not_from_false}
use Rattle.std.proofs.lemmas.Bool.{or_cases, or_left, or_right}
use Rattle.asm_builder.specs.Cells.{is_empty}
use Rattle.asm_builder.specs.Sound.{are_owned, are_rising, begins_at_first, has_number}
use Rattle.asm_builder.proofs.OneRow.{all_mono, all_push, all_push_back}

rising_more : (from : ℕ) (ns : List ℕ) (last next : ℕ) → last ≤ next → are_rising from ns last ≡ true → are_rising from ns next ≡ true
rising_more from [] last next le ok = let here = leb-true from last ok in le-leb from next (omega (arith, here, le))
rising_more from (n ∷ ns) last next le ok =
    let parts = and_parts (nat_le from n) (are_rising n ns last) ok in
    and_from (nat_le from n) (are_rising n ns next) parts.0 (rising_more n ns last next le parts.1)

number_more : (last next n : ℕ) → last ≤ next → has_number last n ≡ true → has_number next n ≡ true
number_more last next n le ok = elim (or_cases (nat_le (2 ^ 16) last) (nat_lt (n + 1) (2 ^ 16)) ok) [
  | inl many ↦
      let here = leb-true (2 ^ 16) last many in
      or_left (nat_le (2 ^ 16) next) (nat_lt (n + 1) (2 ^ 16)) (le-leb (2 ^ 16) next (omega (arith, here, le)))
  | inr small ↦ or_right (nat_le (2 ^ 16) next) (nat_lt (n + 1) (2 ^ 16)) small
]

module _ {X : Type 0} (before : X → ℕ) (last : ℕ) where
  -- one more field or method
  pub owned_more : (types : List X) (next : ℕ) → next ≡ last + 1 → not (is_empty types) ≡ true → are_owned (map before types) last ≡ true
      → are_owned (map before types) next ≡ true
  owned_more [] next e has ok = absurd (let h : ⊥ = cc in h)
  owned_more (t ∷ types) next e has ok =
      let starts = map before (t ∷ types) in
      let le : last ≤ next = omega (arith, e) in
      let parts = and_parts (begins_at_first starts last) (are_rising 0 starts last && list_all (has_number last) starts) ok in
      let rest = and_parts (are_rising 0 starts last) (list_all (has_number last) starts) parts.1 in
      and_from (begins_at_first starts next) (are_rising 0 starts next && list_all (has_number next) starts) parts.0
      (and_from (are_rising 0 starts next) (list_all (has_number next) starts) (rising_more 0 starts last next le rest.0)
      (all_mono (has_number last) (has_number next) (λ n. number_more last next n le) starts rest.1))

  pub owner_is : (types : List X) (next : ℕ) → next ≡ last + 1 → are_owned (map before types) next ≡ true → not (is_empty types) ≡ true
  owner_is [] next e ok =
      let first = (and_parts (next == 0) (are_rising 0 [] next && true) ok).0 in
      let some : (next == 0) ≡ false = ne_eqb next 0 (λ z. omega (arith, z, e)) in
      absurd (let h : ⊥ = cc in h)
  owner_is (t ∷ types) next e ok = refl

rising_end : (from : ℕ) (ns : List ℕ) (last : ℕ) → are_rising from ns last ≡ true → are_rising from (ns ++ last ∷ []) last ≡ true
rising_end from [] last ok = and_from (nat_le from last) (nat_le last last) ok (le-leb last last (omega arith))
rising_end from (n ∷ ns) last ok =
    let parts = and_parts (nat_le from n) (are_rising n ns last) ok in
    and_from (nat_le from n) (are_rising n (ns ++ last ∷ []) last) parts.0 (rising_end n ns last parts.1)

begins_end : (ns : List ℕ) (last : ℕ) → begins_at_first ns last ≡ true → begins_at_first (ns ++ last ∷ []) last ≡ true
begins_end [] last ok = ok
begins_end (n ∷ ns) last ok = ok

-- the number of the next one fits
own_number : (last : ℕ) → not (last == 0xFFFF) ≡ true → has_number last last ≡ true
own_number last other =
    let differs = eqb-false last 0xFFFF (not-true (last == 0xFFFF) other) in
    elim (cases_lt last 0xFFFF) [
      | inl less ↦ or_right (nat_le (2 ^ 16) last) (nat_lt (last + 1) (2 ^ 16)) (lt-ltb (last + 1) (2 ^ 16) (omega (arith, less)))
      | inr more ↦ or_left (nat_le (2 ^ 16) last) (nat_lt (last + 1) (2 ^ 16)) (le-leb (2 ^ 16) last (past last more differs))
    ] where
      past : (last : ℕ) → 0xFFFF ≤ last → (last ≡ 0xFFFF → ⊥) → 2 ^ 16 ≤ last
      past last more differs = elim (cases_lt last (2 ^ 16)) [ inl less ↦ absurd (differs (omega (arith, more, less))) | inr le ↦ le ]

number_is : (last : ℕ) → has_number last last ≡ true → not (last == 0xFFFF) ≡ true
number_is last ok = elim (or_cases (nat_le (2 ^ 16) last) (nat_lt (last + 1) (2 ^ 16)) ok) [
  | inl many ↦
      let here = leb-true (2 ^ 16) last many in not_from_false (last == 0xFFFF) (ne_eqb last 0xFFFF (λ e. omega (arith, e, here)))
  | inr small ↦
      let here = ltb-true (last + 1) (2 ^ 16) small in not_from_false (last == 0xFFFF) (ne_eqb last 0xFFFF (λ e. omega (arith, e, here)))
]

-- one type more
pub owned_end : (starts : List ℕ) (last : ℕ) → not (last == 0xFFFF) ≡ true → are_owned starts last ≡ true
    → are_owned (starts ++ last ∷ []) last ≡ true
owned_end starts last other ok =
    let parts = and_parts (begins_at_first starts last) (are_rising 0 starts last && list_all (has_number last) starts) ok in
    let rest = and_parts (are_rising 0 starts last) (list_all (has_number last) starts) parts.1 in
    let all = starts ++ last ∷ [] in
    and_from (begins_at_first all last) (are_rising 0 all last && list_all (has_number last) all) (begins_end starts last parts.0)
    (and_from (are_rising 0 all last) (list_all (has_number last) all) (rising_end 0 starts last rest.0)
    (all_push (has_number last) starts last rest.1 (own_number last other)))

pub end_is : (starts : List ℕ) (last : ℕ) → are_owned (starts ++ last ∷ []) last ≡ true → not (last == 0xFFFF) ≡ true
end_is starts last ok =
    let all = starts ++ last ∷ [] in
    let parts = and_parts (begins_at_first all last) (are_rising 0 all last && list_all (has_number last) all) ok in
    let rest = and_parts (are_rising 0 all last) (list_all (has_number last) all) parts.1 in
    number_is last (all_push_back (has_number last) starts last rest.1)

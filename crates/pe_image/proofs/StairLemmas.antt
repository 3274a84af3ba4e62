-- The stairs of a run of sections: made of the sections in the order of their RVAs, and asked at one step.
use Rattle.std.proofs.Common.{◌≡◌, ℕ, zero, suc, ◌+◌, ◌-◌, ◌<◌, ◌≤◌, leb, Bool, true, false, List, [], ◌∷◌, ◌++◌}
use Rattle.std.proofs.Common.{length, drop, get_or, refl, sym, ap, subst, append-nil, ◌∙◌, arith, inl, inr}
use Rattle.std.specs.Prelude.{max, nat_le, ◌&&◌, ◌||◌}
use Rattle.std.specs.List.{list_any, AllWithin}
use Rattle.std.specs.List.Sorted.{IsNonDecreasingBy, IsPermutation}
use Rattle.std.proofs.lemmas.Bool.{cases_lt, le-leb, lt-leb, leb-true, or_cases, and_from, and_right}
use Rattle.std.proofs.lemmas.List.{get_or_default, drop_all}
use Rattle.std.proofs.lemmas.List.Folds.{list_any_none, list_any_at}
use Rattle.std.proofs.lemmas.List.Sorted.{length_permutation, list_any-IsPermutation}
use Rattle.pe_image.specs.declared.section.PeSection.{PeSection}
use Rattle.pe_image.specs.declared.finder.Step.{Step}
use Rattle.pe_image.specs.Sections.{has_range}
use Rattle.pe_image.specs.Finder.{holds, IsRising, IsStairs}

-- ---- numbers that rise along a list

abbrev pub Above : {X : Type 0} → (X → ℕ) → ℕ → List X → Type 0
Above n low [] = Unit {0}
Above n low (x ∷ xs) = (low ≤ n x) × Above n low xs

abbrev pub Rises : {X : Type 0} → (X → ℕ) → List X → Type 0
Rises n [] = Unit {0}
Rises n (x ∷ xs) = Above n (n x) xs × Rises n xs

above_from : {X : Type 0} (n : X → ℕ) (low : ℕ) (xs : List X) → ((k : ℕ) (d : X) → k < length xs → low ≤ n (get_or xs k d)) → Above n low xs
above_from n low [] h = tt
above_from n low (x ∷ xs) h = (h 0 x (omega arith), above_from n low xs (λ k d below. h (suc k) d (omega arith)))

rises_from : {X : Type 0} (n : X → ℕ) (xs : List X) → IsNonDecreasingBy n xs → Rises n xs
rises_from n [] h = tt
rises_from n (x ∷ xs) h = (
  above_from n (n x) xs (λ k d below. h 0 (suc k) d (omega arith) (omega arith)),
  rises_from n xs
      (λ i j d le below. h (suc i) (suc j) d (omega arith) (omega arith)),
)

above_at : {X : Type 0} (n : X → ℕ) (low : ℕ) (xs : List X) → Above n low xs → (k : ℕ) (d : X) → k < length xs → low ≤ n (get_or xs k d)
above_at n low [] h k d below = absurd (let x : ⊥ = omega arith in x)
above_at n low (x ∷ xs) (h, hs) zero d below = h
above_at n low (x ∷ xs) (h, hs) (suc k) d below = above_at n low xs hs k d (omega arith)

rises_at : {X : Type 0} (n : X → ℕ) (xs : List X) → Rises n xs → IsNonDecreasingBy n xs
rises_at n [] h i j d le below = absurd (let x : ⊥ = omega arith in x)
rises_at n (x ∷ xs) (h, hs) zero zero d le below = omega arith
rises_at n (x ∷ xs) (h, hs) zero (suc j) d le below = above_at n (n x) xs h j d (omega arith)
rises_at n (x ∷ xs) (h, hs) (suc i) zero d le below = absurd (let x : ⊥ = omega arith in x)
rises_at n (x ∷ xs) (h, hs) (suc i) (suc j) d le below = rises_at n xs hs i j d (omega arith) (omega arith)

-- ---- the stairs

abbrev section_rva : PeSection → ℕ
section_rva s = s.rva

abbrev raw_end : PeSection → ℕ
raw_end s = s.rva + s.raw_size

abbrev step_rva : Step → ℕ
step_rva s = s.rva

abbrev step_reach : Step → ℕ
step_reach s = s.reach

-- a step for each section, where those before it reach up to an end
abbrev pub steps_from : ℕ → List PeSection → List Step
steps_from reach [] = []
steps_from reach (s ∷ ss) = record { rva = s.rva; reach = max reach (raw_end s) } ∷ steps_from (max reach (raw_end s)) ss

length-steps_from : (ss : List PeSection) (reach : ℕ) → length (steps_from reach ss) ≡ length ss
length-steps_from [] reach = refl
length-steps_from (s ∷ ss) reach = omega (arith, length-steps_from ss (max reach (raw_end s)))

above_rva : (ss : List PeSection) (reach low : ℕ) → Above section_rva low ss → Above step_rva low (steps_from reach ss)
above_rva [] reach low h = tt
above_rva (s ∷ ss) reach low (h, hs) = (h, above_rva ss (max reach (raw_end s)) low hs)

rises_rva : (ss : List PeSection) (reach : ℕ) → Rises section_rva ss → Rises step_rva (steps_from reach ss)
rises_rva [] reach h = tt
rises_rva (s ∷ ss) reach (h, hs) = (above_rva ss (max reach (raw_end s)) s.rva h, rises_rva ss (max reach (raw_end s)) hs)

above_reach : (ss : List PeSection) (reach low : ℕ) → low ≤ reach → Above step_reach low (steps_from reach ss)
above_reach [] reach low h = tt
above_reach (s ∷ ss) reach low h = (omega arith, above_reach ss (max reach (raw_end s)) low (omega arith))

rises_reach : (ss : List PeSection) (reach : ℕ) → Rises step_reach (steps_from reach ss)
rises_reach [] reach = tt
rises_reach (s ∷ ss) reach =
    (above_reach ss (max reach (raw_end s)) (max reach (raw_end s)) (omega arith), rises_reach ss (max reach (raw_end s)))

-- ---- whether a step holds a range

abbrev begins : ℕ → PeSection → Bool
begins rva s = nat_le s.rva rva

abbrev spans : ℕ → ℕ → PeSection → Bool
spans rva end s = nat_le s.rva rva && nat_le end (raw_end s)

first_begins : (ss : List PeSection) (rva low : ℕ) → Above section_rva low ss → list_any (begins rva) ss ≡ true → nat_le low rva ≡ true
first_begins [] rva low h e = absurd (let x : ⊥ = cc in x)
first_begins (s ∷ ss) rva low (h, hs) e =
    elim (or_cases (nat_le s.rva rva) (list_any (begins rva) ss) e) [
      | inl here ↦ le-leb low rva (omega (arith, leb-true s.rva rva here))
      | inr later ↦ first_begins ss rva low hs later
    ]

end_max : (end a b : ℕ) → nat_le end (max a b) ≡ (nat_le end a || nat_le end b)
end_max end a b =
    elim (cases_lt a end) [
      | inl short ↦ elim (cases_lt b end) [
        | inl low ↦ lt-leb end (max a b) (omega arith) ∙ sym (ap (λ (t : Bool). t || nat_le end b) (lt-leb end a short) ∙ lt-leb end b low)
        | inr high ↦ le-leb end (max a b) (omega arith)
            ∙ sym (ap (λ (t : Bool). t || nat_le end b) (lt-leb end a short) ∙ le-leb end b high)
      ]
      | inr long ↦ le-leb end (max a b) (omega arith) ∙ sym (ap (λ (t : Bool). t || nat_le end b) (le-leb end a long))
    ]

-- The first begins, those before it reach the end, it reaches the end, a later one begins, a later one spans. The later ones
-- begin where the first does, or after it.
one_more : (first before reaches later spanned : Bool) → (later ≡ true → first ≡ true)
    → ((first && (before || reaches)) || (((before || reaches) && later) || spanned))
    ≡ ((before && (first || later)) || ((first && reaches) || spanned))
one_more true true reaches later spanned h = refl
one_more true false true later spanned h = refl
one_more true false false later spanned h = refl
one_more false before reaches true spanned h = absurd (let e : false ≡ true = h refl in let x : ⊥ = cc in x)
one_more false true reaches false spanned h = refl
one_more false false true false spanned h = refl
one_more false false false false spanned h = refl

and_none : (b : Bool) → (b && false) ≡ false
and_none true = refl
and_none false = refl

-- a step holds a range where those before the list reach its end and a section begins, or a section spans it
steps_hold : (ss : List PeSection) (reach rva end : ℕ) → Rises section_rva ss
    → list_any (holds rva end) (steps_from reach ss) ≡ ((nat_le end reach && list_any (begins rva) ss) || list_any (spans rva end) ss)
steps_hold [] reach rva end h = sym (ap (λ (t : Bool). t || false) (and_none (nat_le end reach)))
steps_hold (s ∷ ss) reach rva end (h, hs) =
    let up = max reach (raw_end s) in
    let first = nat_le s.rva rva in
    let later = list_any (begins rva) ss in
    let spanned = list_any (spans rva end) ss in
    ap (λ (t : Bool). (first && nat_le end up) || t) (steps_hold ss up rva end hs)
    ∙ ap (λ (t : Bool). (first && t) || ((t && later) || spanned)) (end_max end reach (raw_end s))
    ∙ one_more first (nat_le end reach) (nat_le end (raw_end s)) later spanned (first_begins ss rva s.rva h)

-- a step holds a range exactly where a section spans it
stairs_hold : (ss : List PeSection) (rva end : ℕ) → Rises section_rva ss
    → list_any (holds rva end) (steps_from 0 ss) ≡ list_any (spans rva end) ss
stairs_hold [] rva end h = refl
stairs_hold (s ∷ ss) rva end (h, hs) =
    let up = max 0 (raw_end s) in
    let own : up ≡ raw_end s = omega arith in
    let first = nat_le s.rva rva in
    let later = list_any (begins rva) ss in
    let spanned = list_any (spans rva end) ss in
    ap (λ (t : Bool). (first && nat_le end up) || t) (steps_hold ss up rva end hs)
    ∙ ap (λ (t : ℕ). (first && nat_le end t) || ((nat_le end t && later) || spanned)) own
    ∙ one_more first false (nat_le end (raw_end s)) later spanned (first_begins ss rva s.rva h)

are_stairs : (run sorted : List PeSection) → IsPermutation run sorted → IsNonDecreasingBy (λ (s : PeSection). s.rva) sorted
    → IsStairs (steps_from 0 sorted) run
are_stairs run sorted p h =
    let up = rises_from section_rva sorted h in
    record {
      rising = record {
        rva = rises_at step_rva (steps_from 0 sorted) (rises_rva sorted 0 up);
        reach = rises_at step_reach
            (steps_from 0 sorted) (rises_reach sorted 0);
      };
      count = length-steps_from sorted 0 ∙ length_permutation run sorted p;
      same = λ rva len. stairs_hold sorted rva (rva + len) up ∙ sym (list_any-IsPermutation (has_range rva len) run sorted p);
    }

-- once there is a step for each section
pub all_steps : (run from items sorted : List PeSection) (stairs : List Step) (reach i : ℕ) → from ≡ run → sorted ≡ items
    → IsPermutation from items → IsNonDecreasingBy (λ (s : PeSection). s.rva) items
    → length sorted ≤ i → stairs ++ steps_from reach (drop i sorted) ≡ steps_from 0 sorted → IsStairs stairs run
all_steps run from items sorted stairs reach i start end p h done e =
    let whole : stairs ≡ steps_from 0 sorted = sym (append-nil stairs)
    ∙ ap (λ (t : List PeSection). stairs ++ steps_from reach t) (sym (drop_all i sorted done)) ∙ e in
    let P : List Step → Type 0 = λ t. IsStairs t run in
    let Q : List PeSection → Type 0 = λ t. IsStairs (steps_from 0 items) t in
    subst P (sym (whole ∙ ap (λ (t : List PeSection). steps_from 0 t) end)) (subst Q start (are_stairs from items p h))

-- ---- the one step that decides

-- no step begins at or before the RVA
pub none_begins : (stairs : List Step) (rva end count : ℕ) → count ≤ 0
    → AllWithin (λ (s : Step). leb s.rva rva ≡ false) stairs count (length stairs) → list_any (holds rva end) stairs ≡ false
none_begins stairs rva end count none above =
    list_any_none (holds rva end) stairs (λ k d below. ap (λ (t : Bool). t && nat_le end (step_reach (get_or stairs k d)))
    (above k d (omega arith) below))

lower_too : (end a b : ℕ) → a ≤ b → leb end b ≡ false → leb end a ≡ false
lower_too end a b h e =
    elim (cases_lt a end) [
      | inl short ↦ lt-leb end a short
      | inr long ↦ absurd (let t : leb end b ≡ true = le-leb end b (omega arith) in let x : ⊥ = cc in x)
    ]

step_decides : (stairs : List Step) (rva end count : ℕ) (d : Step) (b : Bool) → IsRising stairs → 0 < count → count ≤ length stairs
    → AllWithin (λ (s : Step). leb s.rva rva ≡ true) stairs 0 count
    → AllWithin (λ (s : Step). leb s.rva rva ≡ false) stairs count (length stairs)
    → leb end (get_or stairs (count - 1) d).reach ≡ b → b ≡ list_any (holds rva end) stairs
step_decides stairs rva end count d true up some inside below above e =
    sym (list_any_at (holds rva end) stairs (count - 1) d (omega arith)
    (and_from (leb (get_or stairs (count - 1) d).rva rva) (leb end (get_or stairs (count - 1) d).reach)
    (below (count - 1) d (omega arith) (omega arith)) e))
step_decides stairs rva end count d false up some inside below above e =
    sym (list_any_none (holds rva end) stairs (λ k d2 within. elim (cases_lt k count) [
      | inl first ↦
          let last = get_or stairs (count - 1) d2 in
          let same : last ≡ get_or stairs (count - 1) d = get_or_default stairs (count - 1) d2 d (omega arith) in
          let short : leb end last.reach ≡ false = ap (λ (t : Step). leb end t.reach) same ∙ e in
          let rises : (get_or stairs k d2).reach ≤ last.reach = up.reach k (count - 1) d2 (omega arith) (omega arith) in
          let lower : leb end (get_or stairs k d2).reach ≡ false = lower_too end (get_or stairs k d2).reach last.reach rises short in
          and_right (leb (get_or stairs k d2).rva rva) (leb end (get_or stairs k d2).reach) lower
      | inr later ↦ ap (λ (t : Bool). t && leb end (get_or stairs k d2).reach) (above k d2 later within)
    ]))

-- the last step at or before the RVA decides it
pub last_decides : (stairs : List Step) (rva end count : ℕ) (d : Step) → IsRising stairs → 0 < count → count ≤ length stairs
    → AllWithin (λ (s : Step). leb s.rva rva ≡ true) stairs 0 count
    → AllWithin (λ (s : Step). leb s.rva rva ≡ false) stairs count (length stairs)
    → leb end (get_or stairs (count - 1) d).reach ≡ list_any (holds rva end) stairs
last_decides stairs rva end count d up some inside below above =
    step_decides stairs rva end count d (leb end (get_or stairs (count - 1) d).reach) up some inside below above refl

-- Records in a row: one step through the list of them, and what that says of the records at their places.
use Rattle.std.proofs.Common.{◌≡◌, ℕ, zero, suc, ◌+◌, ◌-◌, ◌*◌, ◌<◌, ◌≤◌, Bool, true, false, cond, leb, ltb, List, [], ◌∷◌, length, drop}
use Rattle.std.proofs.Common.{get_or, Option, Some, None, inl, inr, refl, ap, ◌∙◌, arith}
use Rattle.std.specs.Option.{option_map}
use Rattle.std.specs.List.{slice_get}
use Rattle.std.proofs.lemmas.Bool.{cases_lt, le-leb, le-ltb, lt-leb, lt-ltb}
use Rattle.std.proofs.lemmas.List.{drop_all, drop_more}
use Rattle.std.proofs.lemmas.Option.{slice_get-get_or, slice_get_past}
use Rattle.rtr_bytes.specs.Checks.{first_record, records}
use Rattle.rtr_sections.specs.declared.header.RtrSection.{RtrSection}
use Rattle.rtr_sections.specs.Listed.{first_failing, first_overlap}
use Rattle.rtr_sections.specs.Header.{ascends, has_whole_imports, imports_are_whole, range_is_placed, rtr_section_at, section_is_placed}

-- ---- one step

pub failing-step : {X : Type 0} (test : X → Bool) (at size i : ℕ) (xs : List X) (d : X) → i < length xs → test (get_or xs i d) ≡ true
    → first_failing test at size (drop i xs) ≡ first_failing test (at + size) size (drop (i + 1) xs)
failing-step test at size i xs d h holds = rw (drop_more xs i d h, holds) refl

pub failing-found : {X : Type 0} (test : X → Bool) (at size i : ℕ) (xs : List X) (d : X) → i < length xs → test (get_or xs i d) ≡ false
    → first_failing test at size (drop i xs) ≡ Some at
failing-found test at size i xs d h fails = rw (drop_more xs i d h, fails) refl

pub failing-end : {X : Type 0} (test : X → Bool) (at size i : ℕ) (xs : List X) → length xs ≤ i
    → first_failing test at size (drop i xs) ≡ None
failing-end test at size i xs h = rw (drop_all i xs h) refl

pub overlap-step : {X : Type 0} (begin end : X → ℕ) (low at size i : ℕ) (xs : List X) (d : X) → i < length xs → low ≤ begin (get_or xs i d)
    → first_overlap begin end low at size (drop i xs) ≡ first_overlap begin end (end (get_or xs i d)) (at + size) size (drop (i + 1) xs)
overlap-step begin end low at size i xs d h holds = rw (drop_more xs i d h, le-leb low (begin (get_or xs i d)) holds) refl

pub overlap-found : {X : Type 0} (begin end : X → ℕ) (low at size i : ℕ) (xs : List X) (d : X) → i < length xs → begin (get_or xs i d) < low
    → first_overlap begin end low at size (drop i xs) ≡ Some at
overlap-found begin end low at size i xs d h fails = rw (drop_more xs i d h, lt-leb low (begin (get_or xs i d)) fails) refl

pub overlap-end : {X : Type 0} (begin end : X → ℕ) (low at size i : ℕ) (xs : List X) → length xs ≤ i
    → first_overlap begin end low at size (drop i xs) ≡ None
overlap-end begin end low at size i xs h = rw (drop_all i xs h) refl

-- ---- by places

pub failing_is : {X : Type 0} (test : X → Bool) (f : ℕ → X) (at size n : ℕ)
    → first_record (λ p. test (f p)) at size n ≡ first_failing test at size (records f at size n)
failing_is test f at size zero = refl
failing_is test f at size (suc n) = ap (λ (o : Option ℕ). cond (test (f at)) o (Some at)) (failing_is test f (at + size) size n)

pub record Compares {X : Type 0} (test : ℕ → Bool) (f : ℕ → X) (begin end : X → ℕ) (size : ℕ) : Type 0 where
  pub same : (at : ℕ) → test at ≡ leb (end (f (at - size))) (begin (f at))

overlap_from : {X : Type 0} (test : ℕ → Bool) (f : ℕ → X) (begin end : X → ℕ) (size : ℕ) → Compares test f begin end size → (at n : ℕ)
    → first_record test (at + size) size n ≡ first_overlap begin end (end (f at)) (at + size) size (records f (at + size) size n)
overlap_from test f begin end size c at zero = refl
overlap_from test f begin end size c at (suc n) =
    let back : at + size - size ≡ at = omega arith in
    let here : test (at + size) ≡ leb (end (f at)) (begin (f (at + size))) = c.same (at + size)
    ∙ ap (λ (t : ℕ). leb (end (f t)) (begin (f (at + size)))) back in
    rw here (ap (λ (o : Option ℕ). cond (leb (end (f at)) (begin (f (at + size)))) o (Some (at + size)))
    (overlap_from test f begin end size c (at + size) n))

-- the first record has none before it
pub overlap_is : {X : Type 0} (test : ℕ → Bool) (f : ℕ → X) (begin end : X → ℕ) (size : ℕ) → Compares test f begin end size → (at n : ℕ)
    → first_record test (at + size) size (n - 1) ≡ first_overlap begin end 0 at size (records f at size n)
overlap_is test f begin end size c at zero = refl
overlap_is test f begin end size c at (suc n) =
    let others : suc n - 1 ≡ n = omega arith in
    rw (others, le-leb 0 (begin (f at)) (omega arith)) (overlap_from test f begin end size c at n)

-- ---- the section records, whose place has no meaning where there are none

below_next : (a b : ℕ) → ltb a b ≡ leb (a + 1) b
below_next a b =
    elim (cases_lt a b) [
      | inl below ↦ rw (lt-ltb a b below, le-leb (a + 1) b (omega arith)) refl
      | inr above ↦ rw (le-ltb a b above, lt-leb (a + 1) b (omega arith)) refl
    ]

pub kinds_are : (bytes : List ℕ) (a b n : ℕ) → (0 < n → a ≡ b)
    → first_record (ascends bytes) (b + 12) 12 (n - 1) ≡ first_overlap (λ s. s.kind) (λ s. s.kind + 1) 0 a 12
    (records (rtr_section_at bytes) a 12 n)
kinds_are bytes a b zero same = refl
kinds_are bytes a b (suc n) same =
    rw (same (omega arith))
    (overlap_is (ascends bytes) (rtr_section_at bytes) (λ (s : RtrSection). s.kind) (λ (s : RtrSection). s.kind + 1) 12
    (record { same = λ at. below_next _ _ }) b (suc n))

pub ranges_are : (bytes : List ℕ) (a b n : ℕ) → (0 < n → a ≡ b)
    → option_map (λ p. p + 4) (first_record (range_is_placed bytes) b 12 n) ≡ option_map (λ p. p + 4)
    (first_failing (section_is_placed bytes) a 12 (records (rtr_section_at bytes) a 12 n))
ranges_are bytes a b zero same = refl
ranges_are bytes a b (suc n) same =
    rw (same (omega arith)) (ap (option_map (λ p. p + 4)) (failing_is (section_is_placed bytes) (rtr_section_at bytes) b 12 (suc n)))

pub sizes_are : (bytes : List ℕ) (a b n : ℕ) → (0 < n → a ≡ b)
    → option_map (λ p. p + 8) (first_record (imports_are_whole bytes) b 12 n) ≡ option_map (λ p. p + 8)
    (first_failing has_whole_imports a 12 (records (rtr_section_at bytes) a 12 n))
sizes_are bytes a b zero same = refl
sizes_are bytes a b (suc n) same =
    rw (same (omega arith)) (ap (option_map (λ p. p + 8)) (failing_is has_whole_imports (rtr_section_at bytes) b 12 (suc n)))

pub sections_are : (bytes : List ℕ) (a b n : ℕ) → (0 < n → a ≡ b)
    → records (rtr_section_at bytes) a 12 n ≡ records (rtr_section_at bytes) b 12 n
sections_are bytes a b zero same = refl
sections_are bytes a b (suc n) same = rw (same (omega arith)) refl

-- ---- records by their numbers

pub records-length : {X : Type 0} (f : ℕ → X) (at size n : ℕ) → length (records f at size n) ≡ n
records-length f at size zero = refl
records-length f at size (suc n) = ap suc (records-length f (at + size) size n)

records-get : {X : Type 0} (f : ℕ → X) (at size n i : ℕ) (d : X) → i < n → get_or (records f at size n) i d ≡ f (at + size * i)
records-get f at size zero i d h = absurd (omega arith)
records-get f at size (suc n) zero d h =
    let here : at + size * 0 ≡ at = omega arith in
    rw here refl
records-get f at size (suc n) (suc i) d h =
    let here : at + size * suc i ≡ at + size + size * i = omega arith in
    rw here (records-get f (at + size) size n i d (omega arith))

pub record_there : {X : Type 0} (f : ℕ → X) (at size n i : ℕ) → i < n → slice_get (records f at size n) i ≡ Some (f (at + size * i))
record_there {X = X} f at size n i h =
    let there : i < length (records f at size n) = omega (arith, records-length f at size n) in
    slice_get-get_or (records f at size n) i (f at) there ∙ ap (λ (x : X). Some x) (records-get f at size n i (f at) h)

pub record_past : {X : Type 0} (f : ℕ → X) (at size n i : ℕ) → n ≤ i → slice_get (records f at size n) i ≡ None
record_past f at size n i h = slice_get_past (records f at size n) i (omega (arith, records-length f at size n))

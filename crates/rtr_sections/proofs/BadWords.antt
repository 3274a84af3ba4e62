-- The first bad word from a place on, and of an import record's array.
use Rattle.std.proofs.Common.{◌≡◌, ℕ, zero, suc, ◌+◌, ◌-◌, ◌*◌, ◌<◌, ◌≤◌, ◌^◌, true, false, List, [], ◌∷◌, ◌++◌, length, get_or, Option}
use Rattle.std.proofs.Common.{Some, None, is_some, refl, ap, ◌∙◌, sym, subst, inl, inr, arith}
use Rattle.std.specs.Option.{option_map}
use Rattle.std.proofs.lemmas.Bool.{cases_lt}
use Rattle.std.proofs.lemmas.List.{get_or_append_left, get_or_push, length-append}
use Rattle.rtr_sections.specs.declared.imports.ImportSection.{ImportSection}
use Rattle.rtr_sections.specs.Numbered.{first_bad}
use Rattle.rtr_sections.specs.Imports.{signatures_at, bad_word, cells_at, first_bad_word, named_fixup, slot_at, slot_count}
use Rattle.rtr_sections.specs.BadWords.{names_fixup, AreFirstBad, IsFirstBad, IsWithin}

-- ---- the first bad word from a place on

pub first_here : (bytes : List ℕ) (end place : ℕ) → names_fixup bytes place ≡ false → IsFirstBad bytes end place place
first_here bytes end place h = record {
  passed = λ k low inside. absurd (omega arith);
  found = λ low. (0, omega arith, h);
}

pub first_behind : (bytes : List ℕ) (end place first : ℕ) → names_fixup bytes place ≡ true → IsFirstBad bytes end (place + 4) first
    → IsFirstBad bytes end place first
first_behind bytes end place first h behind = record {
  passed = passed_behind bytes end place first h behind;
  found = λ low. let f = behind.found low in (suc f.0, omega (arith, f.1), f.2);
}
  where
    passed_behind : (bytes : List ℕ) (end place first : ℕ) → names_fixup bytes place ≡ true → IsFirstBad bytes end (place + 4) first
        → (k : ℕ) → place + 4 * k < first → place + 4 * k < end → names_fixup bytes (place + 4 * k) ≡ true
    passed_behind bytes end place first h behind zero low inside =
        let e : place + 4 * 0 ≡ place = omega arith in
        rw e h
    passed_behind bytes end place first h behind (suc k) low inside =
        let e : place + 4 * suc k ≡ place + 4 + 4 * k = omega arith in
        rw e (behind.passed k (omega arith) (omega arith))

-- none is left before the end
pub none_left : (bytes : List ℕ) (end place : ℕ) → end ≤ place → IsFirstBad bytes end place end
none_left bytes end place far = record {
  passed = λ k low inside. absurd (omega arith);
  found = λ low. absurd (omega arith);
}

-- one more
pub pushed : (bytes firsts : List ℕ) (end first i : ℕ) → length firsts ≡ i → AreFirstBad bytes end firsts
    → IsFirstBad bytes end (end - suc i) first
    → AreFirstBad bytes end (firsts ++ first ∷ [])
pushed bytes firsts end first i len all one j low inside =
    elim (cases_lt j i) [
      | inl below ↦
          let e : get_or (firsts ++ first ∷ []) j 0 ≡ get_or firsts j 0 = get_or_append_left firsts (first ∷ []) 0 j (omega arith) in
          rw e (all j (omega arith) inside)
      | inr above ↦
          let within : j < length firsts + 1 = rw length-append at low in
          let same : j ≡ i = omega arith in
          let e : get_or (firsts ++ first ∷ []) i 0 ≡ first = get_or_push firsts first 0 i len in
          rw (same, e) one
    ]

-- the one that is kept for a place
pub kept : (bytes firsts : List ℕ) (end place : ℕ) → place < end → end - place ≤ length firsts → AreFirstBad bytes end firsts
    → IsFirstBad bytes end place (get_or firsts (end - 1 - place) 0)
kept bytes firsts end place inside known all =
    let there : end - suc (end - 1 - place) ≡ place = omega arith in
    subst (λ p. IsFirstBad bytes end p (get_or firsts (end - 1 - place) 0)) there (all (end - 1 - place) (omega arith) (omega arith))

-- ---- that of an import record

first_bad-none : (f : ℕ → Option ℕ) (i n : ℕ) → ((k : ℕ) → k < i + n → f k ≡ None) → first_bad f i n ≡ None
first_bad-none f i zero h = refl
first_bad-none f i (suc n) h = rw (h i (omega arith)) (first_bad-none f (i + 1) n (λ k low. h k (omega arith)))

first_bad-at : (f : ℕ → Option ℕ) (i n j place : ℕ) → i ≤ j → j < i + n → ((k : ℕ) → k < j → f k ≡ None) → f j ≡ Some place
    → first_bad f i n ≡ Some place
first_bad-at f i zero j place low high h e = absurd (omega arith)
first_bad-at f i (suc n) j place low high h e =
    elim (cases_lt i j) [
      | inl below ↦ rw (h i below) (first_bad-at f (i + 1) n j place (omega arith) (omega arith) h e)
      | inr above ↦
          let same : j ≡ i = omega arith in
          rw (rw same at e) refl
    ]

-- the cell of a slot doesn't bear on whether it is there
is_there : (bytes : List ℕ) (word cell : ℕ) → is_some (slot_at bytes word cell) ≡ names_fixup bytes word
unfolding slot_at
is_there bytes word cell = same_some (named_fixup bytes word) _
  where
    same_some : {X Y : Type 0} (o : Option X) (f : X → Y) → is_some (option_map f o) ≡ is_some o
    same_some None f = refl
    same_some (Some x) f = refl

good_word : (bytes : List ℕ) (import : ImportSection) (i : ℕ) → names_fixup bytes (signatures_at bytes import + 4 * i) ≡ true
    → bad_word bytes import i ≡ None
good_word bytes import i h = rw (is_there bytes (signatures_at bytes import + 4 * i) (cells_at bytes import + 8 * i), h) refl

word_is_bad : (bytes : List ℕ) (import : ImportSection) (i : ℕ) → names_fixup bytes (signatures_at bytes import + 4 * i) ≡ false
    → bad_word bytes import i ≡ Some (signatures_at bytes import + 4 * i)
word_is_bad bytes import i h = rw (is_there bytes (signatures_at bytes import + 4 * i) (cells_at bytes import + 8 * i), h) refl

found_at : (bytes : List ℕ) (import : ImportSection) (end first : ℕ) → IsFirstBad bytes end (signatures_at bytes import) first
    → first < signatures_at bytes import + 4 * slot_count import → signatures_at bytes import + 4 * slot_count import ≤ end
    → first_bad (bad_word bytes import) 0 (slot_count import) ≡ Some first
found_at bytes import end first is low within =
    let array = signatures_at bytes import in
    let f = is.found (omega arith) in
    let place : first ≡ array + 4 * f.0 = f.1 in
    let bad : names_fixup bytes (array + 4 * f.0) ≡ false = subst (λ p. names_fixup bytes p ≡ false) place f.2 in
    first_bad-at (bad_word bytes import) 0 (slot_count import) f.0 first (omega arith) (omega arith)
    (λ k below. good_word bytes import k (is.passed k (omega arith) (omega arith)))
    (word_is_bad bytes import f.0 bad ∙ ap (λ (t : ℕ). Some t) (sym place))

none_at : (bytes : List ℕ) (import : ImportSection) (end first : ℕ) → IsFirstBad bytes end (signatures_at bytes import) first
    → signatures_at bytes import + 4 * slot_count import ≤ first → signatures_at bytes import + 4 * slot_count import ≤ end
    → first_bad (bad_word bytes import) 0 (slot_count import) ≡ None
none_at bytes import end first is above within =
    first_bad-none (bad_word bytes import) 0 (slot_count import)
    (λ k below. good_word bytes import k (is.passed k (omega arith) (omega arith)))

pub found_in : (bytes : List ℕ) (import : ImportSection) (start end array first : ℕ) → array ≡ signatures_at bytes import
    → IsWithin bytes start end import
    → IsFirstBad bytes end array first → first < array + 4 * slot_count import → first_bad_word bytes import ≡ Some first
unfolding first_bad_word
found_in bytes import start end array first at within is low =
    found_at bytes import end first (subst (λ a. IsFirstBad bytes end a first) at is)
    (subst (λ a. first < a + 4 * slot_count import) at low) within.1

pub none_in : (bytes : List ℕ) (import : ImportSection) (start end array first : ℕ) → array ≡ signatures_at bytes import
    → IsWithin bytes start end import
    → IsFirstBad bytes end array first → array + 4 * slot_count import ≤ first → first_bad_word bytes import ≡ None
unfolding first_bad_word
none_in bytes import start end array first at within is above =
    none_at bytes import end first (subst (λ a. IsFirstBad bytes end a first) at is)
    (subst (λ a. a + 4 * slot_count import ≤ first) at above) within.1

-- a range that grows still has what it had
pub wider : (bytes : List ℕ) (s e s2 e2 : ℕ) (import : ImportSection) → s2 ≤ s → e ≤ e2 → IsWithin bytes s e import
    → IsWithin bytes s2 e2 import
wider bytes s e s2 e2 import low high h = (omega (arith, h.0), omega (arith, h.1))

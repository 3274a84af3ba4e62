-- Parts of a spelling, by the places where they begin.
use Rattle.std.proofs.Common.{◌≡◌, ◌<◌, ◌+◌, ℕ, List, ◌∷◌, ◌++◌, length, drop, get_or, Option, Some, unwrap_or, refl, sym, ap, ◌∙◌, subst}
use Rattle.std.proofs.Common.{arith, append_assoc, length-append, length-drop, add-zero}
use Rattle.std.proofs.Math.Seq.{drop-append_seam}
use Rattle.std.proofs.lemmas.List.{drop_more, get_or-drop, drop-drop}
use Rattle.rtr_bytes.specs.Spelling.{BeginsAt}
use Rattle.fixup_sigs.specs.Fixup.{IsBehind, IsPair}

-- A read's answer: whatever is spelled at the place is it.
abbrev pub Only : {X : Type 0} → (List ℕ → X → Type 0) → List ℕ → ℕ → Option (X × ℕ) → Type 0
Only {X = X} Spells bytes at answer =
    (x : X) (next : ℕ) → BeginsAt Spells bytes at x next → ◌≡◌ {A = Option (X × ℕ)} answer (Some (x, next))

-- what two answers have, where they are one
pub same_answer : {X : Type 0} (x y : X) (m n : ℕ) → ◌≡◌ {A = Option (X × ℕ)} (Some (x, m)) (Some (y, n)) → (x ≡ y) × (m ≡ n)
same_answer {X = X} x y m n e =
    (let f : Option (X × ℕ) → X = λ o. (unwrap_or o (x, m)).0 in ap f e, let f : Option (X × ℕ) → ℕ = λ o. (unwrap_or o (x, m)).1 in ap f e)

-- what begins at two places that are one
begins_along : {X : Type 0} (Spells : List ℕ → X → Type 0) (bytes : List ℕ) (at place : ℕ) (x : X) (next : ℕ) → at ≡ place
    → BeginsAt Spells bytes at x next → BeginsAt Spells bytes place x next
begins_along Spells bytes at place x next e h = let P : ℕ → Type 0 = λ p. BeginsAt Spells bytes p x next in subst P e h

drop_further : (bytes : List ℕ) (at : ℕ) (front rest : List ℕ) → drop at bytes ≡ front ++ rest → drop (at + length front) bytes ≡ rest
drop_further bytes at front rest e = sym (drop-drop (length front) at bytes) ∙ ap (drop (length front)) e ∙ drop-append_seam front rest

-- the first byte of what begins at a place
pub first_is : (bytes : List ℕ) (at first : ℕ) (rest : List ℕ) → drop at bytes ≡ first ∷ rest → get_or bytes at 0 ≡ first
first_is bytes at first rest e =
    let there : get_or (drop at bytes) 0 0 ≡ get_or bytes at 0 = get_or-drop at bytes 0 0 ∙ ap (λ i. get_or bytes i 0) (add-zero at) in
    sym there ∙ ap (λ xs. get_or xs 0 0) e

-- a byte, and what begins after it
pub behind_begins : {X : Type 0} (Spells : List ℕ → X → Type 0) (bytes : List ℕ) (at first : ℕ) (x : X) (next : ℕ) → at < length bytes
    → get_or bytes at 0 ≡ first → BeginsAt Spells bytes (at + 1) x next → BeginsAt (IsBehind first Spells) bytes at x next
behind_begins Spells bytes at first x next inside is (spelling, rest, whole, spelled, size) = (
  first ∷ spelling,
  rest,
  drop_more bytes at 0 inside ∙ ap (λ b. b ∷ drop (at + 1) bytes) is
      ∙ ap (λ r. first ∷ r) whole,
  (spelling, refl, spelled),
  omega arith,
)

-- and the other way round
pub begins_behind : {X : Type 0} (Spells : List ℕ → X → Type 0) (bytes : List ℕ) (at first : ℕ) (x : X) (next : ℕ)
    → BeginsAt (IsBehind first Spells) bytes at x next
    → (at < length bytes) × (get_or bytes at 0 ≡ first) × BeginsAt Spells bytes (at + 1) x next
begins_behind Spells bytes at first x next (spelling, rest, whole, (back, parts, spelled), size) =
    let all : drop at bytes ≡ first ∷ (back ++ rest) = whole ∙ ap (λ s. s ++ rest) parts in
    let inside : at < length bytes = omega (arith, length-drop at bytes, ap length all) in
    let cells : get_or bytes at 0 ∷ drop (at + 1) bytes ≡ first ∷ (back ++ rest) = sym (drop_more bytes at 0 inside) ∙ all in
    (inside, (cc), (back, rest, (cc), spelled, omega (arith, ap length parts)))

-- one spelling, and another from where it ends
pub pair_begins : {X Y : Type 0} (SpellsX : List ℕ → X → Type 0) (SpellsY : List ℕ → Y → Type 0) (bytes : List ℕ) (at mid next : ℕ) (x : X)
    (y : Y) → BeginsAt SpellsX bytes at x mid → BeginsAt SpellsY bytes mid y next → BeginsAt (IsPair SpellsX SpellsY) bytes at (x, y) next
pair_begins SpellsX SpellsY bytes at mid next x y (front, more, whole, first, size) (back, rest, part, second, end) =
    let on : more ≡ back ++ rest = sym (drop_further bytes at front more whole) ∙ ap (λ p. drop p bytes) (sym size) ∙ part in (
      front ++ back,
      rest,
      whole ∙ ap (λ m. front ++ m) on
          ∙ sym (append_assoc front back rest),
      (front, back, refl, first, second),
      omega (arith, length-append front back),
    )

-- and the other way round
pub begins_pair : {X Y : Type 0} (SpellsX : List ℕ → X → Type 0) (SpellsY : List ℕ → Y → Type 0) (bytes : List ℕ) (at next : ℕ) (x : X)
    (y : Y) → BeginsAt (IsPair SpellsX SpellsY) bytes at (x, y) next → (mid : ℕ) × BeginsAt SpellsX bytes at x mid × BeginsAt SpellsY bytes
    mid y next
begins_pair SpellsX SpellsY bytes at next x y (spelling, rest, whole, (front, back, parts, first, second), end) =
    let all : drop at bytes ≡ front ++ (back ++ rest) = whole ∙ ap (λ s. s ++ rest) parts ∙ append_assoc front back rest in (
      at + length front,
      (front, back ++ rest, all, first, refl),
      (back, rest, drop_further bytes at front (back ++ rest) all, second, omega (arith, ap length parts, length-append front back)),
    )

-- the answer of a read after a byte
pub behind_only : {X : Type 0} (Spells : List ℕ → X → Type 0) (bytes : List ℕ) (at first : ℕ) (x : X) (next : ℕ) (answer : Option (X × ℕ))
    → Only Spells bytes (at + 1) answer → BeginsAt (IsBehind first Spells) bytes at x next
    → ◌≡◌ {A = Option (X × ℕ)} answer (Some (x, next))
behind_only Spells bytes at first x next answer only h = only x next (begins_behind Spells bytes at first x next h).2

-- the answers of two reads, one after the other, where a pair is spelled
pub pair_first : {X Y : Type 0} (SpellsX : List ℕ → X → Type 0) (SpellsY : List ℕ → Y → Type 0) (bytes : List ℕ) (at next : ℕ) (x : X)
    (y : Y) (answer : Option (X × ℕ))
    → Only SpellsX bytes at answer → BeginsAt (IsPair SpellsX SpellsY) bytes at (x, y) next
    → (mid : ℕ) × (◌≡◌ {A = Option (X × ℕ)} answer (Some (x, mid))) × BeginsAt SpellsY bytes mid y next
pair_first SpellsX SpellsY bytes at next x y answer only h =
    let (mid, first, second) = begins_pair SpellsX SpellsY bytes at next x y h in
    (mid, only x mid first, second)

pub pair_second : {X Y : Type 0} (SpellsX : List ℕ → X → Type 0) (SpellsY : List ℕ → Y → Type 0) (bytes : List ℕ) (at found next : ℕ)
    (x z : X) (y : Y) (answer : Option (Y × ℕ))
    → Only SpellsX bytes at (Some (z, found)) → Only SpellsY bytes found answer → BeginsAt (IsPair SpellsX SpellsY) bytes at (x, y) next
    → (z ≡ x) × (◌≡◌ {A = Option (Y × ℕ)} answer (Some (y, next)))
pair_second SpellsX SpellsY bytes at found next x z y answer only then h =
    let (mid, is, second) = pair_first SpellsX SpellsY bytes at next x y (Some (z, found)) only h in
    let same = same_answer z x found mid is in
    (same.0, then y next (begins_along SpellsY bytes mid found y next (sym same.1) second))

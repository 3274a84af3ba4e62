-- Steps over stream headers.
use Rattle.std.proofs.Common.{◌≡◌, ℕ, suc, ◌+◌, ◌<◌, Bool, true, false, cond, List, [], ◌∷◌, Some, None, refl, sym, ap}
use Rattle.std.proofs.Common.{◌∙◌, subst, arith, length, drop, get_or, ◌==◌, inl, inr}
use Rattle.std.specs.Prelude.{not, ◌||◌, ◌&&◌, find}
use Rattle.std.specs.Option.{option_map, option_map_or}
use Rattle.std.proofs.lemmas.Bool.{cases_eq, eq-eqb, ne_eqb}
use Rattle.std.proofs.Math.Seq.{drop-cons}
use Rattle.std.specs.Str.{bytes_eq}
use Rattle.rtr_bytes.specs.declared.fault.Span.{Span}
use Rattle.metadata.specs.Names.{is_taken}
use Rattle.metadata.specs.Streams.{StreamHeader, first_cut, first_outside, first_repeated, header_at, header_named}
use Rattle.metadata.specs.Streams.{headers_from, is_inside, next_header}

pub cut_more : (bytes : List ℕ) (end at n : ℕ) (h : StreamHeader) → header_at bytes end at ≡ Some h
    → first_cut bytes end at (suc n) ≡ first_cut bytes end (next_header h) n
unfolding first_cut
cut_more bytes end at n h e = ap (λ o. option_map_or (λ h. first_cut bytes end (next_header h) n) o (Some at)) e

pub cut_here : (bytes : List ℕ) (end at n : ℕ) → header_at bytes end at ≡ None → first_cut bytes end at (suc n) ≡ Some at
unfolding first_cut
cut_here bytes end at n e = ap (λ o. option_map_or (λ h. first_cut bytes end (next_header h) n) o (Some at)) e

pub headers_more : (bytes : List ℕ) (end at n : ℕ) (h : StreamHeader) → header_at bytes end at ≡ Some h
    → headers_from bytes end at (suc n) ≡ h ∷ headers_from bytes end (next_header h) n
unfolding headers_from
headers_more bytes end at n h e = ap (λ o. option_map_or (λ h. h ∷ headers_from bytes end (next_header h) n) o []) e

pub none_cut : (bytes : List ℕ) (end at : ℕ) → first_cut bytes end at 0 ≡ None
unfolding first_cut
none_cut bytes end at = refl

pub none_left : (bytes : List ℕ) (end at : ℕ) → headers_from bytes end at 0 ≡ []
unfolding headers_from
none_left bytes end at = refl

-- ---- names

eq_sym : (x y : ℕ) → (x == y) ≡ (y == x)
eq_sym x y = elim (cases_eq x y) [
  | inl e ↦ eq-eqb x y e ∙ sym (eq-eqb y x (sym e))
  | inr ne ↦ ne_eqb x y ne ∙ sym (ne_eqb y x (λ e. ne (sym e)))
]

bytes_sym : (xs ys : List ℕ) → bytes_eq xs ys ≡ bytes_eq ys xs
bytes_sym [] [] = refl
bytes_sym [] (y ∷ ys) = refl
bytes_sym (x ∷ xs) [] = refl
bytes_sym (x ∷ xs) (y ∷ ys) = ap (λ b. b && bytes_eq xs ys) (eq_sym x y) ∙ ap (λ b. (y == x) && b) (bytes_sym xs ys)

taken_cons : (names : List (List ℕ)) (first name : List ℕ) → is_taken (first ∷ names) name ≡ (bytes_eq name first || is_taken names name)
unfolding is_taken
taken_cons names first name = refl

-- the first repeated name depends on which names are taken alone
abbrev Alike : List (List ℕ) → List (List ℕ) → Type 0
Alike a b = (name : List ℕ) → is_taken a name ≡ is_taken b name

alike_cons : (a b : List (List ℕ)) (first : List ℕ) → Alike a b → Alike (first ∷ a) (first ∷ b)
alike_cons a b first e = λ name.
    taken_cons a first name ∙ ap (λ t. bytes_eq name first || t) (e name) ∙ sym (taken_cons b first name)

pub repeated_alike : (a b : List (List ℕ)) (hs : List StreamHeader) → Alike a b → first_repeated a hs ≡ first_repeated b hs
unfolding first_repeated
repeated_alike a b [] e = refl
repeated_alike a b (h ∷ hs) e =
    ap (λ t. cond t (Some h.at) (first_repeated (h.name ∷ a) hs)) (e h.name)
    ∙ ap (λ later. cond (is_taken b h.name) (Some h.at) later) (repeated_alike (h.name ∷ a) (h.name ∷ b) hs (alike_cons a b h.name e))

-- no name is taken
pub repeated_init : (names : List (List ℕ)) (hs : List StreamHeader) → ((name : List ℕ) → is_taken names name ≡ false)
    → first_repeated names hs ≡ first_repeated [] hs
unfolding is_taken
repeated_init names hs none = repeated_alike names [] hs none

repeated_cons : (names : List (List ℕ)) (h : StreamHeader) (hs : List StreamHeader)
    → first_repeated names (h ∷ hs) ≡ cond (is_taken names h.name) (Some h.at) (first_repeated (h.name ∷ names) hs)
unfolding first_repeated
repeated_cons names h hs = refl

pub repeated_end : (names : List (List ℕ)) → first_repeated names [] ≡ None
unfolding first_repeated
repeated_end names = refl

repeated_drop : (names : List (List ℕ)) (hs : List StreamHeader) (i : ℕ) (h : StreamHeader) → i < length hs → h ≡ get_or hs i h
    → first_repeated names (drop i hs) ≡ cond (is_taken names h.name) (Some h.at) (first_repeated (h.name ∷ names) (drop (i + 1) hs))
repeated_drop names hs i h i_in is_h =
    let here : drop i hs ≡ h ∷ drop (suc i) hs = drop-cons hs i h i_in ∙ ap (λ k. k ∷ drop (suc i) hs) (sym is_h) in
    let next : suc i ≡ i + 1 = omega arith in
    ap (first_repeated names) (here ∙ ap (λ j. h ∷ drop j hs) next) ∙ repeated_cons names h (drop (i + 1) hs)

-- a header whose name is taken
pub repeated_here : (names : List (List ℕ)) (hs : List StreamHeader) (i : ℕ) (h : StreamHeader) → i < length hs
    → h ≡ get_or hs i h → is_taken names h.name ≡ true
    → first_repeated names (drop i hs) ≡ Some h.at
repeated_here names hs i h i_in is_h taken =
    repeated_drop names hs i h i_in is_h ∙ ap (λ t. cond t (Some h.at) (first_repeated (h.name ∷ names) (drop (i + 1) hs))) taken

-- a header whose name is free, and is taken then
pub repeated_more : (names after : List (List ℕ)) (hs : List StreamHeader) (i : ℕ) (h : StreamHeader) → i < length hs
    → h ≡ get_or hs i h → is_taken names h.name ≡ false
    → ((other : List ℕ) → is_taken after other ≡ (bytes_eq h.name other || is_taken names other))
    → first_repeated after (drop (i + 1) hs) ≡ first_repeated names (drop i hs)
repeated_more names after hs i h i_in is_h free more =
    let same : Alike after (h.name ∷ names) = λ name.
    more name ∙ ap (λ b. b || is_taken names name) (bytes_sym h.name name) ∙ sym (taken_cons names h.name name) in
    repeated_alike after (h.name ∷ names) (drop (i + 1) hs) same
    ∙ sym (repeated_drop names hs i h i_in is_h ∙ ap (λ t. cond t (Some h.at) (first_repeated (h.name ∷ names) (drop (i + 1) hs))) free)

-- ---- ranges

inside_cons : (span : Span) (h : StreamHeader) (hs : List StreamHeader) → first_outside span (h ∷ hs) ≡ None
    → (is_inside span h ≡ true) × (first_outside span hs ≡ None)
inside_cons span h hs e =
    let P : Bool → Type 0 =
    λ b. option_map (λ k. k.at) (cond (not b) (Some h) (find (λ k. not (is_inside span k)) hs)) ≡ None
    → (b ≡ true) × (first_outside span hs ≡ None) in
    let both : (b : Bool) → P b = λ b. elim b as P [ true ↦ (λ f. (refl, f)) | false ↦ (λ f. absurd (let x : ⊥ = cc in x)) ] in
    both (is_inside span h) e

-- a header that is found is of a stream in the metadata
pub found_inside : (span : Span) (name : List ℕ) (hs : List StreamHeader) (h : StreamHeader)
    → first_outside span hs ≡ None → header_named name hs ≡ Some h → is_inside span h ≡ true
found_inside span name [] h none e = absurd (let x : ⊥ = cc in x)
found_inside span name (k ∷ hs) h none e =
    let parts = inside_cons span k hs none in
    let P : Bool → Type 0 = λ b. cond b (Some k) (header_named name hs) ≡ Some h → is_inside span h ≡ true in
    let both : (b : Bool) → P b = λ b. elim b as P [
      | true ↦ (λ f. let same : k ≡ h = cc in subst (λ j. is_inside span j ≡ true) same parts.0)
      | false ↦ (λ f. found_inside span name hs h parts.1 f)
    ] in
    both (bytes_eq k.name name) e

pub not_false : (b : Bool) → not b ≡ false → b ≡ true
not_false true e = refl
not_false false e = absurd (let x : ⊥ = cc in x)

pub not_true : (b : Bool) → not b ≡ true → b ≡ false
not_true true e = absurd (let x : ⊥ = cc in x)
not_true false e = refl

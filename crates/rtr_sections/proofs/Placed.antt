-- The first section that holds a range, one of no bytes at that range's end, and one within it.
use Rattle.std.proofs.Common.{◌≡◌, ℕ, ◌+◌, ◌^◌, ◌≤◌, List, [], ◌∷◌, Option, Some, None, Bool, true, false, cond, is_some, refl, add-zero}
use Rattle.std.proofs.Common.{arith}
use Rattle.std.specs.Prelude.{find, nat_le}
use Rattle.std.specs.Option.{option_map}
use Rattle.std.proofs.lemmas.Bool.Decides.{nat_tests}
use Rattle.pe_image.specs.declared.section.PeSection.{PeSection}
use Rattle.pe_image.specs.Sections.{has_range, slice_of_rva}

-- the section that holds a range holds the empty one at its end
holds_end : (rva len : ℕ) (s : PeSection) → has_range rva len s ≡ true → has_range (rva + len) 0 s ≡ true
holds_end rva len s h = grind (arith, nat_tests)

some_if : {X : Type 0} (b c : Bool) (x y : X) (o p : Option X) → (b ≡ true → c ≡ true) → (is_some o ≡ true → is_some p ≡ true)
    → is_some (cond b (Some x) o) ≡ true → is_some (cond c (Some y) p) ≡ true
some_if true c x y o p f g h = rw (f refl) refl
some_if false true x y o p f g h = refl
some_if false false x y o p f g h = g h

pub found_end : (rva len : ℕ) (sections : List PeSection) → is_some (find (has_range rva len) sections) ≡ true
    → is_some (find (has_range (rva + len) 0) sections) ≡ true
found_end rva len [] h = h
found_end rva len (s ∷ sections) h =
    some_if (has_range rva len s) (has_range (rva + len) 0 s) s s (find (has_range rva len) sections)
    (find (has_range (rva + len) 0) sections) (holds_end rva len s) (found_end rva len sections) h

some_of : {X Y : Type 0} (f g : X → Y) (o p : Option X) → (is_some o ≡ true → is_some p ≡ true) → is_some (option_map f o) ≡ true
    → is_some (option_map g p) ≡ true
some_of f g None p k e = absurd (let x : ⊥ = cc in x)
some_of f g (Some x) None k e = k refl
some_of f g (Some x) (Some y) k e = refl

placed_if : {X Y : Type 0} (b c : Bool) (f g : X → Y) (o p : Option X) → (b ≡ true → c ≡ true) → (is_some o ≡ true → is_some p ≡ true)
    → is_some (cond b (option_map f o) None) ≡ true → is_some (cond c (option_map g p) None) ≡ true
placed_if true c f g o p h k e = rw (h refl) (some_of f g o p k e)
placed_if false c f g o p h k e = absurd (let x : ⊥ = cc in x)

-- where a range is in a section, so is the empty one at its end
pub placed_end : (sections : List PeSection) (rva len : ℕ) → is_some (slice_of_rva sections rva len) ≡ true
    → is_some (slice_of_rva sections (rva + len) 0) ≡ true
placed_end sections rva len h =
    placed_if (nat_le (rva + len) (2 ^ 32)) (nat_le (rva + len + 0) (2 ^ 32)) _ _ (find (has_range rva len) sections)
    (find (has_range (rva + len) 0) sections) (λ e. rw add-zero e) (found_end rva len sections) h

-- the section that holds a range holds one within it
holds_within : (rva len r l : ℕ) (s : PeSection) → rva ≤ r → r + l ≤ rva + len → has_range rva len s ≡ true → has_range r l s ≡ true
holds_within rva len r l s low high h = grind (arith, nat_tests)

found_within : (rva len r l : ℕ) (sections : List PeSection) → rva ≤ r → r + l ≤ rva + len
    → is_some (find (has_range rva len) sections) ≡ true → is_some (find (has_range r l) sections) ≡ true
found_within rva len r l [] low high h = h
found_within rva len r l (s ∷ sections) low high h =
    some_if (has_range rva len s) (has_range r l s) s s (find (has_range rva len) sections) (find (has_range r l) sections)
    (holds_within rva len r l s low high) (found_within rva len r l sections low high) h

below_too : (rva len r l : ℕ) → r + l ≤ rva + len → nat_le (rva + len) (2 ^ 32) ≡ true → nat_le (r + l) (2 ^ 32) ≡ true
below_too rva len r l high h = grind (arith, nat_tests)

-- where a range is in a section, so is one within it
pub placed_within : (sections : List PeSection) (rva len r l : ℕ) → rva ≤ r → r + l ≤ rva + len
    → is_some (slice_of_rva sections rva len) ≡ true → is_some (slice_of_rva sections r l) ≡ true
placed_within sections rva len r l low high h =
    placed_if (nat_le (rva + len) (2 ^ 32)) (nat_le (r + l) (2 ^ 32)) _ _ (find (has_range rva len) sections)
    (find (has_range r l) sections) (λ e. below_too rva len r l high e) (found_within rva len r l sections low high) h

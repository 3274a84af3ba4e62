-- The raw bytes, found in the written file by their RVAs.
use Rattle.std.proofs.Common.{◌≡◌, ℕ, ◌+◌, ◌-◌, ◌^◌, ◌<◌, ◌≤◌, leb, cond, Bool, true, false, List, [], ◌∷◌, ◌++◌}
use Rattle.std.proofs.Common.{length, take, drop, map, Some, None, refl, sym, ap, subst, ◌∙◌, arith, append_assoc}
use Rattle.std.proofs.Common.{length-append, length-drop, inl, inr}
use Rattle.std.specs.Prelude.{find, replicate}
use Rattle.std.specs.List.{flat_map, AllZip}
use Rattle.std.specs.Option.{option_map}
use Rattle.std.proofs.lemmas.Bool.{cases_Bool, le-leb, lt-leb, leb-true, and_parts, and_from, and_right}
use Rattle.std.proofs.lemmas.List.{drop-drop, take_at, take-append-le, drop-append-le, take-take, drop-take, length-replicate}
use Rattle.std.proofs.Math.Seq.{drop-append_seam}
use Rattle.pe_image.specs.declared.section.PeSection.{PeSection}
use Rattle.pe_image.specs.Sections.{has_range, slice_of_rva}
use Rattle.pe_image.specs.Places.{aligned, placed_from, end_from, section_end, highest_end}
use Rattle.pe_image.specs.Raw.{padded, raw_of}
use Rattle.pe_image.specs.Written.{IsPaddedFrom, HasPadded}
use Rattle.pe_image.proofs.PlacesLemmas.{aligned-512}

pub length-padded : (bytes : List ℕ) → length (padded bytes) ≡ aligned 512 (length bytes)
unfolding padded
length-padded bytes =
    let a = aligned-512 (length bytes) in
    omega (
      arith,
      length-append bytes (replicate (aligned 512 (length bytes) - length bytes) 0),
      length-replicate {A = ℕ}
          (aligned 512 (length bytes) - length bytes) 0,
    )

-- a section's raw size and the bytes that are written for it
pub record Matches (s : PeSection) (part : List ℕ) : Type 0 where
  pub fits : length part ≤ s.raw_size
  pub same : aligned 512 (length part) ≡ aligned 512 s.raw_size

-- a part is at its section's place
abbrev pub Holds : List ℕ → PeSection → List ℕ → Type 0
Holds bytes s part = (rest : List ℕ) × (drop s.raw_at bytes ≡ part ++ rest)

padded_rest : (part : List ℕ) → (zeros : List ℕ) × (padded part ≡ part ++ zeros)
unfolding padded
padded_rest part = (replicate (aligned 512 (length part) - length part) 0, refl)

-- its bytes there are padded
abbrev pub HoldsPadded : List ℕ → PeSection → List ℕ → Type 0
HoldsPadded bytes s part = (rest : List ℕ) × (drop s.raw_at bytes ≡ padded part ++ rest)

pub parts_padded : (ss : List PeSection) (parts : List (List ℕ)) (front : List ℕ) → AllZip Matches ss parts
    → AllZip (HoldsPadded (front ++ flat_map padded parts)) (placed_from (length front) ss) parts
parts_padded [] [] front h = tt
parts_padded [] (p ∷ ps) front h = absurd h
parts_padded (s ∷ ss) [] front h = absurd h
parts_padded (s ∷ ss) (p ∷ ps) front (h, hs) =
    let more = flat_map padded ps in
    let whole : (front ++ padded p) ++ more ≡ front ++ (padded p ++ more) = append_assoc front (padded p) more in
    let place : length (front ++ padded p) ≡ length front + aligned 512 s.raw_size =
    length-append front (padded p) ∙ ap (λ (t : ℕ). length front + t) (length-padded p ∙ h.same) in
    let P : List ℕ → Type 0 = λ t. AllZip (HoldsPadded t) (placed_from (length (front ++ padded p)) ss) ps in
    let Q : ℕ → Type 0 = λ t. AllZip (HoldsPadded (front ++ (padded p ++ more))) (placed_from t ss) ps in
    ((more, drop-append_seam front (padded p ++ more)), subst Q place (subst P whole (parts_padded ss ps (front ++ padded p) hs)))

pub AllZip-each : {A B : Type 0} (R S : A → B → Type 0) (xs : List A) (ys : List B) → ((x : A) (y : B) → R x y → S x y) → AllZip R xs ys
    → AllZip S xs ys
AllZip-each R S [] [] f h = tt
AllZip-each R S [] (y ∷ ys) f h = absurd h
AllZip-each R S (x ∷ xs) [] f h = absurd h
AllZip-each R S (x ∷ xs) (y ∷ ys) f (h, hs) = (f x y h, AllZip-each R S xs ys f hs)

-- so the part's own bytes are there
pub held : (bytes : List ℕ) (s : PeSection) (part : List ℕ) → HoldsPadded bytes s part → Holds bytes s part
held bytes s part (rest, e) =
    let z = padded_rest part in
    (z.0 ++ rest, e ∙ ap (λ (t : List ℕ). t ++ rest) z.1 ∙ append_assoc part z.0 rest)

-- and zeros after them
pub has_padded : (bytes : List ℕ) (s : PeSection) (part : List ℕ) → HoldsPadded bytes s part → HasPadded bytes s part
has_padded bytes s part (rest, e) =
    ap (λ (t : List ℕ). take (aligned 512 (length part)) t) e ∙ take_at (padded part) rest (aligned 512 (length part)) (length-padded part)

-- what is padded is at the front, and zeros after it
pub padded_front : (front rest : List ℕ) (n : ℕ) → length front ≡ n → IsPaddedFrom (padded front ++ rest) n
padded_front front rest n size =
    let z = padded_rest front in
    let first : take n (padded front ++ rest) ≡ front =
    ap (λ (t : List ℕ). take n t) (ap (λ (t : List ℕ). t ++ rest) z.1 ∙ append_assoc front z.0 rest) ∙ take_at front (z.0 ++ rest) n size in
    take_at (padded front) rest (aligned 512 n) (length-padded front ∙ ap (λ (t : ℕ). aligned 512 t) size)
    ∙ sym (ap (λ (t : List ℕ). padded t) first)

pub length-parts : (ss : List PeSection) (parts : List (List ℕ)) (at : ℕ) → AllZip Matches ss parts
    → at + length (flat_map padded parts) ≡ end_from at ss
length-parts [] [] at h = omega arith
length-parts [] (p ∷ ps) at h = absurd h
length-parts (s ∷ ss) [] at h = absurd h
length-parts (s ∷ ss) (p ∷ ps) at (h, hs) =
    let more : at + aligned 512 s.raw_size + length (flat_map padded ps) ≡ end_from (at + aligned 512 s.raw_size) ss =
    length-parts ss ps (at + aligned 512 s.raw_size) hs in
    let size : length (padded p) ≡ aligned 512 s.raw_size = length-padded p ∙ h.same in
    let both = length-append (padded p) (flat_map padded ps) in
    let e : at + length (padded p ++ flat_map padded ps) ≡ at + aligned 512 s.raw_size + length (flat_map padded ps) =
    omega (arith, both) in
    e ∙ more

-- the two halves of a list in step
pub AllZip-left : {A B : Type 0} (R : A → B → Type 0) (xs more : List A) (ys rest : List B) → length xs ≡ length ys
    → AllZip R (xs ++ more) (ys ++ rest) → AllZip R xs ys
AllZip-left R [] more [] rest e h = tt
AllZip-left R [] more (y ∷ ys) rest e h = absurd (let x : ⊥ = omega arith in x)
AllZip-left R (x ∷ xs) more [] rest e h = absurd (let x : ⊥ = omega arith in x)
AllZip-left R (x ∷ xs) more (y ∷ ys) rest e (h, hs) = (h, AllZip-left R xs more ys rest (omega arith) hs)

pub AllZip-right : {A B : Type 0} (R : A → B → Type 0) (xs more : List A) (ys rest : List B) → length xs ≡ length ys
    → AllZip R (xs ++ more) (ys ++ rest) → AllZip R more rest
AllZip-right R [] more [] rest e h = h
AllZip-right R [] more (y ∷ ys) rest e h = absurd (let x : ⊥ = omega arith in x)
AllZip-right R (x ∷ xs) more [] rest e h = absurd (let x : ⊥ = omega arith in x)
AllZip-right R (x ∷ xs) more (y ∷ ys) rest e (h, hs) = AllZip-right R xs more ys rest (omega arith) hs

pub AllZip-append : {A B : Type 0} (R : A → B → Type 0) (xs more : List A) (ys rest : List B) → AllZip R xs ys → AllZip R more rest
    → AllZip R (xs ++ more) (ys ++ rest)
AllZip-append R [] more [] rest h k = k
AllZip-append R [] more (y ∷ ys) rest h k = absurd h
AllZip-append R (x ∷ xs) more [] rest h k = absurd h
AllZip-append R (x ∷ xs) more (y ∷ ys) rest (h, hs) k = (h, AllZip-append R xs more ys rest hs k)

-- what a part holds is found at its place
pub found_in : (bytes part rest : List ℕ) (place d len : ℕ) → d + len ≤ length part → drop place bytes ≡ part ++ rest
    → take len (drop (place + d) bytes) ≡ take len (drop d part)
found_in bytes part rest place d len h whole =
    let long : len ≤ length (drop d part) = omega (arith, length-drop d part) in
    ap (λ (t : List ℕ). take len t) (sym (drop-drop d place bytes))
    ∙ ap (λ (t : List ℕ). take len (drop d t)) whole
    ∙ ap (λ (t : List ℕ). take len t) (drop-append-le d part rest (omega arith))
    ∙ take-append-le len (drop d part) rest long

-- the range in a section's raw bytes is the range in the file
raw_range : (bytes : List ℕ) (s : PeSection) (d len : ℕ) → d + len ≤ s.raw_size
    → take len (drop d (raw_of bytes s)) ≡ take len (drop (s.raw_at + d) bytes)
unfolding raw_of
raw_range bytes s d len h =
    let X = drop s.raw_at bytes in
    let size : s.raw_size ≡ d + (s.raw_size - d) = omega arith in
    ap (λ (t : ℕ). take len (drop d (take t X))) size
    ∙ ap (λ (t : List ℕ). take len t) (drop-take d (s.raw_size - d) X)
    ∙ take-take len (s.raw_size - d) (drop d X) (omega arith)
    ∙ ap (λ (t : List ℕ). take len t) (drop-drop d s.raw_at bytes)

abbrev place_in : ℕ → PeSection → ℕ
place_in rva s = s.raw_at + (rva - s.rva)

abbrev Kept : ℕ → ℕ → ℕ → List PeSection → List ℕ → List ℕ → Type 0
Kept rva len place sections old new =
    (kept : ℕ) × (option_map (place_in rva) (find (has_range rva len) sections) ≡ Some kept) ×
    (take len (drop kept new) ≡ take len (drop place old))

range_parts : (rva len : ℕ) (s : PeSection) → has_range rva len s ≡ true → (s.rva ≤ rva) × (rva + len ≤ s.rva + s.raw_size)
range_parts rva len s h =
    let p = and_parts (leb s.rva rva) (leb (rva + len) (s.rva + s.raw_size)) h in
    (leb-true s.rva rva p.0, leb-true (rva + len) (s.rva + s.raw_size) p.1)

abbrev pub IsWhole : List ℕ → PeSection → Type 0
IsWhole bytes s = length (raw_of bytes s) ≡ s.raw_size

abbrev pub AllWhole : List ℕ → List PeSection → Type 0
AllWhole bytes [] = Unit {0}
AllWhole bytes (s ∷ ss) = IsWhole bytes s × AllWhole bytes ss

kept_here : (rva len place at : ℕ) (s : PeSection) (ss : List PeSection) (old new : List ℕ) → has_range rva len s ≡ true
    → place_in rva s ≡ place → Holds new (record s { raw_at = at }) (raw_of old s) → IsWhole old s
    → (kept : ℕ) × (option_map (place_in rva) (find (has_range rva len) (record s { raw_at = at } ∷ ss)) ≡ Some kept)
    × (take len (drop kept new) ≡ take len (drop place old))
kept_here rva len place at s ss old new hit e (rest, holds) whole =
    let r = range_parts rva len s hit in
    let d : ℕ = rva - s.rva in
    let long : d + len ≤ length (raw_of old s) = omega (arith, whole, r.0, r.1) in
    let inside : d + len ≤ s.raw_size = omega (arith, r.0, r.1) in
    let bytes : take len (drop (at + d) new) ≡ take len (drop place old) =
    found_in new (raw_of old s) rest at d len long holds ∙ raw_range old s d len inside ∙ ap (λ (t : ℕ). take len (drop t old)) e in (
      at + d,
      ap (λ (b : Bool). option_map (place_in rva) (cond b (Some (record s { raw_at = at })) (find (has_range rva len) ss))) hit,
      bytes,
    )

kept_after : (rva len place at : ℕ) (s : PeSection) (ss : List PeSection) (old new : List ℕ) → has_range rva len s ≡ false
    → Kept rva len place ss old new → Kept rva len place (record s { raw_at = at } ∷ ss) old new
kept_after rva len place at s ss old new miss (kept, e, same) = (
  kept,
  ap (λ (b : Bool). option_map (place_in rva) (cond b (Some (record s { raw_at = at })) (find (has_range rva len) ss))) miss
      ∙ e,
  same,
)

some_is : (a b : ℕ) → Some a ≡ Some b → a ≡ b
some_is a b e = cc

-- a range that is found in the input is found in the written file, whatever sections follow
pub kept_in : (sections more : List PeSection) (at rva len place : ℕ) (old new : List ℕ)
    → AllZip (Holds new) (placed_from at sections) (map (raw_of old) sections) → AllWhole old sections
    → option_map (place_in rva) (find (has_range rva len) sections) ≡ Some place
    → Kept rva len place (placed_from at (sections ++ more)) old new
kept_in [] more at rva len place old new holds whole e = absurd (let x : ⊥ = cc in x)
kept_in (s ∷ ss) more at rva len place old new (h, hs) (w, ws) e =
    elim (cases_Bool (has_range rva len s)) [
      | inl hit ↦
          let here : Some (place_in rva s) ≡ Some place =
          sym (ap (λ (b : Bool). option_map (place_in rva) (cond b (Some s) (find (has_range rva len) ss))) hit) ∙ e in
          kept_here rva len place at s (placed_from (at + aligned 512 s.raw_size) (ss ++ more)) old new hit
          (some_is (place_in rva s) place here) h w
      | inr miss ↦
          let later : option_map (place_in rva) (find (has_range rva len) ss) ≡ Some place =
          sym (ap (λ (b : Bool). option_map (place_in rva) (cond b (Some s) (find (has_range rva len) ss))) miss) ∙ e in
          kept_after rva len place at s (placed_from (at + aligned 512 s.raw_size) (ss ++ more)) old new miss
          (kept_in ss more (at + aligned 512 s.raw_size) rva len place old new hs ws later)
    ]

-- a range after the ends of all sections is in none of them
out_of_range : (rva len : ℕ) (s : PeSection) → 0 < len → section_end s ≤ rva → has_range rva len s ≡ false
out_of_range rva len s h e =
    let past : s.rva + s.raw_size < rva + len = omega arith in
    and_right (leb s.rva rva) (leb (rva + len) (s.rva + s.raw_size)) (lt-leb (rva + len) (s.rva + s.raw_size) past)

pub find_after : (sections more : List PeSection) (at rva len : ℕ) → 0 < len → highest_end sections ≤ rva
    → find (has_range rva len) (placed_from at (sections ++ more)) ≡ find (has_range rva len) (placed_from (end_from at sections) more)
find_after [] more at rva len h e = refl
find_after (s ∷ ss) more at rva len h e =
    let miss = out_of_range rva len s h (omega arith) in
    let others = find_after ss more (at + aligned 512 s.raw_size) rva len h (omega arith) in
    ap (λ (b : Bool). cond b (Some (record s { raw_at = at }))
    (find (has_range rva len) (placed_from (at + aligned 512 s.raw_size) (ss ++ more)))) miss ∙ others

-- a range within a part is found in the part's section
pub part_found : (s : PeSection) (others : List PeSection) (part : List ℕ) (start len : ℕ) → start + len ≤ length part
    → length part ≤ s.raw_size → s.rva + start + len ≤ 2 ^ 32
    → slice_of_rva (s ∷ others) (s.rva + start) len ≡ Some (s.raw_at + start)
part_found s others part start len h fits small =
    let d : s.rva + start - s.rva ≡ start = omega arith in
    let low : s.rva ≤ s.rva + start = omega arith in
    let high : s.rva + start + len ≤ s.rva + s.raw_size = omega arith in
    let hit : has_range (s.rva + start) len s ≡ true =
    and_from (leb s.rva (s.rva + start)) (leb (s.rva + start + len) (s.rva + s.raw_size)) (le-leb s.rva (s.rva + start) low)
    (le-leb (s.rva + start + len) (s.rva + s.raw_size) high) in
    ap (λ (b : Bool). cond b (option_map (place_in (s.rva + start)) (find (has_range (s.rva + start) len) (s ∷ others))) None)
    (le-leb (s.rva + start + len) (2 ^ 32) small)
    ∙ ap (λ (b : Bool). option_map (place_in (s.rva + start)) (cond b (Some s) (find (has_range (s.rva + start) len) others))) hit
    ∙ ap (λ (t : ℕ). Some (s.raw_at + t)) d

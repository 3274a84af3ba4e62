-- The length of a written sparse array, by the lengths of its contents.
use Rattle.std.proofs.Common.{◌≡◌, ℕ, zero, suc, ◌+◌, ◌-◌, ◌*◌, ◌^◌, ◌<◌, ◌≤◌, Bool, true, false, cond, eqb, List, [], ◌∷◌, ◌++◌, length}
use Rattle.std.proofs.Common.{map, get_or, take, drop, Option, Some, None, refl, sym, ap, ◌∙◌, arith, inl, inr}
use Rattle.std.specs.Prelude.{sum_by, unwrap_or}
use Rattle.std.specs.Option.{option_map}
use Rattle.std.specs.List.{range_with_len}
use Rattle.std.proofs.lemmas.Bool.{lt-ltb, le-ltb, ne_eqb, cases_lt}
use Rattle.std.proofs.lemmas.List.{length-append, length-drop, length-map, length-take-le, take_rest, get_or-map, get_or-take, get_or-drop}
use Rattle.std.proofs.lemmas.List.{ext_get_or, take-map, drop-map}
use Rattle.byteorder.specs.Endian.{little_bytes}
use Rattle.byteorder.specs.Numbers.{length-bytes_low_first}
use Rattle.std.proofs.lemmas.List.FromFn.{get_or-map-range_with_len, length-map-range_with_len}
use Rattle.std.proofs.lemmas.List.Sums.{sum_by-cons}
use Rattle.native_format.specs.declared.sparse.Element.{Element}
use Rattle.native_format.specs.Uint.{short_uint}
use Rattle.native_format.specs.Sparse.{blocks_of, weights}
use Rattle.native_format.specs.SparseBytes.{block, blocks, content_by_index, fork_number, index_bytes, joined, fork_in, slots_from}
use Rattle.native_format.specs.SparseBytes.{sparse_bytes, tree}
use Rattle.native_format.specs.SparseLengths.{AreBelow, Lengths, block_at, block_len, blocks_len, capped, fork_len, length_at, lengths_from}
use Rattle.native_format.specs.SparseLengths.{lengths_of, node_len, sparse_len, tree_len}
use Rattle.native_format.specs.SparseSteps.{AreSlots, IsSmall}
use Rattle.native_format.proofs.UintLaws.{short_len, size_some}
use Rattle.native_format.proofs.WriterParts.{below, node_len_is, split_weights, wide_split}

abbrev pub Lens : Type 0
Lens = List (Option ℕ)

-- ---- of a fork

is_one : (v : ℕ) → v < 2 ^ 7 → length (short_uint v) ≡ 1
is_one v h = short_len v ∙ rw (lt-ltb v (2 ^ 7) h) refl

is_two : (v : ℕ) → 2 ^ 7 ≤ v → v < 2 ^ 14 → length (short_uint v) ≡ 2
is_two v g h = short_len v ∙ rw (le-ltb v (2 ^ 7) g, lt-ltb v (2 ^ 14) h) refl

is_three : (v : ℕ) → 2 ^ 14 ≤ v → v < 2 ^ 21 → length (short_uint v) ≡ 3
is_three v g h = let a : 2 ^ 7 ≤ v = omega arith in short_len v ∙ rw (le-ltb v (2 ^ 7) a, le-ltb v (2 ^ 14) g, lt-ltb v (2 ^ 21) h) refl

is_four : (v : ℕ) → 2 ^ 21 ≤ v → v < 2 ^ 28 → length (short_uint v) ≡ 4
is_four v g h =
    let a : 2 ^ 7 ≤ v = omega arith in
    let b : 2 ^ 14 ≤ v = omega arith in
    short_len v ∙ rw (le-ltb v (2 ^ 7) a, le-ltb v (2 ^ 14) b, le-ltb v (2 ^ 21) g, lt-ltb v (2 ^ 28) h) refl

is_five : (v : ℕ) → 2 ^ 28 ≤ v → length (short_uint v) ≡ 5
is_five v g =
    let a : 2 ^ 7 ≤ v = omega arith in
    let b : 2 ^ 14 ≤ v = omega arith in
    let c : 2 ^ 21 ≤ v = omega arith in
    short_len v ∙ rw (le-ltb v (2 ^ 7) a, le-ltb v (2 ^ 14) b, le-ltb v (2 ^ 21) c, le-ltb v (2 ^ 28) g) refl

pub fork_one : (low : ℕ) → low < 2 ^ 5 - 1 → fork_len low ≡ 1
unfolding fork_len fork_number
fork_one low h = rw (lt-ltb (fork_in low 1) (2 ^ 7) (omega arith)) (is_one (fork_in low 1) (omega arith))

pub fork_two : (low : ℕ) → 2 ^ 5 - 1 ≤ low → low < 2 ^ 12 - 2 → fork_len low ≡ 2
unfolding fork_len fork_number
fork_two low g h =
    rw (le-ltb (fork_in low 1) (2 ^ 7) (omega arith), lt-ltb (fork_in low 2) (2 ^ 14) (omega arith))
    (is_two (fork_in low 2) (omega arith) (omega arith))

pub fork_three : (low : ℕ) → 2 ^ 12 - 2 ≤ low → low < 2 ^ 19 - 3 → fork_len low ≡ 3
unfolding fork_len fork_number
fork_three low g h =
    rw (
      le-ltb (fork_in low 1) (2 ^ 7) (omega arith),
      le-ltb (fork_in low 2) (2 ^ 14) (omega arith),
      lt-ltb (fork_in low 3) (2 ^ 21) (omega arith),
    )
    (is_three (fork_in low 3) (omega arith) (omega arith))

last_number : (low : ℕ) → 2 ^ 19 - 3 ≤ low → fork_len low ≡ length (short_uint (fork_in low 4))
unfolding fork_len fork_number
last_number low g =
    rw (
      le-ltb (fork_in low 1) (2 ^ 7) (omega arith),
      le-ltb (fork_in low 2) (2 ^ 14) (omega arith),
      le-ltb (fork_in low 3) (2 ^ 21) (omega arith),
    ) refl

pub fork_four : (low : ℕ) → 2 ^ 19 - 3 ≤ low → low < 2 ^ 26 - 4 → fork_len low ≡ 4
fork_four low g h = last_number low g ∙ is_four (fork_in low 4) (omega arith) (omega arith)

pub fork_five : (low : ℕ) → 2 ^ 26 - 4 ≤ low → fork_len low ≡ 5
fork_five low g = last_number low (omega arith) ∙ is_five (fork_in low 4) (omega arith)

-- ---- of a tree

-- the length of a written tree is what its contents' lengths say
pub tree_len_is : (ws : List ℕ) (slots : List (Option (List ℕ)))
    → option_map length (tree ws slots) ≡ tree_len ws (map (option_map length) slots)
unfolding tree tree_len
tree_len_is [] [] = refl
tree_len_is [] (s ∷ slots) = refl
tree_len_is (w ∷ ws) slots =
    node_len_is (tree ws (take w slots)) (tree ws (drop w slots))
    ∙ ap (λ (l : Option ℕ). node_len l (option_map length (tree ws (drop w slots)))) (tree_len_is ws (take w slots))
    ∙ ap (λ (h : Option ℕ). node_len (tree_len ws (map (option_map length) (take w slots))) h) (tree_len_is ws (drop w slots))
    ∙ ap (λ (x : Lens). node_len (tree_len ws x) (tree_len ws (map (option_map length) (drop w slots))))
    (sym (take-map (option_map length) w slots))
    ∙ ap (λ (y : Lens). node_len (tree_len ws (take w (map (option_map length) slots))) (tree_len ws y))
    (sym (drop-map (option_map length) w slots))

-- the halves of a tree, as the code names them
abbrev pub upper_lens : ℕ → Lens → Lens
upper_lens w slots = take (length slots - w) (drop w slots)

-- lengths that stop at the last value of u64
pub cap_node : (l h : Option ℕ)
    → option_map capped (node_len (option_map capped l) (option_map capped h)) ≡ option_map capped (node_len l h)
cap_node None None = refl
cap_node (Some l) None = ap (λ (n : ℕ). Some n) (omega arith)
cap_node None (Some h) = ap (λ (n : ℕ). Some n) (omega arith)
cap_node (Some l) (Some h) =
    elim (cases_lt l (2 ^ 64)) [
      | inl lt ↦ let same : capped l ≡ l = omega arith in rw same (ap (λ (n : ℕ). Some n) (omega arith))
      | inr le ↦ ap (λ (n : ℕ). Some n) (omega arith)
    ]

pub cap_tree : (ws : List ℕ) (slots : Lens)
    → option_map capped (tree_len ws (map (option_map capped) slots)) ≡ option_map capped (tree_len ws slots)
unfolding tree_len
cap_tree [] [] = refl
cap_tree [] (None ∷ slots) = refl
cap_tree [] (Some n ∷ slots) = ap (λ (m : ℕ). Some m) (omega arith)
cap_tree (w ∷ ws) slots =
    let f : Option ℕ → Option ℕ = option_map capped in
    let low = tree_len ws (take w slots) in
    let high = tree_len ws (drop w slots) in
    let low' = tree_len ws (map f (take w slots)) in
    let high' = tree_len ws (map f (drop w slots)) in
    ap (λ (x : Lens). f (node_len (tree_len ws x) (tree_len ws (drop w (map f slots))))) (take-map f w slots)
    ∙ ap (λ (y : Lens). f (node_len low' (tree_len ws y))) (drop-map f w slots)
    ∙ sym (cap_node low' high')
    ∙ ap (λ (l : Option ℕ). f (node_len l (f high'))) (cap_tree ws (take w slots))
    ∙ ap (λ (h : Option ℕ). f (node_len (f low) h)) (cap_tree ws (drop w slots))
    ∙ cap_node low high

cap_or : (t : Option ℕ) → unwrap_or (option_map capped t) 1 ≡ capped (unwrap_or t 1)
cap_or None = omega arith
cap_or (Some n) = refl

pub cap_block : (slots : Lens) → capped (block_len (map (option_map capped) slots)) ≡ capped (block_len slots)
cap_block slots =
    sym (cap_or (tree_len weights (map (option_map capped) slots))) ∙ ap (λ (t : Option ℕ). unwrap_or t 1) (cap_tree weights slots)
    ∙ cap_or (tree_len weights slots)

cap_step : (low high l h : Option ℕ) → option_map capped low ≡ option_map capped l → option_map capped high ≡ option_map capped h
    → option_map capped (node_len low high) ≡ option_map capped (node_len l h)
cap_step low high l h p q = sym (cap_node low high) ∙ rw (p, q) (cap_node l h)

-- a length that is below the limit is not capped
uncapped : (r : Option ℕ) (t : Option (List ℕ)) → option_map capped r ≡ option_map capped (option_map length t) → IsSmall t
    → r ≡ option_map length t
uncapped None None e small = refl
uncapped None (Some t) e small = absurd (let x : ⊥ = cc in x)
uncapped (Some n) None e small = absurd (let x : ⊥ = cc in x)
uncapped (Some n) (Some t) e small =
    let same : capped n ≡ capped (length t) = cc in
    ap (λ (m : ℕ). Some m) (omega (arith, same, small))

-- of contents that are written
pub len_written : (ws : List ℕ) (lens : Lens) (slots : List (Option (List ℕ))) (r : Option ℕ)
    → option_map capped r ≡ option_map capped (tree_len ws lens) → lens ≡ map (option_map length) slots → IsSmall (tree ws slots)
    → r ≡ option_map length (tree ws slots)
len_written ws lens slots r e is small =
    uncapped r (tree ws slots)
    (e ∙ ap (λ (l : Lens). option_map capped (tree_len ws l)) is ∙ ap (option_map capped) (sym (tree_len_is ws slots))) small

-- slots without contents
abbrev pub AreNone : Lens → Type 0
AreNone [] = Unit {0}
AreNone (None ∷ slots) = AreNone slots
AreNone (Some n ∷ slots) = ⊥

pub all_none : (slots : Lens) → AreNone slots → (i : ℕ) → get_or slots i None ≡ None
all_none [] h i = refl
all_none (None ∷ slots) h zero = refl
all_none (None ∷ slots) h (suc i) = all_none slots h i
all_none (Some n ∷ slots) h i = absurd h

abbrev pub no_slots : Lens
no_slots = None ∷ None ∷ None ∷ None ∷ None ∷ None ∷ None ∷ None ∷ None ∷ None ∷ None ∷ None ∷ None ∷ None ∷ None ∷ None ∷ []

pub none_at_all : (i : ℕ) → get_or no_slots i None ≡ None
none_at_all = all_none no_slots tt

-- the steps of the code
pub len_halves : (ws : List ℕ) (slots : Lens) → 1 ≤ length ws
    → tree_len ws slots ≡ node_len (tree_len (below ws) (take (get_or ws 0 0) slots))
    (tree_len (below ws) (upper_lens (get_or ws 0 0) slots))
unfolding tree_len
len_halves ws slots h =
    let w = get_or ws 0 0 in
    ap (λ (l : List ℕ). tree_len l slots) (split_weights ws h)
    ∙ ap (λ (y : Lens). node_len (tree_len (below ws) (take w slots)) (tree_len (below ws) y)) (sym (take_rest slots w))

cap_twice : (o : Option ℕ) → option_map capped (option_map capped o) ≡ option_map capped o
cap_twice None = refl
cap_twice (Some n) = ap (λ (m : ℕ). Some m) (omega arith)

pub len_step : (ws : List ℕ) (slots : Lens) (low high result : Option ℕ) → 1 ≤ length ws
    → option_map capped low ≡ option_map capped (tree_len (below ws) (take (get_or ws 0 0) slots))
    → option_map capped high ≡ option_map capped (tree_len (below ws) (upper_lens (get_or ws 0 0) slots))
    → result ≡ option_map capped (node_len low high) → option_map capped result ≡ option_map capped (tree_len ws slots)
len_step ws slots low high result h p q is =
    ap (option_map capped) is ∙ cap_twice (node_len low high)
    ∙ cap_step low high (tree_len (below ws) (take (get_or ws 0 0) slots)) (tree_len (below ws) (upper_lens (get_or ws 0 0) slots)) p q
    ∙ ap (option_map capped) (sym (len_halves ws slots h))

pub len_leaf : (ws : List ℕ) (slots : Lens) → length ws < 1
    → option_map capped (get_or slots 0 None) ≡ option_map capped (tree_len ws slots)
unfolding tree_len
len_leaf [] [] h = refl
len_leaf [] (s ∷ slots) h = refl
len_leaf (w ∷ ws) slots h = absurd (omega arith)

-- of a block, as it was added up
pub block_is : (slots : Lens) (r : Option ℕ) (result : ℕ) → option_map capped r ≡ option_map capped (tree_len weights slots)
    → result ≡ unwrap_or r 1 → result < 2 ^ 64
    → result ≡ capped (block_len slots)
block_is slots r result e is small =
    let kept : result ≡ capped result = omega arith in
    kept ∙ ap capped is ∙ sym (cap_or r) ∙ ap (λ (t : Option ℕ). unwrap_or t 1) e ∙ cap_or (tree_len weights slots)

pub wide_lower : (ws : List ℕ) (slots : Lens) → 1 ≤ length ws → AreSlots ws (length slots)
    → AreSlots (below ws) (length (take (get_or ws 0 0) slots))
wide_lower ws slots h wide =
    let p = wide_split ws (length slots) h wide in
    rw (length-take-le (get_or ws 0 0) slots (omega (arith, p.0))) p.1

pub wide_upper : (ws : List ℕ) (slots : Lens) → 1 ≤ length ws → AreSlots ws (length slots)
    → AreSlots (below ws) (length (upper_lens (get_or ws 0 0) slots))
wide_upper ws slots h wide =
    let p = wide_split ws (length slots) h wide in
    let half : length (upper_lens (get_or ws 0 0) slots) ≡ get_or ws 0 0 =
    ap length (take_rest slots (get_or ws 0 0)) ∙ omega (arith, p.0, length-drop (get_or ws 0 0) slots) in
    rw half p.1

-- a tree without contents
pub no_tree : (ws : List ℕ) (slots : Lens) → ((i : ℕ) → get_or slots i None ≡ None) → tree_len ws slots ≡ None
unfolding tree_len
no_tree [] slots none = none 0
no_tree (w ∷ ws) slots none =
    let low : tree_len ws (take w slots) ≡ None = no_tree ws (take w slots) (λ i. elim (cases_lt i w) [
      | inl lt ↦ get_or-take w slots i None lt ∙ none i
      | inr le ↦ past w slots i le
    ]) in
    let high : tree_len ws (drop w slots) ≡ None = no_tree ws (drop w slots) (λ i. get_or-drop w slots i None ∙ none (w + i)) in
    rw (low, high) refl
  where
    past : (w : ℕ) (xs : Lens) (i : ℕ) → w ≤ i → get_or (take w xs) i None ≡ None
    past zero xs i le = refl
    past (suc w) [] i le = refl
    past (suc w) (x ∷ xs) zero le = absurd (omega arith)
    past (suc w) (x ∷ xs) (suc i) le = past w xs i (omega arith)

-- ---- of blocks

pub blocks_more : (lengths : Lengths) (n : ℕ) → blocks_len lengths (n + 1) ≡ blocks_len lengths n + block_len (block_at lengths n)
unfolding blocks_len
blocks_more lengths n = let here : 0 + n ≡ n = omega arith in rw here at (go 0 n) where
  go : (first n : ℕ)
      → sum_by (λ k. block_len (block_at lengths k)) (range_with_len first (n + 1)) ≡ sum_by (λ k. block_len (block_at lengths k))
      (range_with_len first n) + block_len (block_at lengths (first + n))
  go first zero = let here : first + 0 ≡ first = omega arith in rw here (omega arith)
  go first (suc n) =
      let f : ℕ → ℕ = λ k. block_len (block_at lengths k) in
      let here : first + 1 + n ≡ first + suc n = omega arith in
      let one : suc n + 1 ≡ suc (n + 1) = omega arith in
      ap (λ (m : ℕ). sum_by f (range_with_len first m)) one
      ∙ omega (
        arith,
        sum_by-cons f first (range_with_len (first + 1) (n + 1)),
        sum_by-cons f first (range_with_len (first + 1) n),
        go (first + 1) n,
        ap f here,
      )

pub none_blocks : (lengths : Lengths) → blocks_len lengths 0 ≡ 0
unfolding blocks_len
none_blocks lengths = refl

pub length-block : (lengths : Lengths) (k : ℕ) → length (block_at lengths k) ≡ 16
unfolding lengths_from
length-block lengths k = length-map-range_with_len (length_at lengths) (16 * k) 16

pub in_block : (lengths : Lengths) (k i : ℕ) → i < 16 → get_or (block_at lengths k) i None ≡ length_at lengths (16 * k + i)
unfolding lengths_from
in_block lengths k i lt = get_or-map-range_with_len (length_at lengths) (16 * k) 16 i (16 * k + i) None lt refl

pub past_block : (lengths : Lengths) (k i : ℕ) → 16 ≤ i → get_or (block_at lengths k) i None ≡ None
past_block lengths k i le = beyond (block_at lengths k) i (omega (arith, length-block lengths k)) where
  beyond : (xs : Lens) (i : ℕ) → length xs ≤ i → get_or xs i None ≡ None
  beyond [] i le = refl
  beyond (x ∷ xs) zero le = absurd (omega arith)
  beyond (x ∷ xs) (suc i) le = beyond xs i (omega arith)

pub same_block : (a b : Lengths) (k : ℕ) → ((i : ℕ) → i < 16 → length_at a (16 * k + i) ≡ length_at b (16 * k + i))
    → block_at a k ≡ block_at b k
same_block a b k same =
    ext_get_or None (block_at a k) (block_at b k) (length-block a k ∙ sym (length-block b k))
    (λ i lt. let i_lt : i < 16 = omega (arith, length-block a k) in in_block a k i i_lt ∙ same i i_lt ∙ sym (in_block b k i i_lt))

pub same_blocks : (a b : Lengths) (n : ℕ) → ((i : ℕ) → i < 16 * n → length_at a i ≡ length_at b i) → blocks_len a n ≡ blocks_len b n
same_blocks a b zero same = none_blocks a ∙ sym (none_blocks b)
same_blocks a b (suc n) same =
    let one : suc n ≡ n + 1 = omega arith in
    let before = same_blocks a b n (λ i lt. same i (omega arith)) in
    let here = same_block a b n (λ i lt. same (16 * n + i) (omega arith)) in
    rw one
    (blocks_more a n ∙ ap (λ (m : ℕ). m + block_len (block_at a n)) before ∙ ap (λ (s : Lens). blocks_len b n + block_len s) here
    ∙ sym (blocks_more b n))

-- nothing is at an index that all are below
pub none_at : (lengths : Lengths) (limit i : ℕ) → AreBelow limit lengths → limit ≤ i → length_at lengths i ≡ None
unfolding length_at
none_at [] limit i h le = refl
none_at (e ∷ es) limit i h le = rw (ne_eqb e.0 i (λ same. omega (arith, h.0, same))) (none_at es limit i h.1 le)

pub empty_block : (lengths : Lengths) (limit k : ℕ) → AreBelow limit lengths → limit ≤ 16 * k → (i : ℕ)
    → get_or (block_at lengths k) i None ≡ None
empty_block lengths limit k h le i =
    elim (cases_lt i 16) [
      | inl lt ↦ in_block lengths k i lt ∙ none_at lengths limit (16 * k + i) h (omega arith)
      | inr ge ↦ past_block lengths k i ge
    ]

-- an empty block has one byte
pub empty_blocks : (lengths : Lengths) (limit k n : ℕ) → AreBelow limit lengths → limit ≤ 16 * k
    → blocks_len lengths (k + n) ≡ blocks_len lengths k + n
empty_blocks lengths limit k zero h le = let e : k + 0 ≡ k = omega arith in rw e (omega arith)
empty_blocks lengths limit k (suc n) h le =
    let next : k + suc n ≡ k + n + 1 = omega arith in
    let one : block_len (block_at lengths (k + n)) ≡ 1 =
    ap (λ (t : Option ℕ). unwrap_or t 1) (no_tree weights (block_at lengths (k + n)) (empty_block lengths limit (k + n) h (omega arith))) in
    rw next (omega (arith, blocks_more lengths (k + n), one, empty_blocks lengths limit k n h le))

-- ---- the whole

pub length_at-of : (es : List Element) (i : ℕ) → option_map length (content_by_index es i) ≡ length_at (lengths_of es) i
unfolding content_by_index length_at
length_at-of [] i = refl
length_at-of (e ∷ es) i = chosen (eqb e.index i) e.content (content_by_index es i) (length_at (lengths_of es) i) (length_at-of es i) where
  chosen : (b : Bool) (content : List ℕ) (others : Option (List ℕ)) (lens : Option ℕ) → option_map length others ≡ lens
      → option_map length (cond b (Some content) others) ≡ cond b (Some (length content)) lens
  chosen true content others lens h = refl
  chosen false content others lens h = h

pub slots_of : (es : List Element) (k : ℕ) → map (option_map length) (slots_from es (16 * k) 16) ≡ block_at (lengths_of es) k
unfolding slots_from lengths_from
slots_of es k =
    let f : Option (List ℕ) → Option ℕ = option_map length in
    let xs = map (content_by_index es) (range_with_len (16 * k) 16) in
    let ys = map (length_at (lengths_of es)) (range_with_len (16 * k) 16) in
    let wide : length xs ≡ 16 = length-map-range_with_len (content_by_index es) (16 * k) 16 in
    ext_get_or None (map f xs) ys (length-map xs f ∙ wide ∙ sym (length-map-range_with_len (length_at (lengths_of es)) (16 * k) 16))
    (λ i lt. let i_lt : i < 16 = omega (arith, length-map xs f, wide) in
    get_or-map f xs i None None (omega (arith, wide))
    ∙ ap f (get_or-map-range_with_len (content_by_index es) (16 * k) 16 i (16 * k + i) None i_lt refl)
    ∙ length_at-of es (16 * k + i) ∙ sym (get_or-map-range_with_len (length_at (lengths_of es)) (16 * k) 16 i (16 * k + i) None i_lt refl))

pub length-index : (at : ℕ) (bs : List (List ℕ)) → length (index_bytes at bs) ≡ 4 * length bs
unfolding index_bytes
length-index at [] = refl
length-index at (b ∷ bs) =
    length-append (little_bytes 4 at) (index_bytes (at + length b) bs)
    ∙ rw (length-bytes_low_first 0 4 at, length-index (at + length b) bs) (omega arith)

block_or : (t : Option (List ℕ)) → length (unwrap_or t (short_uint 64)) ≡ unwrap_or (option_map length t) 1
block_or None = short_len 64
block_or (Some t) = refl

pub block_len_is : (es : List Element) (k : ℕ) → length (block es k) ≡ block_len (block_at (lengths_of es) k)
block_len_is es k =
    block_or (tree weights (slots_from es (16 * k) 16))
    ∙ ap (λ (t : Option ℕ). unwrap_or t 1) (tree_len_is weights (slots_from es (16 * k) 16))
    ∙ ap block_len (slots_of es k)

pub blocks_len_is : (es : List Element) (n : ℕ) → length (joined (blocks es n)) ≡ blocks_len (lengths_of es) n
unfolding blocks_len
blocks_len_is es n = go 0 n where
  go : (first n : ℕ)
      → length (joined (map (block es) (range_with_len first n))) ≡ sum_by (λ k. block_len (block_at (lengths_of es) k))
      (range_with_len first n)
  go first zero = refl
  go first (suc n) =
      omega (
        arith,
        length-append (block es first) (joined (map (block es) (range_with_len (first + 1) n))),
        sum_by-cons (λ k. block_len (block_at (lengths_of es) k)) first (range_with_len (first + 1) n),
        block_len_is es first,
        go (first + 1) n,
      )

pub sparse_len_is : (count : ℕ) (es : List Element) → length (sparse_bytes count es) ≡ sparse_len count (lengths_of es)
unfolding sparse_bytes sparse_len
sparse_len_is count es =
    let n = blocks_of count in
    let index = index_bytes (4 * n) (blocks es n) in
    let body = joined (blocks es n) in
    omega (
      arith,
      length-append (short_uint (4 * count + 2)) (index ++ body),
      length-append index body,
      length-index (4 * n) (blocks es n),
      length-map-range_with_len (block es) 0 n,
      blocks_len_is es n,
    )

pub some_bytes : (count : ℕ) (es : List Element) → 1 ≤ length (sparse_bytes count es)
unfolding sparse_len
some_bytes count es = omega (arith, sparse_len_is count es, short_len (4 * count + 2), size_some (4 * count + 2))

-- The parts of the writer of sparse arrays.
use Rattle.std.proofs.Common.{◌≡◌, ℕ, ◌+◌, ◌*◌, ◌-◌, ◌<◌, ◌≤◌, List, [], ◌∷◌, ◌++◌, length, get_or, take, drop, Option, Some, None, map}
use Rattle.std.proofs.Common.{set, refl, sym, ap, subst, ◌∙◌, append_assoc, arith, inl, inr}
use denote.Ref.{Bor}
use Rattle.std.specs.Prelude.{unwrap_or}
use Rattle.std.specs.Option.{option_copied, option_map}
use Rattle.std.proofs.lemmas.Bool.{cases_eq}
use Rattle.std.proofs.lemmas.List.{append-nil, ext_get_or, get_or-map, get_or-set_other, get_or-set_same, length-append, length-drop}
use Rattle.std.proofs.lemmas.List.{length-map, length-take, length-take-le, take-map, drop-map, take_rest}
use Rattle.native_format.specs.Uint.{short_uint}
use Rattle.native_format.specs.SparseBytes.{fork_number, node, tree}
use Rattle.native_format.specs.SparseSteps.{AreSlots, IsSmall, IsShort, contents, head_of_node}
use Rattle.native_format.specs.SparseLengths.{fork_len, node_len}
use Rattle.native_format.proofs.UintLaws.{short_len}

abbrev Lent : Type 0
Lent = List (Option (Bor (List ℕ)))

-- the weights below the first, as the code names them
abbrev pub below : List ℕ → List ℕ
below ws = take (length ws - 1) (drop 1 ws)

pub split_weights : (ws : List ℕ) → 1 ≤ length ws → ws ≡ get_or ws 0 0 ∷ below ws
split_weights [] h = absurd (omega arith)
split_weights (w ∷ ws) h = ap (λ (l : List ℕ). w ∷ l) (sym (take_rest (w ∷ ws) 1))

pub wide_split : (ws : List ℕ) (n : ℕ) → 1 ≤ length ws → AreSlots ws n → (n ≡ 2 * get_or ws 0 0) × AreSlots (below ws) (get_or ws 0 0)
wide_split ws n h wide = subst (λ (l : List ℕ). AreSlots l n) (split_weights ws h) wide

pub half_within : (ws : List ℕ) (n : ℕ) → 1 ≤ length ws → AreSlots ws n → n ≡ 2 * get_or ws 0 0
half_within ws n h wide = (wide_split ws n h wide).0

pub wide_low : (ws : List ℕ) (slots : Lent) → 1 ≤ length ws → AreSlots ws (length slots)
    → AreSlots (below ws) (length (take (get_or ws 0 0) slots))
wide_low ws slots h wide =
    let p = wide_split ws (length slots) h wide in
    rw (length-take-le (get_or ws 0 0) slots (omega (arith, p.0))) p.1

-- the slots after the first half, as the code names them
abbrev pub upper : ℕ → Lent → Lent
upper w slots = take (length slots - w) (drop w slots)

pub wide_high : (ws : List ℕ) (slots : Lent) → 1 ≤ length ws → AreSlots ws (length slots)
    → AreSlots (below ws) (length (upper (get_or ws 0 0) slots))
wide_high ws slots h wide =
    let p = wide_split ws (length slots) h wide in
    let half : length (upper (get_or ws 0 0) slots) ≡ get_or ws 0 0 =
    ap length (take_rest slots (get_or ws 0 0)) ∙ omega (arith, p.0, length-drop (get_or ws 0 0) slots) in
    rw half p.1

pub halves : (ws : List ℕ) (slots : Lent) → 1 ≤ length ws
    → tree ws (contents slots) ≡ node (tree (below ws) (contents (take (get_or ws 0 0) slots)))
    (tree (below ws) (contents (upper (get_or ws 0 0) slots)))
unfolding tree
halves ws slots h =
    let w = get_or ws 0 0 in
    ap (λ (l : List ℕ). tree l (contents slots)) (split_weights ws h)
    ∙ ap (λ (x : List (Option (List ℕ))). node (tree (below ws) x) (tree (below ws) (drop w (contents slots))))
    (take-map option_copied w slots)
    ∙ ap (λ (y : List (Option (List ℕ))). node (tree (below ws) (contents (take w slots))) (tree (below ws) y))
    (drop-map option_copied w slots ∙ ap contents (sym (take_rest slots w)))

-- ---- sizes

node_small : (l h : Option (List ℕ)) → IsSmall (node l h) → IsSmall l × IsSmall h
node_small None None s = (tt, tt)
node_small (Some l) None s = (omega (arith, s, length-append (short_uint 1) l), tt)
node_small None (Some h) s = (tt, omega (arith, s, length-append (short_uint 6) h))
node_small (Some l) (Some h) s =
    let sizes = length-append (short_uint (fork_number (length l))) (l ++ h) in
    (omega (arith, s, sizes, length-append l h), omega (arith, s, sizes, length-append l h))

pub small_low : (ws : List ℕ) (slots : Lent) → 1 ≤ length ws → IsSmall (tree ws (contents slots))
    → IsSmall (tree (below ws) (contents (take (get_or ws 0 0) slots)))
small_low ws slots h s = (node_small _ (tree (below ws) (contents (upper (get_or ws 0 0) slots))) (subst IsSmall (halves ws slots h) s)).0

pub small_high : (ws : List ℕ) (slots : Lent) → 1 ≤ length ws → IsSmall (tree ws (contents slots))
    → IsSmall (tree (below ws) (contents (upper (get_or ws 0 0) slots)))
small_high ws slots h s = (node_small (tree (below ws) (contents (take (get_or ws 0 0) slots))) _ (subst IsSmall (halves ws slots h) s)).1

pub node_len_is : (l h : Option (List ℕ)) → option_map length (node l h) ≡ node_len (option_map length l) (option_map length h)
unfolding fork_len
node_len_is None None = refl
node_len_is (Some l) None = ap (λ (n : ℕ). Some n) (length-append (short_uint 1) l ∙ ap (λ (n : ℕ). n + length l) (short_len 1))
node_len_is None (Some h) = ap (λ (n : ℕ). Some n) (length-append (short_uint 6) h ∙ ap (λ (n : ℕ). n + length h) (short_len 6))
node_len_is (Some l) (Some h) =
    ap (λ (n : ℕ). Some n)
    (length-append (short_uint (fork_number (length l))) (l ++ h)
    ∙ ap (λ (n : ℕ). length (short_uint (fork_number (length l))) + n) (length-append l h))

short_from_small : (t : Option (List ℕ)) → IsSmall t → IsShort (option_map length t)
short_from_small None s = tt
short_from_small (Some t) s = s

-- the length of a tree, by those of its halves
pub len_is : (ws : List ℕ) (slots : Lent) (low high : Option ℕ) → 1 ≤ length ws
    → low ≡ option_map length (tree (below ws) (contents (take (get_or ws 0 0) slots)))
    → high ≡ option_map length (tree (below ws) (contents (upper (get_or ws 0 0) slots)))
    → node_len low high ≡ option_map length (tree ws (contents slots))
len_is ws slots low high h p q =
    rw (p, q)
    (sym (node_len_is (tree (below ws) (contents (take (get_or ws 0 0) slots))) (tree (below ws) (contents (upper (get_or ws 0 0) slots)))))
    ∙ ap (option_map length) (sym (halves ws slots h))

pub len_small : (ws : List ℕ) (slots : Lent) (low high : Option ℕ) → 1 ≤ length ws
    → low ≡ option_map length (tree (below ws) (contents (take (get_or ws 0 0) slots)))
    → high ≡ option_map length (tree (below ws) (contents (upper (get_or ws 0 0) slots)))
    → IsSmall (tree ws (contents slots)) → IsShort (node_len low high)
len_small ws slots low high h p q s = subst IsShort (sym (len_is ws slots low high h p q)) (short_from_small (tree ws (contents slots)) s)

-- ---- the lengths beside the slots

abbrev Lens : Type 0
Lens = List (Option ℕ)

abbrev pub lens_of : Lent → Lens
lens_of slots = map (option_map length) (contents slots)

pub lens_low : (w : ℕ) (lens : Lens) (slots : Lent) → lens ≡ lens_of slots → take w lens ≡ lens_of (take w slots)
lens_low w lens slots is =
    ap (λ (t : Lens). take w t) is ∙ take-map (option_map length) w (contents slots)
    ∙ ap (map (option_map length)) (take-map option_copied w slots)

pub lens_high : (w : ℕ) (lens : Lens) (slots : Lent) → lens ≡ lens_of slots
    → take (length lens - w) (drop w lens) ≡ lens_of (upper w slots)
lens_high w lens slots is =
    take_rest lens w ∙ ap (λ (t : Lens). drop w t) is ∙ drop-map (option_map length) w (contents slots)
    ∙ ap (map (option_map length)) (drop-map option_copied w slots) ∙ ap lens_of (sym (take_rest slots w))

pub many_low : (w : ℕ) (lens : Lens) (slots : Lent) → length lens ≡ length slots → length (take w lens) ≡ length (take w slots)
many_low w lens slots same = omega (arith, same, length-take w lens, length-take w slots)

pub many_high : (w : ℕ) (lens : Lens) (slots : Lent) → length lens ≡ length slots
    → length (take (length lens - w) (drop w lens)) ≡ length (upper w slots)
many_high w lens slots same =
    let lengths : length (take (length lens - w) (drop w lens)) ≡ length (drop w lens) = ap (λ (t : Lens). length t) (take_rest lens w) in
    let others : length (upper w slots) ≡ length (drop w slots) = ap (λ (t : Lent). length t) (take_rest slots w) in
    omega (arith, same, lengths, others, length-drop w lens, length-drop w slots)

pub length_put : (xs : Lens) (slots : Lent) (i : ℕ) (len : Option ℕ) → i < length xs
    → len ≡ option_map length (option_copied (get_or slots i None))
    → ((k : ℕ) → k < i → get_or xs k None ≡ option_map length (option_copied (get_or slots k None)))
    → (k : ℕ) → k < i + 1 → get_or (set xs i len) k None ≡ option_map length (option_copied (get_or slots k None))
length_put xs slots i len lt is before k k_lt =
    elim (cases_eq k i) [
      | inl at ↦
          ap (λ (n : ℕ). get_or (set xs i len) n None) at ∙ get_or-set_same xs i len None lt ∙ is
          ∙ ap (λ (n : ℕ). option_map length (option_copied (get_or slots n None))) (sym at)
      | inr other ↦ get_or-set_other xs i k len None other ∙ before k (omega (arith, other))
    ]

pub all_lengths : (xs : Lens) (slots : Lent) (n : ℕ) → length xs ≡ n → length slots ≡ n
    → ((k : ℕ) → k < n → get_or xs k None ≡ option_map length (option_copied (get_or slots k None))) → xs ≡ lens_of slots
all_lengths xs slots n wide many each =
    let count : length (contents slots) ≡ n = length-map slots option_copied ∙ many in
    ext_get_or None xs (lens_of slots) (wide ∙ sym (length-map (contents slots) (option_map length) ∙ count))
    (λ k lt.
    let k_lt : k < n = omega (arith, wide) in
    each k k_lt
    ∙ sym (get_or-map (option_map length) (contents slots) k None None (omega (arith, count))
    ∙ ap (option_map length) (get_or-map option_copied slots k None None (omega (arith, many)))))

-- ---- a single slot

pub leaf : (ws : List ℕ) (slots : Lent) → length ws < 1 → AreSlots ws (length slots)
    → tree ws (contents slots) ≡ option_copied (get_or slots 0 None)
unfolding tree
leaf [] [] h wide = absurd (omega (arith, wide))
leaf [] (s ∷ slots) h wide = refl
leaf (w ∷ ws) slots h wide = absurd (omega arith)

-- ---- what is put

pub node_put : (l h : Option (List ℕ))
    → unwrap_or (node l h) [] ≡ head_of_node (option_map length l) (option_map length h) ++ (unwrap_or l [] ++ unwrap_or h [])
node_put None None = refl
node_put (Some l) None = ap (λ (t : List ℕ). short_uint 1 ++ t) (sym (append-nil l))
node_put None (Some h) = refl
node_put (Some l) (Some h) = refl

pub tree_put : (ws : List ℕ) (slots : Lent) (low high : Option ℕ) (old head first new : List ℕ) → 1 ≤ length ws
    → low ≡ option_map length (tree (below ws) (contents (take (get_or ws 0 0) slots)))
    → high ≡ option_map length (tree (below ws) (contents (upper (get_or ws 0 0) slots)))
    → head ≡ old ++ head_of_node low high → first ≡ head ++ unwrap_or (tree (below ws) (contents (take (get_or ws 0 0) slots))) []
    → new ≡ first ++ unwrap_or (tree (below ws) (contents (upper (get_or ws 0 0) slots))) []
    → new ≡ old ++ unwrap_or (tree ws (contents slots)) []
tree_put ws slots low high old head first new h p q head-is first-is new-is =
    let l = tree (below ws) (contents (take (get_or ws 0 0) slots)) in
    let r = tree (below ws) (contents (upper (get_or ws 0 0) slots)) in
    let whole : unwrap_or (tree ws (contents slots)) [] ≡ head_of_node low high ++ (unwrap_or l [] ++ unwrap_or r []) =
    ap (λ (t : Option (List ℕ)). unwrap_or t []) (halves ws slots h) ∙ node_put l r ∙ rw (p, q) refl in
    rw (whole, new-is, first-is, head-is) (simp append_assoc)

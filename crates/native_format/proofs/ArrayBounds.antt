-- No written array is longer than 5 bytes, 5 for each block, and 20 for each element beside its content.
use Rattle.std.proofs.Common.{◌≡◌, ℕ, zero, suc, ◌+◌, ◌*◌, ◌≤◌, cond, leb, List, [], ◌∷◌, ◌++◌, length, map, get_or, take, drop, Option}
use Rattle.std.proofs.Common.{Some, None, refl, sym, ap, ◌∙◌, subst, arith, inl, inr}
use Rattle.std.specs.Prelude.{sum_by, unwrap_or}
use Rattle.std.specs.List.{range_with_len}
use Rattle.std.proofs.lemmas.Bool.{cases_eq, cases_lt, eq-eqb, le-leb, lt-leb, ne_eqb}
use Rattle.std.proofs.lemmas.List.{length-append}
use Rattle.std.proofs.lemmas.List.FromFn.{length-map-range_with_len}
use Rattle.std.proofs.lemmas.List.Sums.{sum_by-cons, sum_by-take-drop}
use Rattle.byteorder.specs.Endian.{little_bytes}
use Rattle.byteorder.specs.Numbers.{length-bytes_low_first}
use Rattle.native_format.specs.declared.sparse.Element.{Element}
use Rattle.native_format.specs.Sparse.{blocks_of, weights}
use Rattle.native_format.specs.SparseBytes.{block, block_bytes, blocks, content_by_index, fork_number, index_bytes, joined, node}
use Rattle.native_format.specs.SparseBytes.{slots_from, sparse_bytes, tree}
use Rattle.native_format.specs.Uint.{short_uint}
use Rattle.native_format.proofs.UintLaws.{short_len, size_five}

abbrev Slots : Type 0
Slots = List (Option (List ℕ))

pub short_five : (v : ℕ) → length (short_uint v) ≤ 5
short_five v = omega (arith, short_len v, size_five v)

-- ---- a tree

-- what the content of a slot takes, with so many bytes of nodes above it
abbrev pub cost : ℕ → Option (List ℕ) → ℕ
cost above None = 0
cost above (Some content) = above + length content

abbrev one : Option (List ℕ) → ℕ
one None = 0
one (Some content) = 1

one_more : (above : ℕ) (slot : Option (List ℕ)) → cost (5 + above) slot ≡ 5 * one slot + cost above slot
one_more above None = refl
one_more above (Some content) = omega arith

cost_more : (above : ℕ) (slots : Slots) → sum_by (cost (5 + above)) slots ≡ 5 * sum_by one slots + sum_by (cost above) slots
cost_more above [] = refl
cost_more above (s ∷ slots) =
    omega (
      arith,
      sum_by-cons (cost (5 + above)) s slots,
      sum_by-cons one s slots,
      sum_by-cons (cost above) s slots,
      one_more above s,
      cost_more above slots,
    )

-- a tree is over one slot at least, and takes no more than its slots cost
abbrev Fits : ℕ → Slots → Option (List ℕ) → Type 0
Fits above slots None = Unit {0}
Fits above slots (Some t) = (1 ≤ sum_by one slots) × (length t ≤ sum_by (cost above) slots)

node_fits : (above w : ℕ) (slots : Slots) (l h : Option (List ℕ)) → Fits above (take w slots) l → Fits above (drop w slots) h
    → Fits (5 + above) slots (node l h)
node_fits above w slots None None p q = tt
node_fits above w slots (Some l) None p q =
    let ones = sum_by-take-drop one slots w in
    let costs = sum_by-take-drop (cost above) slots w in
    let more = cost_more above slots in
    (omega (arith, ones, p.0), omega (arith, ones, costs, more, p.0, p.1, length-append (short_uint 1) l, short_five 1))
node_fits above w slots None (Some h) p q =
    let ones = sum_by-take-drop one slots w in
    let costs = sum_by-take-drop (cost above) slots w in
    let more = cost_more above slots in
    (omega (arith, ones, q.0), omega (arith, ones, costs, more, q.0, q.1, length-append (short_uint 6) h, short_five 6))
node_fits above w slots (Some l) (Some h) p q =
    let ones = sum_by-take-drop one slots w in
    let costs = sum_by-take-drop (cost above) slots w in
    let more = cost_more above slots in
    let number = fork_number (length l) in (
      omega (arith, ones, p.0),
      omega
          (arith, ones, costs, more, p.0, p.1, q.0, q.1, length-append (short_uint number) (l ++ h), length-append l h, short_five number),
    )

first_fits : (slots : Slots) → Fits 0 slots (get_or slots 0 None)
first_fits [] = tt
first_fits (None ∷ slots) = tt
first_fits (Some t ∷ slots) = (omega (arith, sum_by-cons one (Some t) slots), omega (arith, sum_by-cons (cost 0) (Some t) slots))

tree_fits : (ws : List ℕ) (slots : Slots) → Fits (5 * length ws) slots (tree ws slots)
unfolding tree
tree_fits [] slots = first_fits slots
tree_fits (w ∷ ws) slots =
    let above : 5 + 5 * length ws ≡ 5 * suc (length ws) = omega arith in
    subst (λ (n : ℕ). Fits n slots (node (tree ws (take w slots)) (tree ws (drop w slots)))) above
    (node_fits (5 * length ws) w slots (tree ws (take w slots)) (tree ws (drop w slots)) (tree_fits ws (take w slots))
    (tree_fits ws (drop w slots)))

block_bounded : (slots : Slots) → length (block_bytes slots) ≤ 1 + sum_by (cost 20) slots
block_bounded slots = go (tree weights slots) (tree_fits weights slots) where
  go : (t : Option (List ℕ)) → Fits 20 slots t → length (unwrap_or t (short_uint 64)) ≤ 1 + sum_by (cost 20) slots
  go None h = omega (arith, short_len 64)
  go (Some t) h = omega (arith, h.1)

-- ---- a number for each index, and their sum over indexes in a row

total : (ℕ → ℕ) → ℕ → ℕ → ℕ
total f at zero = 0
total f at (suc n) = f at + total f (at + 1) n

total-append : (f : ℕ → ℕ) (at m n : ℕ) → total f at (m + n) ≡ total f at m + total f (at + m) n
unfolding total
total-append f at zero n =
    let none : 0 + n ≡ n = omega arith in
    let here : at + 0 ≡ at = omega arith in
    rw (none, here) (omega arith)
total-append f at (suc m) n =
    let more : suc m + n ≡ suc (m + n) = omega arith in
    let here : at + 1 + m ≡ at + suc m = omega arith in
    rw (more, total-append f (at + 1) m n, here) (omega arith)

abbrev cost_at : List Element → ℕ → ℕ
cost_at es index = cost 20 (content_by_index es index)

slots_total : (es : List Element) (first n : ℕ) → sum_by (cost 20) (slots_from es first n) ≡ total (cost_at es) first n
unfolding slots_from total
slots_total es first zero = refl
slots_total es first (suc n) =
    sum_by-cons (cost 20) (content_by_index es first) (map (content_by_index es) (range_with_len (first + 1) n))
    ∙ ap (λ (m : ℕ). cost_at es first + m) (slots_total es (first + 1) n)

-- what an element costs at the indexes from one on
abbrev share : ℕ → Element → ℕ
share at e = cond (leb at e.index) (20 + length e.content) 0

share_later : (at : ℕ) (e : Element) → share (at + 1) e ≤ share at e
share_later at e =
    elim (cases_lt at e.index) [
      | inl lt ↦ rw (le-leb at e.index (omega arith), le-leb (at + 1) e.index (omega arith)) (omega arith)
      | inr le ↦ rw (lt-leb (at + 1) e.index (omega arith)) (omega arith)
    ]

share_whole : (at : ℕ) (e : Element) → share at e ≤ 20 + length e.content
share_whole at e =
    elim (cases_lt e.index at) [
      | inl lt ↦ rw (lt-leb at e.index lt) (omega arith)
      | inr le ↦ rw (le-leb at e.index le) (omega arith)
    ]

one_at : (e : Element) (es : List Element) (at : ℕ) → e.index ≡ at → cost_at (e ∷ es) at ≡ 20 + length e.content
unfolding content_by_index
one_at e es at same = rw (eq-eqb _ _ same) refl

other_at : (e : Element) (es : List Element) (at : ℕ) → (e.index ≡ at → ⊥) → cost_at (e ∷ es) at ≡ cost_at es at
unfolding content_by_index
other_at e es at apart = rw (ne_eqb _ _ apart) refl

first_total : (e : Element) (es : List Element) (at n : ℕ) → total (cost_at (e ∷ es)) at n ≤ share at e + total (cost_at es) at n
unfolding total
first_total e es at zero = omega arith
first_total e es at (suc n) =
    let later = first_total e es (at + 1) n in
    elim (cases_eq e.index at) [
      | inl same ↦
          let here : share at e ≡ 20 + length e.content = rw (le-leb at e.index (omega arith)) refl in
          let gone : share (at + 1) e ≡ 0 = rw (lt-leb (at + 1) e.index (omega arith)) refl in
          omega (arith, later, here, gone, one_at e es at same)
      | inr other ↦ omega (arith, later, share_later at e, other_at e es at other)
    ]

none_total : (at n : ℕ) → total (cost_at []) at n ≡ 0
unfolding content_by_index total
none_total at zero = refl
none_total at (suc n) = omega (arith, none_total (at + 1) n)

elements_total : (es : List Element) (at n : ℕ) → total (cost_at es) at n ≤ sum_by (λ e. 20 + length e.content) es
elements_total [] at n = omega (arith, none_total at n)
elements_total (e ∷ es) at n =
    omega
    (arith, sum_by-cons (λ (x : Element). 20 + length x.content) e es, first_total e es at n, share_whole at e, elements_total es at n)

-- ---- the blocks

blocks_total : (es : List Element) (k n : ℕ)
    → length (joined (map (block es) (range_with_len k n))) ≤ n + total (cost_at es) (16 * k) (16 * n)
blocks_total es k zero = omega arith
blocks_total es k (suc n) =
    let later = blocks_total es (k + 1) n in
    let next : 16 * (k + 1) ≡ 16 * k + 16 = omega arith in
    let sizes : 16 * suc n ≡ 16 + 16 * n = omega arith in
    let split : total (cost_at es) (16 * k) (16 * suc n) ≡ total (cost_at es) (16 * k) 16 + total (cost_at es) (16 * (k + 1)) (16 * n) =
    ap (total (cost_at es) (16 * k)) sizes ∙ total-append (cost_at es) (16 * k) 16 (16 * n)
    ∙ ap (λ (m : ℕ). total (cost_at es) (16 * k) 16 + total (cost_at es) m (16 * n)) (sym next) in
    omega (
      arith,
      later,
      split,
      length-append (block es k) (joined (map (block es) (range_with_len (k + 1) n))),
      block_bounded (slots_from es (16 * k) 16),
      slots_total es (16 * k) 16,
    )

length-index : (at : ℕ) (bs : List (List ℕ)) → length (index_bytes at bs) ≡ 4 * length bs
unfolding index_bytes
length-index at [] = refl
length-index at (b ∷ bs) = omega (
  arith,
  length-append (little_bytes 4 at) (index_bytes (at + length b) bs),
  length-bytes_low_first 0 4 at,
  length-index (at + length b) bs,
)

pub array_bounded : (count : ℕ) (es : List Element)
    → length (sparse_bytes count es) ≤ 5 + 5 * blocks_of count + sum_by (λ e. 20 + length e.content) es
unfolding sparse_bytes
array_bounded count es =
    let n = blocks_of count in
    let bs = blocks es n in
    let index = index_bytes (4 * n) bs in
    omega (
      arith,
      length-append (short_uint (4 * count + 2)) (index ++ joined bs),
      short_five (4 * count + 2),
      length-append index (joined bs),
      length-index (4 * n) bs,
      length-map-range_with_len (block es) 0 n,
      blocks_total es 0 n,
      elements_total es 0 (16 * n),
    )

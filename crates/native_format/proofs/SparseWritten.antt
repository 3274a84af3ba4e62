-- What the writer of sparse arrays lays out holds exactly the elements.
use Rattle.std.proofs.Common.{◌≡◌, ℕ, zero, suc, ◌+◌, ◌*◌, ◌/◌, ◌%◌, ◌^◌, ◌<◌, ◌≤◌, true, cond, eqb, leb, List, [], ◌∷◌, ◌++◌, length, map}
use Rattle.std.proofs.Common.{get_or, set, take, drop, Option, Some, None, Ok, refl, sym, ap, subst, ◌∙◌, append_assoc, arith, inl, inr}
use denote.Ref.{Bor}
use Rattle.std.specs.Prelude.{unwrap_or}
use Rattle.std.specs.Option.{option_copied, option_map}
use Rattle.std.specs.List.{range_with_len, slice_get}
use Rattle.std.proofs.lemmas.Bool.{le-leb, lt-ltb, le-ltb, eq-eqb, ne_eqb, cases_lt, cases_eq}
use Rattle.std.proofs.lemmas.List.{append-nil, length-append, drop_at, drop_more, take-append-drop, length-map, get_or-map, ext_get_or}
use Rattle.std.proofs.lemmas.List.{get_or-set_same, get_or-set_other}
use Rattle.std.proofs.lemmas.List.FromFn.{get_or-map-range_with_len, length-map-range_with_len, map-range_with_len_more}
use Rattle.std.proofs.lemmas.List.FromFn.{take-map-range_with_len}
use Rattle.std.proofs.lemmas.Option.{none-some, same_Some}
use Rattle.std.proofs.lemmas.Grind.{flat_map-append}
use Rattle.byteorder.specs.Endian.{little_bytes}
use Rattle.byteorder.specs.Numbers.{little_number-reads_back, length-bytes_low_first}
use Rattle.rtr_bytes.specs.Field.{field_at}
use Rattle.native_format.specs.declared.sparse.Element.{Element}
use Rattle.native_format.specs.Uint.{short_uint, uint_at}
use Rattle.native_format.specs.Sparse.{Array, Answer, array_at, blocks_of, element_of, path, weights}
use Rattle.native_format.specs.SparseBytes.{AreElements, fork_number, content_by_index, Finds, HoldsElements, StandsAt, slots_from}
use Rattle.native_format.specs.SparseBytes.{block_bytes, block, blocks, joined, index_bytes, sparse_bytes, tree}
use Rattle.native_format.specs.SparseLengths.{HoldsPlaced, block_at, blocks_len, content_place, lengths_of, place_in, sparse_len}
use Rattle.native_format.specs.SparseSteps.{contents, SameFrom, IsSmall}
use Rattle.native_format.proofs.SparseLengthLaws.{blocks_len_is, length-index, slots_of, sparse_len_is}
use Rattle.native_format.proofs.TreeLaws.{FindsAt, uint_written, block_path, carried, lens, moved}

abbrev Elements : Type 0
Elements = List Element

-- ---- elements by their index

pub none_left : (es : Elements) (i : ℕ) → slice_get es 0 ≡ None → content_by_index es i ≡ None
unfolding content_by_index
none_left [] i e = refl
none_left (e ∷ es) i h = absurd (none-some e (sym h))

pub first_found : (es : Elements) (e : Element) (i : ℕ) → slice_get es 0 ≡ Some e → e.index ≡ i → content_by_index es i ≡ Some e.content
unfolding content_by_index
first_found [] e i h at = absurd (none-some e h)
first_found (x ∷ es) e i h at =
    let x-is : x ≡ e = same_Some x e h in
    subst (λ (y : Element). cond (eqb y.index i) (Some y.content) (content_by_index es i) ≡ Some e.content) (sym x-is)
    (rw (eq-eqb _ _ at) refl)

pub absent_below : (es : Elements) (least count i : ℕ) → AreElements least count es → i < least → content_by_index es i ≡ None
unfolding content_by_index
absent_below [] least count i h lt = refl
absent_below (e ∷ es) least count i h lt =
    let apart : e.index ≡ i → ⊥ = λ same. omega (arith, h.0) in
    rw (ne_eqb _ _ apart) (absent_below es (e.index + 1) count i h.2 (omega (arith, h.0)))

pub absent_above : (es : Elements) (least count i : ℕ) → AreElements least count es → count ≤ i → content_by_index es i ≡ None
unfolding content_by_index
absent_above [] least count i h le = refl
absent_above (e ∷ es) least count i h le =
    let apart : e.index ≡ i → ⊥ = λ same. omega (arith, h.1) in
    rw (ne_eqb _ _ apart) (absent_above es (e.index + 1) count i h.2 le)

pub first_other : (es : Elements) (e : Element) (i count : ℕ) → slice_get es 0 ≡ Some e → AreElements i count es → (e.index ≡ i → ⊥)
    → content_by_index es i ≡ None
unfolding content_by_index
first_other [] e i count h are other = refl
first_other (x ∷ es) e i count h are other =
    let x-is : x ≡ e = same_Some x e h in
    let apart : x.index ≡ i → ⊥ = λ same. other (ap (λ (y : Element). y.index) (sym x-is) ∙ same) in
    rw (ne_eqb _ _ apart) (absent_below es (x.index + 1) count i are.2 (omega (arith, are.0)))

-- ---- the index

four_at : (front behind : List ℕ) (n : ℕ) → n < 2 ^ 32 → field_at 4 (front ++ (little_bytes 4 n ++ behind)) (length front) ≡ Some n
four_at front behind n h =
    let len : length (little_bytes 4 n) ≡ 4 = length-bytes_low_first 0 4 n in
    let long : leb (length front + 4) (length (front ++ (little_bytes 4 n ++ behind))) ≡ true =
    le-leb _ _ (omega (arith, length-append front (little_bytes 4 n ++ behind), length-append (little_bytes 4 n) behind, len)) in
    rw (long, drop_at front (little_bytes 4 n ++ behind) (length front) refl, little_number-reads_back 4 n behind h) refl

pub entry_is : (at : ℕ) (bs : List (List ℕ)) (k : ℕ) (front behind : List ℕ) → k < length bs → at + length (joined (take k bs)) < 2 ^ 32
    → field_at 4 (front ++ (index_bytes at bs ++ behind)) (length front + 4 * k) ≡ Some (at + length (joined (take k bs)))
unfolding index_bytes
entry_is at [] k front behind lt h = absurd (omega arith)
entry_is at (b ∷ bs) zero front behind lt h =
    let place : length front + 4 * 0 ≡ length front = omega arith in
    let value : at + 0 ≡ at = omega arith in
    ap (λ (t : List ℕ). field_at 4 (front ++ t) (length front + 4 * 0))
    (append_assoc (little_bytes 4 at) (index_bytes (at + length b) bs) behind)
    ∙ ap (field_at 4 (front ++ (little_bytes 4 at ++ (index_bytes (at + length b) bs ++ behind)))) place
    ∙ four_at front (index_bytes (at + length b) bs ++ behind) at (omega arith) ∙ ap (λ (n : ℕ). Some n) (sym value)
entry_is at (b ∷ bs) (suc k) front behind lt h =
    let before = front ++ little_bytes 4 at in
    let sum : length (b ++ joined (take k bs)) ≡ length b + length (joined (take k bs)) = length-append b (joined (take k bs)) in
    let value : at + length b + length (joined (take k bs)) ≡ at + length (b ++ joined (take k bs)) = omega (arith, sum) in
    let place : length before + 4 * k ≡ length front + 4 * suc k =
    omega (arith, length-append front (little_bytes 4 at), length-bytes_low_first 0 4 at) in
    let regrouped : before ++ (index_bytes (at + length b)
    bs ++ behind) ≡ front ++ ((little_bytes 4 at ++ index_bytes (at + length b) bs) ++ behind) = append_assoc front (little_bytes 4
    at) (index_bytes (at + length b) bs ++ behind) ∙ ap (λ (t : List ℕ). front ++ t) (sym
    (append_assoc (little_bytes 4 at) (index_bytes (at + length b) bs) behind)) in
    let rest = entry_is (at + length b) bs k before behind (omega arith) (omega (arith, value, h)) in
    sym
    (ap (λ (n : ℕ). field_at 4 (before ++ (index_bytes (at + length b) bs ++ behind)) n) place
    ∙ ap (λ (t : List ℕ). field_at 4 t (length front + 4 * suc k)) regrouped) ∙ rest ∙ ap (λ (n : ℕ). Some n) value

-- ---- blocks in their order

pub block_between : (bs : List (List ℕ)) (k : ℕ) → k < length bs
    → joined bs ≡ joined (take k bs) ++ (get_or bs k [] ++ joined (drop (k + 1) bs))
block_between bs k lt =
    ap joined (sym (take-append-drop k bs)) ∙ flat_map-append (λ b. b) (take k bs) (drop k bs)
    ∙ ap (λ (l : List (List ℕ)). joined (take k bs) ++ joined l) (drop_more bs k [] lt)

pub length-joined_take : (bs : List (List ℕ)) (k : ℕ) → length (joined (take k bs)) ≤ length (joined bs)
length-joined_take bs k =
    omega (
      arith,
      ap length (ap joined (sym (take-append-drop k bs)) ∙ flat_map-append (λ b. b) (take k bs) (drop k bs)),
      length-append (joined (take k bs)) (joined (drop k bs)),
    )

length-blocks : (es : Elements) (n : ℕ) → length (blocks es n) ≡ n
length-blocks es n = length-map-range_with_len (block es) 0 n

block_is : (es : Elements) (n k : ℕ) → k < n → get_or (blocks es n) k [] ≡ block es k
block_is es n k lt = get_or-map-range_with_len (block es) 0 n k k [] lt (omega arith)

slot_of : (es : Elements) (i : ℕ) → get_or (slots_from es (16 * (i / 16)) 16) (i % 16) None ≡ content_by_index es i
unfolding slots_from
slot_of es i = get_or-map-range_with_len (content_by_index es) (16 * (i / 16)) 16 (i % 16) i None (omega arith) (omega arith)

-- ---- the whole

abbrev array_in : List ℕ → ℕ → ℕ → Array
array_in bytes header count = record { bytes = bytes; index_at = header; count = count; entry_size = 4 }

regrouped : (h i j b d r body : List ℕ) → body ≡ j ++ (b ++ d) → (h ++ (i ++ j)) ++ (b ++ (d ++ r)) ≡ h ++ ((i ++ body) ++ r)
regrouped h i j b d r body is = rw is (simp append_assoc)

-- an element below the count, in bytes that are the header, the index, the blocks and what follows
element_in : (header rest : List ℕ) (count : ℕ) (es : Elements) (i : ℕ) → i < count →
    length (index_bytes (4 * blocks_of count) (blocks es (blocks_of count)) ++ joined (blocks es (blocks_of count))) < 2 ^ 24 →
    FindsAt (header ++ ((index_bytes (4 * blocks_of count) (blocks es (blocks_of count)) ++ joined (blocks es (blocks_of count))) ++ rest))
    0
    (element_of (array_in (header
    ++ ((index_bytes (4 * blocks_of count) (blocks es (blocks_of count)) ++ joined (blocks es (blocks_of count)))
    ++ rest)) (length header) count) i)
    (option_map (λ p. length header + 4 * blocks_of count + blocks_len (lengths_of es) (i / 16) + p)
    (place_in weights (i % 16) (block_at (lengths_of es) (i / 16)))) (content_by_index es i)
unfolding element_of
element_in header rest count es i lt small =
    let n = blocks_of count in
    let k = i / 16 in
    let bs = blocks es n in
    let index = index_bytes (4 * n) bs in
    let body = joined bs in
    let bytes = header ++ ((index ++ body) ++ rest) in
    let a = array_in bytes (length header) count in
    let k_lt : k < n = omega arith in
    let k_in : k < length bs = omega (arith, length-blocks es n) in
    let index_len : length index ≡ 4 * n = length-index (4 * n) bs ∙ ap (λ (m : ℕ). 4 * m) (length-blocks es n) in
    let sizes = length-append index body in
    let distance = 4 * n + length (joined (take k bs)) in
    let near : length (joined (take k bs)) ≤ length body = length-joined_take bs k in
    let bytes_are : header ++ (index ++ (body ++ rest)) ≡ bytes = ap (λ (t : List ℕ). header ++ t) (sym (append_assoc index body rest)) in
    let entry : field_at 4 bytes (length header + 4 * k) ≡ Some distance =
    ap (λ (t : List ℕ). field_at 4 t (length header + 4 * k)) (sym bytes_are)
    ∙ entry_is (4 * n) bs k header (body ++ rest) k_in (omega (arith, near, sizes, index_len, small)) in
    let total : length bytes ≡ length header + (length (index ++ body) + length rest) =
    length-append header ((index ++ body) ++ rest) ∙ ap (λ (m : ℕ). length header + m) (length-append (index ++ body) rest) in
    let inside : leb (length header + distance) (length bytes) ≡ true = le-leb _ _ (omega (arith, total, sizes, near, index_len)) in
    let front = header ++ (index ++ joined (take k bs)) in
    let behind = joined (drop (k + 1) bs) ++ rest in
    let front_len : length front ≡ length header + distance =
    length-append header (index ++ joined (take k bs))
    ∙ ap (λ (m : ℕ). length header + m)
    (length-append index (joined (take k bs)) ∙ ap (λ (m : ℕ). m + length (joined (take k bs))) index_len) in
    let body_is : body ≡ joined (take k bs) ++ (block es k ++ joined (drop (k + 1) bs)) =
    block_between bs k k_in ∙ ap (λ (b : List ℕ). joined (take k bs) ++ (b ++ joined (drop (k + 1) bs))) (block_is es n k k_lt) in
    let split : front ++ (block es k ++ behind) ≡ bytes =
    regrouped header index (joined (take k bs)) (block es k) (joined (drop (k + 1) bs)) rest body body_is in
    let block_small : length (block es k) < 2 ^ 24 =
    omega (
      arith,
      ap length body_is,
      length-append (joined (take k bs)) (block es k ++ joined (drop (k + 1) bs)),
      length-append (block es k) (joined (drop (k + 1) bs)),
      sizes,
      small,
    ) in
    let found = block_path (i % 16) (slots_from es (16 * k) 16) front behind (omega arith) block_small in
    let base : length header + distance ≡ 0 + (length header + 4 * n + blocks_len (lengths_of es) k) =
    omega
    (arith, ap (λ (t : List (List ℕ)). length (joined t)) (take-map-range_with_len (block es) 0 n k (omega arith)), blocks_len_is es k) in
    let found_there : FindsAt bytes (0 + (length header + 4 * n + blocks_len (lengths_of es) k))
    (path bytes (i % 16) weights (0 + (length header + 4 * n + blocks_len (lengths_of es) k)))
    (place_in weights (i % 16) (block_at (lengths_of es) k)) (content_by_index es i) =
    subst
    (λ (x : List (Option ℕ)). FindsAt bytes (0 + (length header + 4 * n + blocks_len (lengths_of es) k))
    (path bytes (i % 16) weights (0 + (length header + 4 * n + blocks_len (lengths_of es) k))) (place_in weights (i % 16) x)
    (content_by_index es i)) (slots_of es k)
    (subst (FindsAt bytes (0 + (length header + 4 * n + blocks_len (lengths_of es) k))
    (path bytes (i % 16) weights (0 + (length header + 4 * n + blocks_len (lengths_of es) k)))
    (place_in weights (i % 16) (lens (slots_from es (16 * k) 16)))) (slot_of es i)
    (carried (front ++ (block es k ++ behind)) bytes (i % 16) weights (length front)
    (0 + (length header + 4 * n + blocks_len (lengths_of es) k)) (place_in weights (i % 16) (lens (slots_from es (16 * k) 16)))
    (get_or (slots_from es (16 * k) 16) (i % 16) None) split (front_len ∙ base) found)) in
    let answer : element_of a i ≡ path bytes (i % 16) weights (0 + (length header + 4 * n + blocks_len (lengths_of es) k)) =
    rw (lt-ltb i count lt, entry, inside) (ap (path bytes (i % 16) weights) base) in
    moved bytes 0 (length header + 4 * n + blocks_len (lengths_of es) k)
    (path bytes (i % 16) weights (0 + (length header + 4 * n + blocks_len (lengths_of es) k))) (element_of a i)
    (place_in weights (i % 16) (block_at (lengths_of es) k)) (content_by_index es i) answer found_there

element_past : (bytes : List ℕ) (header count : ℕ) (i : ℕ) → count ≤ i → element_of (array_in bytes header count) i ≡ Ok None
unfolding element_of
element_past bytes header count i le = rw (le-ltb i count le) refl

-- the header says the count, and entries of four bytes
header_is : (bytes behind : List ℕ) (count : ℕ) → 4 * count + 2 < 2 ^ 32 → bytes ≡ short_uint (4 * count + 2) ++ behind
    → length (short_uint (4 * count + 2)) + 4 * blocks_of count ≤ length bytes
    → array_at bytes 0 ≡ Some (array_in bytes (length (short_uint (4 * count + 2))) count)
unfolding array_at
header_is bytes behind count small is long =
    let v = 4 * count + 2 in
    let size = length (short_uint v) in
    let place : 0 + size ≡ size = omega arith in
    let read : uint_at bytes 0 ≡ Some (v, size) =
    ap (λ (t : List ℕ). uint_at t 0) is ∙ uint_written [] behind v small ∙ ap (λ (n : ℕ). Some (v, n)) place in
    let low : v % 4 ≡ 2 = omega arith in
    let high : v / 4 ≡ count = omega arith in
    rw (read, low, high, le-leb _ _ long) refl

-- what is found at each index, and where
record Written (bytes : List ℕ) (count : ℕ) (es : Elements) : Type 0 where
  array : Array
  is_there : array_at bytes 0 ≡ Some array
  count_is : array.count ≡ count
  each : (index : ℕ) → FindsAt bytes 0 (element_of array index) (content_place count (lengths_of es) index) (content_by_index es index)

written : (count : ℕ) (es : Elements) (rest : List ℕ) → AreElements 0 count es → length (sparse_bytes count es) < 2 ^ 24
    → Written (sparse_bytes count es ++ rest) count es
unfolding sparse_bytes content_place
written count es rest are small =
    let n = blocks_of count in
    let bs = blocks es n in
    let header = short_uint (4 * count + 2) in
    let content = index_bytes (4 * n) bs ++ joined bs in
    let bytes = (header ++ content) ++ rest in
    let flat : header ++ (content ++ rest) ≡ bytes = sym (append_assoc header content rest) in
    let sizes : length (header ++ content) ≡ length header + length content = length-append header content in
    let inner : length content ≡ 4 * n + length (joined bs) =
    length-append (index_bytes (4 * n) bs) (joined bs)
    ∙ ap (λ (m : ℕ). m + length (joined bs)) (length-index (4 * n) bs ∙ ap (λ (m : ℕ). 4 * m) (length-blocks es n)) in
    let content_small : length content < 2 ^ 24 = omega (arith, sizes, small) in
    let total : length bytes ≡ length (header ++ content) + length rest = length-append (header ++ content) rest in
    let array = array_in bytes (length header) count in
    let each : (i : ℕ) → FindsAt bytes 0 (element_of array i) (content_place count (lengths_of es) i) (content_by_index es i) =
    λ i. elim (cases_lt i count) [
      | inl lt ↦ rw (lt-ltb i count lt) (subst (λ (xs : List ℕ). FindsAt xs 0 (element_of (array_in xs (length header) count) i)
          (option_map (λ p. length header + 4 * n + blocks_len (lengths_of es) (i / 16) + p)
          (place_in weights (i % 16) (block_at (lengths_of es) (i / 16)))) (content_by_index es
          i)) flat (element_in header rest count es i lt content_small))
      | inr le ↦ rw (le-ltb i count le, absent_above es 0 count i are le) (element_past bytes (length header) count i le)
    ] in
    record {
      array = array;
      is_there = header_is bytes (content ++ rest) count (omega (arith, inner, content_small)) (sym flat)
          (omega (arith, total, sizes, inner));
      count_is = refl;
      each = each;
    }

found_of : (bytes : List ℕ) (answer : Answer) (place : Option ℕ) (slot : Option (List ℕ)) → FindsAt bytes 0 answer place slot
    → Finds bytes answer slot
found_of bytes answer None None h = h
found_of bytes answer None (Some content) h = absurd h
found_of bytes answer (Some place) None h = absurd h
found_of bytes answer (Some place) (Some content) (is, stands) = (0 + place, is, stands)

answer_of : (bytes : List ℕ) (answer : Answer) (place : Option ℕ) (slot : Option (List ℕ)) → FindsAt bytes 0 answer place slot
    → answer ≡ Ok place
answer_of bytes answer None None h = h
answer_of bytes answer None (Some content) h = absurd h
answer_of bytes answer (Some place) None h = absurd h
answer_of bytes answer (Some place) (Some content) (is, stands) =
    let at : 0 + place ≡ place = omega arith in
    subst (λ (n : ℕ). answer ≡ Ok (Some n)) at is

stands_of : (bytes : List ℕ) (answer : Answer) (at : Option ℕ) (slot : Option (List ℕ)) (place : ℕ) → FindsAt bytes 0 answer at slot
    → at ≡ Some place
    → (content : List ℕ) × (slot ≡ Some content) × StandsAt bytes place content
stands_of bytes answer None None place h e = absurd (none-some place e)
stands_of bytes answer None (Some content) place h e = absurd h
stands_of bytes answer (Some at) None place h e = absurd h
stands_of bytes answer (Some at) (Some content) place (is, stands) e =
    let same : 0 + at ≡ place = omega (arith, same_Some at place e) in
    (content, refl, subst (λ (n : ℕ). StandsAt bytes n content) same stands)

pub holds : (count : ℕ) (es : Elements) (rest : List ℕ) → AreElements 0 count es → length (sparse_bytes count es) < 2 ^ 24
    → HoldsElements (sparse_bytes count es ++ rest) count es
holds count es rest are small =
    let w = written count es rest are small in
    record {
      array = w.array;
      is_there = w.is_there;
      count_is = w.count_is;
      each = λ i. found_of (sparse_bytes count es ++ rest) (element_of w.array i) (content_place count (lengths_of es) i)
          (content_by_index es i) (w.each i);
    }

-- and where, by the lengths alone
pub placed : (count : ℕ) (es : Elements) (rest : List ℕ) → AreElements 0 count es → sparse_len count (lengths_of es) < 2 ^ 24
    → HoldsPlaced (sparse_bytes count es ++ rest) count es
placed count es rest are small =
    let w = written count es rest are (omega (arith, sparse_len_is count es)) in
    let bytes = sparse_bytes count es ++ rest in
    record {
      array = w.array;
      is_there = w.is_there;
      found = λ i. answer_of bytes (element_of w.array i) (content_place count (lengths_of es) i) (content_by_index es i) (w.each i);
      stands = λ i place e. stands_of bytes (element_of w.array i) (content_place count (lengths_of es) i) (content_by_index es i) place
          (w.each i) e;
    }

-- ---- the slots of a block, one after the other

pub behind_found : (es : Elements) (i : ℕ) (c : List ℕ) → AreElements i (2 ^ 32) es → Some c ≡ content_by_index es i
    → (1 ≤ length es) × AreElements (i + 1) (2 ^ 32) (drop 1 es) × SameFrom (i + 1) es (drop 1 es)
unfolding content_by_index
behind_found [] i c are e = absurd (none-some c (sym e))
behind_found (x ∷ es) i c are e =
    elim (cases_eq x.index i) [
      | inl same ↦
          let next : x.index + 1 ≡ i + 1 = omega arith in (
            omega arith,
            subst (λ (n : ℕ). AreElements n (2 ^ 32) es) next are.2,
            λ k le. let apart : x.index ≡ k → ⊥ = λ q. omega (arith, q) in sym (rw (ne_eqb _ _ apart) refl),
          )
      | inr other ↦
          let later : i < x.index + 1 = omega (arith, are.0) in
          absurd (none-some c (sym (e ∙ rw (ne_eqb _ _ other) (absent_below es (x.index + 1) (2 ^ 32) i are.2 later))))
    ]

pub behind_none : (es : Elements) (i : ℕ) → AreElements i (2 ^ 32) es → None ≡ content_by_index es i → AreElements (i + 1) (2 ^ 32) es
unfolding content_by_index
behind_none [] i are e = tt
behind_none (x ∷ es) i are e =
    elim (cases_eq x.index i) [
      | inl same ↦ absurd (none-some x.content (e ∙ rw (eq-eqb _ _ same) refl))
      | inr other ↦ (omega (arith, are.0, other), are.1, are.2)
    ]

pub all_slots : (xs : List (Option (Bor (List ℕ)))) (es : Elements) (first n : ℕ) → length xs ≡ n
    → ((k : ℕ) → k < n → option_copied (get_or xs k None) ≡ content_by_index es (first + k)) → contents xs ≡ slots_from es first n
unfolding slots_from
all_slots xs es first n len each =
    ext_get_or None (contents xs) (map (content_by_index es) (range_with_len first n))
    (length-map xs option_copied ∙ len ∙ sym (length-map-range_with_len (content_by_index es) first n))
    (λ k lt. let k_lt : k < n = omega (arith, length-map xs option_copied) in
    get_or-map option_copied xs k None None (omega arith) ∙ each k k_lt
    ∙ sym (get_or-map-range_with_len (content_by_index es) first n k (first + k) None k_lt refl))

pub set_slot : (xs : List (Option (Bor (List ℕ)))) (es rest : Elements) (first i : ℕ) (slot : Option (Bor (List ℕ))) → i < length xs
    → option_copied slot ≡ content_by_index rest (first + i)
    → SameFrom (first + i) es rest → ((k : ℕ) → k < i → option_copied (get_or xs k None) ≡ content_by_index es (first + k))
    → (k : ℕ) → k < i + 1 → option_copied (get_or (set xs i slot) k None) ≡ content_by_index es (first + k)
set_slot xs es rest first i slot lt slot-is same before k k_lt =
    elim (cases_eq k i) [
      | inl at ↦
          ap (λ (n : ℕ). option_copied (get_or (set xs i slot) n None)) at ∙ ap option_copied (get_or-set_same xs i slot None lt) ∙ slot-is
          ∙ same (first + i) (omega arith) ∙ ap (λ (n : ℕ). content_by_index es (first + n)) (sym at)
      | inr other ↦ ap option_copied (get_or-set_other xs i k slot None other) ∙ before k (omega (arith, other))
    ]

pub same_on : (es rest behind : Elements) (m n : ℕ) → m ≤ n → SameFrom m es rest → SameFrom n rest behind → SameFrom n es behind
same_on es rest behind m n le p q k k_le = q k k_le ∙ p k (omega arith)

-- ---- the loop over the blocks

blocks_more : (es : Elements) (k : ℕ) → blocks es (k + 1) ≡ blocks es k ++ block es k ∷ []
blocks_more es k = map-range_with_len_more (block es) 0 k k (omega arith)

pub index_more : (at : ℕ) (bs : List (List ℕ)) (b : List ℕ)
    → index_bytes at (bs ++ b ∷ []) ≡ index_bytes at bs ++ little_bytes 4 (at + length (joined bs))
unfolding index_bytes
index_more at [] b = let e : at + 0 ≡ at = omega arith in rw e (append-nil (little_bytes 4 at))
index_more at (x ∷ bs) b =
    let sum : at + length x + length (joined bs) ≡ at + length (x ++ joined bs) = omega (arith, length-append x (joined bs)) in
    ap (λ (t : List ℕ). little_bytes 4 at ++ t) (index_more (at + length x) bs b)
    ∙ sym (append_assoc (little_bytes 4 at) (index_bytes (at + length x) bs) _)
    ∙ ap (λ (n : ℕ). (little_bytes 4 at ++ index_bytes (at + length x) bs) ++ little_bytes 4 n) sum

joined_more : (bs : List (List ℕ)) (b : List ℕ) → joined (bs ++ b ∷ []) ≡ joined bs ++ b
joined_more bs b = flat_map-append (λ x. x) bs (b ∷ []) ∙ ap (λ (t : List ℕ). joined bs ++ t) (append-nil b)

pub add_entry : (es : Elements) (at k place : ℕ) (old new body : List ℕ) → place ≡ at + length body → body ≡ joined (blocks es k)
    → new ≡ old ++ little_bytes 4 place → old ≡ index_bytes at (blocks es k) → new ≡ index_bytes at (blocks es (k + 1))
add_entry es at k place old new body place-is body-is new-is old-is =
    new-is ∙ rw (place-is, body-is, old-is) (sym (index_more at (blocks es k) (block es k))) ∙ ap (index_bytes at) (sym (blocks_more es k))

pub add_block : (es : Elements) (k : ℕ) (old new : List ℕ) → new ≡ old ++ block es k → old ≡ joined (blocks es k)
    → new ≡ joined (blocks es (k + 1))
add_block es k old new new-is old-is =
    new-is ∙ ap (λ (t : List ℕ). t ++ block es k) old-is ∙ sym (joined_more (blocks es k) (block es k)) ∙ ap joined (sym (blocks_more es k))

-- the slots of a block, by what is left of the elements
pub same_slots : (es rest : Elements) (first n : ℕ) → SameFrom first es rest → slots_from rest first n ≡ slots_from es first n
unfolding slots_from
same_slots es rest first n same =
    ext_get_or None (map (content_by_index rest) (range_with_len first n)) (map (content_by_index es) (range_with_len first n))
    (length-map-range_with_len (content_by_index rest) first n ∙ sym (length-map-range_with_len (content_by_index es) first n))
    (λ k lt. let k_lt : k < n = omega (arith, length-map-range_with_len (content_by_index rest) first n) in
    get_or-map-range_with_len (content_by_index rest) first n k (first + k) None k_lt refl ∙ same (first + k) (omega arith)
    ∙ sym (get_or-map-range_with_len (content_by_index es) first n k (first + k) None k_lt refl))

pub block_from : (es rest : Elements) (k : ℕ) (slots : List (Option (List ℕ))) → slots ≡ slots_from rest (16 * k) 16
    → SameFrom (16 * k) es rest → block_bytes slots ≡ block es k
block_from es rest k slots is same = ap block_bytes (is ∙ same_slots es rest (16 * k) 16 same)

pub body_small : (es : Elements) (n k : ℕ) → k ≤ n → length (joined (blocks es n)) < 2 ^ 24 → length (joined (blocks es k)) < 2 ^ 24
body_small es n k le small =
    let front : take k (blocks es n) ≡ blocks es k = take-map-range_with_len (block es) 0 n k le in
    omega (arith, ap (λ (bs : List (List ℕ)). length (joined bs)) front, length-joined_take (blocks es n) k)

-- a block of the whole is no longer than the whole
pub block_small : (es : Elements) (n k : ℕ) → k < n → length (joined (blocks es n)) < 2 ^ 24 → length (block es k) < 2 ^ 24
block_small es n k lt small =
    let next = body_small es n (k + 1) (omega arith) small in
    omega (
      arith,
      ap length (ap joined (blocks_more es k) ∙ joined_more (blocks es k) (block es k)),
      length-append (joined (blocks es k)) (block es k),
    )

tree_small : (t : Option (List ℕ)) → length (unwrap_or t (short_uint 64)) < 2 ^ 24 → IsSmall t
tree_small None h = tt
tree_small (Some t) h = h

pub slots_small : (es rest : Elements) (n k : ℕ) (slots : List (Option (List ℕ))) → k < n → length (joined (blocks es n)) < 2 ^ 24
    → slots ≡ slots_from rest (16 * k) 16 → SameFrom (16 * k) es rest → IsSmall (tree weights slots)
slots_small es rest n k slots lt small is same =
    tree_small (tree weights slots) (rw (block_from es rest k slots is same) (block_small es n k lt small))

-- ---- what the whole asks of its parts

pub wider : (es : Elements) (least count limit : ℕ) → count ≤ limit → AreElements least count es → AreElements least limit es
wider [] least count limit le h = tt
wider (e ∷ es) least count limit le h = (h.0, omega (arith, h.1), wider es (e.index + 1) count limit le h.2)

pub record PartsAreSmall (count : ℕ) (es : Elements) : Type 0 where
  pub few : blocks_of count < 2 ^ 22
  pub small : length (joined (blocks es (blocks_of count))) < 2 ^ 24

pub parts_small : (count : ℕ) (es : Elements) → length (sparse_bytes count es) < 2 ^ 24 → PartsAreSmall count es
unfolding sparse_bytes
parts_small count es small =
    let n = blocks_of count in
    let bs = blocks es n in
    let header = short_uint (4 * count + 2) in
    let sizes = length-append header (index_bytes (4 * n) bs ++ joined bs) in
    let inner = length-append (index_bytes (4 * n) bs) (joined bs) in
    let entries : length (index_bytes (4 * n) bs) ≡ 4 * n = length-index (4 * n) bs ∙ ap (λ (m : ℕ). 4 * m) (length-blocks es n) in
    record { few = omega (arith, sizes, inner, entries, small); small = omega (arith, sizes, inner, small) }

pub whole_is : (count n : ℕ) (es : Elements) (header one two index body : List ℕ) → n ≡ blocks_of count
    → header ≡ [] ++ short_uint (4 * count + 2) → one ≡ header ++ index → two ≡ one ++ body
    → index ≡ index_bytes (4 * n) (blocks es n) → body ≡ joined (blocks es n) → two ≡ sparse_bytes count es
unfolding sparse_bytes
whole_is count n es header one two index body n-is header-is one-is two-is index-is body-is =
    rw (two-is, one-is, header-is, index-is, body-is, n-is) (append_assoc (short_uint (4 * count + 2)) _ _)

pub none_put : (at : ℕ) (bytes : List ℕ) → bytes ≡ [] → bytes ≡ index_bytes at []
unfolding index_bytes
none_put at bytes e = e

-- ---- written arrays of a few bytes

abbrev pub of_one : ℕ → List ℕ → Elements
of_one index content = record { index = index; content = content } ∷ []

pub small_one : length (sparse_bytes 1 (of_one 0 (0x0C ∷ []))) < 2 ^ 24
unfolding sparse_bytes content_by_index slots_from tree short_uint fork_number index_bytes
small_one = omega arith

pub small_two : length (sparse_bytes 4 (record { index = 0; content = 0x0C ∷ [] } ∷ of_one 3 (0x0D ∷ 0x0E ∷ []))) < 2 ^ 24
unfolding sparse_bytes content_by_index slots_from tree short_uint fork_number index_bytes
small_two = omega arith

pub small_late : length (sparse_bytes 17 (of_one 16 (0x08 ∷ []))) < 2 ^ 24
unfolding sparse_bytes content_by_index slots_from tree short_uint fork_number index_bytes
small_late = omega arith

-- The length of a sparse array, added up element by element.
use Rattle.std.proofs.Common.{◌≡◌, ℕ, ◌+◌, ◌-◌, ◌*◌, ◌/◌, ◌%◌, ◌<◌, ◌≤◌, cond, eqb, [], ◌∷◌, ◌++◌, length, map, get_or, set, Option, Some}
use Rattle.std.proofs.Common.{None, refl, sym, ap, subst, ◌∙◌, arith, inl, inr}
use Rattle.std.specs.Option.{option_map}
use Rattle.std.proofs.lemmas.Bool.{eq-eqb, ne_eqb, cases_eq}
use Rattle.std.proofs.lemmas.List.{length-map, length-set, get_or-map, get_or-set_same, get_or-set_other, ext_get_or}
use Rattle.native_format.specs.Sparse.{blocks_of}
use Rattle.native_format.specs.SparseLengths.{AreBelow, Lengths, Measure, Measures, block_at, block_len, blocks_len, capped, front_len}
use Rattle.native_format.specs.SparseLengths.{length_at, sparse_len}
use Rattle.native_format.proofs.SparseLengthLaws.{Lens, blocks_more, cap_block, empty_block, empty_blocks, in_block, length-block}
use Rattle.native_format.proofs.SparseLengthLaws.{none_blocks, same_blocks}

-- ---- an element more

below-append : (lengths : Lengths) (limit index len : ℕ) → AreBelow limit lengths → limit ≤ index
    → AreBelow (index + 1) (lengths ++ (index, len) ∷ [])
below-append [] limit index len h le = (omega arith, tt)
below-append (e ∷ es) limit index len h le = (omega (arith, h.0), below-append es limit index len h.1 le)

other_at : (lengths : Lengths) (index len i : ℕ) → (index ≡ i → ⊥) → length_at (lengths ++ (index, len) ∷ []) i ≡ length_at lengths i
unfolding length_at
other_at [] index len i other = rw (ne_eqb index i other) refl
other_at (e ∷ es) index len i other = ap (λ (t : Option ℕ). cond (eqb e.0 i) (Some e.1) t) (other_at es index len i other)

here_at : (lengths : Lengths) (limit index len : ℕ) → AreBelow limit lengths → limit ≤ index
    → length_at (lengths ++ (index, len) ∷ []) index ≡ Some len
unfolding length_at
here_at [] limit index len h le = rw (eq-eqb index index refl) refl
here_at (e ∷ es) limit index len h le = rw (ne_eqb e.0 index (λ same. omega (arith, h.0, same))) (here_at es limit index len h.1 le)

-- ---- the steps of a measure

pub measure_none : (m : Measure) (count : ℕ) → m.count ≡ count → m.next ≡ 0 → m.block ≡ 0 → m.before ≡ 0 → length m.slots ≡ 16
    → ((i : ℕ) → get_or m.slots i None ≡ None) → Measures m count []
measure_none m count p q r s wide none = record {
  count_is = p;
  none_later = tt;
  before_is = s ∙ rw r (let e = none_blocks [] in rw e (omega arith));
  slots_are = absent m.slots [] m.block wide none (λ i. empty_block [] 0 m.block tt (omega arith) i);
}
  where
    absent : (slots : Lens) (lengths : Lengths) (k : ℕ) → length slots ≡ 16 → ((i : ℕ) → get_or slots i None ≡ None)
        → ((i : ℕ) → get_or (block_at lengths k) i None ≡ None) → slots ≡ map (option_map capped) (block_at lengths k)
    absent slots lengths k wide none empty =
        ext_get_or None slots (map (option_map capped) (block_at lengths k))
        (wide ∙ sym (length-map (block_at lengths k) (option_map capped) ∙ length-block lengths k))
        (λ i lt. none i ∙ sym (get_or-map (option_map capped) (block_at lengths k) i None None (omega (arith, length-block lengths k))
        ∙ ap (option_map capped) (empty i)))

-- the blocks before a later one
pub before_later : (m : Measure) (count : ℕ) (lengths : Lengths) (k n : ℕ) → Measures m count lengths → m.next ≤ 16 * m.block + 16
    → m.block < k → n ≡ capped (block_len m.slots)
    → capped (capped (m.before + n) + (k - m.block - 1)) ≡ capped (blocks_len lengths k)
before_later m count lengths k n h near later n-is =
    let slots : n ≡ capped (block_len (block_at lengths m.block)) =
    n-is ∙ ap (λ (s : Lens). capped (block_len s)) h.slots_are ∙ cap_block (block_at lengths m.block) in
    let all : m.block + 1 + (k - m.block - 1) ≡ k = omega arith in
    let later_blocks = empty_blocks lengths m.next (m.block + 1) (k - m.block - 1) h.none_later (omega arith) in
    omega (arith, slots, h.before_is, ap (blocks_len lengths) all, later_blocks, blocks_more lengths m.block)

pub measure_later : (old new : Measure) (count : ℕ) (lengths : Lengths) (index : ℕ) → Measures old count lengths → old.next ≤ index
    → new.count ≡ old.count → new.next ≡ index → 16 * new.block ≤ index
    → old.next ≤ 16 * new.block → new.before ≡ capped (blocks_len lengths new.block) → length new.slots ≡ 16
    → ((i : ℕ) → get_or new.slots i None ≡ None) → Measures new count lengths
measure_later old new count lengths index h order count-is next-is here later before-is wide none = record {
  count_is = count-is ∙ h.count_is;
  none_later = subst (λ (n : ℕ). AreBelow n lengths) (sym next-is) (wider lengths old.next index h.none_later order);
  before_is = before-is;
  slots_are =
      ext_get_or None new.slots (map (option_map capped) (block_at lengths new.block))
      (wide ∙ sym (length-map (block_at lengths new.block) (option_map capped) ∙ length-block lengths new.block))
      (λ i lt. none i ∙ sym (get_or-map (option_map capped) (block_at lengths new.block) i None None
      (omega (arith, length-block lengths new.block))
      ∙ ap (option_map capped) (empty_block lengths old.next new.block h.none_later later i)));
}
  where
    wider : (lengths : Lengths) (limit more : ℕ) → AreBelow limit lengths → limit ≤ more → AreBelow more lengths
    wider [] limit more h le = tt
    wider (e ∷ es) limit more h le = (omega (arith, h.0), wider es limit more h.1 le)

pub measure_put : (old new : Measure) (count : ℕ) (lengths : Lengths) (index len content : ℕ) → Measures old count lengths
    → old.next ≤ index → old.block ≡ index / 16 → len ≡ capped content
    → new.count ≡ old.count → new.next ≡ index + 1 → new.block ≡ old.block → new.before ≡ old.before
    → new.slots ≡ set old.slots (index % 16) (Some len)
    → Measures new count (lengths ++ (index, content) ∷ [])
measure_put old new count lengths index len content h order here capped_is count-is next-is block-is before-is slots-is = record {
  count_is = count-is ∙ h.count_is;
  none_later = subst (λ (n : ℕ). AreBelow n (lengths ++ (index, content) ∷ [])) (sym next-is)
      (below-append lengths old.next index content h.none_later order);
  before_is = before-is ∙ h.before_is
      ∙ ap capped
      (same_blocks lengths (lengths ++ (index, content) ∷ []) old.block
      (λ i lt. sym (other_at lengths index content i (λ same. omega (arith, here, same))))) ∙ ap (λ (k : ℕ). capped
      (blocks_len (lengths ++ (index, content) ∷ []) k)) (sym block-is);
  slots_are = slots-is ∙ ap (λ (s : Lens). set s (index % 16) (Some len)) h.slots_are ∙ all_slots
      ∙ ap (λ (k : ℕ). map (option_map capped) (block_at (lengths ++ (index, content) ∷ []) k)) (sym block-is);
}
  where
    f : Option ℕ → Option ℕ
    f = option_map capped

    more : Lengths
    more = lengths ++ (index, content) ∷ []

    all_slots : set (map (option_map capped) (block_at lengths old.block)) (index % 16) (Some len) ≡ map (option_map capped)
        (block_at (lengths ++ (index, content) ∷ []) old.block)
    all_slots =
        let k = old.block in
        let xs = map (option_map capped) (block_at lengths k) in
        let ys = map (option_map capped) (block_at (lengths ++ (index, content) ∷ []) k) in
        let wide : length xs ≡ 16 = length-map (block_at lengths k) (option_map capped) ∙ length-block lengths k in
        let wide' : length ys ≡ 16 =
        length-map (block_at (lengths ++ (index, content) ∷ []) k) (option_map capped)
        ∙ length-block (lengths ++ (index, content) ∷ []) k in
        let at : 16 * k + index % 16 ≡ index = omega (arith, here) in
        ext_get_or None (set xs (index % 16) (Some len)) ys (length-set xs (index % 16) (Some len) ∙ wide ∙ sym wide')
        (λ i lt.
        let i_lt : i < 16 = omega (arith, length-set xs (index % 16) (Some len), wide) in
        let right : get_or ys i None ≡ option_map capped (length_at (lengths ++ (index, content) ∷ []) (16 * k + i)) =
        get_or-map (option_map capped) (block_at (lengths ++ (index, content) ∷ []) k) i None None
        (omega (arith, length-block (lengths ++ (index, content) ∷ []) k))
        ∙ ap (option_map capped) (in_block (lengths ++ (index, content) ∷ []) k i i_lt) in
        elim (cases_eq i (index % 16)) [
          | inl same ↦
              let place : 16 * k + i ≡ index = omega (arith, at, same) in
              let left : get_or (set xs (index % 16) (Some len)) i None ≡ Some len =
              ap (λ (n : ℕ). get_or (set xs (index % 16) (Some len)) n None) same
              ∙ get_or-set_same xs (index % 16) (Some len) None (omega (arith, wide)) in
              left
              ∙ sym
              (right ∙ ap (λ (n : ℕ). option_map capped (length_at (lengths ++ (index, content) ∷ []) n)) place
              ∙ ap (option_map capped) (here_at lengths old.next index content h.none_later order) ∙ ap (λ (n : ℕ). Some n) (sym capped_is))
          | inr other ↦
              let apart : index ≡ 16 * k + i → ⊥ = λ e. other (omega (arith, at, e)) in
              get_or-set_other xs (index % 16) i (Some len) None other
              ∙ get_or-map (option_map capped) (block_at lengths k) i None None (omega (arith, length-block lengths k))
              ∙ ap (option_map capped) (in_block lengths k i i_lt)
              ∙ sym (right ∙ ap (option_map capped) (other_at lengths index content (16 * k + i) apart))
        ])

-- the length of the whole array, by the bytes of its blocks
pub measured : (m : Measure) (count : ℕ) (lengths : Lengths) (front body result : ℕ) → Measures m count lengths → front ≡ front_len m.count
    → result ≡ capped (body + front)
    → body ≡ capped (blocks_len lengths (blocks_of m.count)) → result ≡ capped (sparse_len count lengths)
unfolding sparse_len
measured m count lengths front body result h front-is result-is body-is =
    let same : sparse_len m.count lengths ≡ sparse_len count lengths = ap (λ (n : ℕ). sparse_len n lengths) h.count_is in
    omega (arith, same, front-is, result-is, body-is)

pub no_blocks : (lengths : Lengths) (n body : ℕ) → n ≡ 0 → body ≡ 0 → body ≡ capped (blocks_len lengths n)
no_blocks lengths n body none is = let e : blocks_len lengths n ≡ 0 = ap (blocks_len lengths) none ∙ none_blocks lengths in omega (arith, e)

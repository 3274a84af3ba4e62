-- A path through a written tree ends at the content of its slot.
use Rattle.std.proofs.Common.{◌≡◌, ℕ, zero, suc, ◌+◌, ◌*◌, ◌/◌, ◌%◌, ◌^◌, ◌<◌, ◌≤◌, Bool, true, false, cond, eqb, ltb, leb, List, [], ◌∷◌}
use Rattle.std.proofs.Common.{◌++◌, length, map, get_or, take, drop, Option, Some, None, Ok, refl, sym, ap, subst, ◌∙◌, append_assoc, arith}
use Rattle.std.proofs.Common.{inl, inr}
use Rattle.std.specs.Prelude.{unwrap_or}
use Rattle.std.proofs.lemmas.Bool.{le-leb, lt-ltb, le-ltb, ltb-true, ltb-false, eq-eqb, ne_eqb, cases_Bool}
use Rattle.std.specs.Option.{option_map}
use Rattle.std.proofs.lemmas.List.{length-append, drop_at, get_or-take, get_or-drop, take-map, drop-map}
use Rattle.std.proofs.lemmas.Option.{none-some, same_Some}
use Rattle.native_format.specs.declared.sparse.Step.TheVariants as steps
use Rattle.native_format.specs.Uint.{short_uint, uint_at}
use Rattle.native_format.specs.Sparse.{Answer, bit_of, step_of, step_at, onward, path, weights}
use Rattle.native_format.specs.SparseBytes.{StandsAt, fork_in, fork_number, node, tree, block_bytes}
use Rattle.native_format.specs.SparseLengths.{child_at, fork_len, node_len, place_in, tree_len}
use Rattle.native_format.specs.SparseSteps.{AreSlots}
use Rattle.native_format.proofs.SparseLengthLaws.{Lens, tree_len_is}
use Rattle.native_format.proofs.UintLaws.{leading_of, short_spells, short_len, short_size}

abbrev pub Slots : Type 0
Slots = List (Option (List ℕ))

-- ---- a written integer is read where it is

pub uint_written : (front behind : List ℕ) (v : ℕ) → v < 2 ^ 32
    → uint_at (front ++ (short_uint v ++ behind)) (length front) ≡ Some (v, length front + length (short_uint v))
unfolding uint_at
uint_written front behind v h =
    rw (drop_at front (short_uint v ++ behind) (length front) refl, leading_of v (short_uint v) behind (short_spells v h)) refl

is_one : (v : ℕ) → v < 2 ^ 7 → short_size v ≡ 1
is_one v h = rw (lt-ltb v (2 ^ 7) h) refl

is_two : (v : ℕ) → 2 ^ 7 ≤ v → v < 2 ^ 14 → short_size v ≡ 2
is_two v g h = rw (le-ltb v (2 ^ 7) g, lt-ltb v (2 ^ 14) h) refl

is_three : (v : ℕ) → 2 ^ 14 ≤ v → v < 2 ^ 21 → short_size v ≡ 3
is_three v g h = let a : 2 ^ 7 ≤ v = omega arith in rw (le-ltb v (2 ^ 7) a, le-ltb v (2 ^ 14) g, lt-ltb v (2 ^ 21) h) refl

is_four : (v : ℕ) → 2 ^ 21 ≤ v → v < 2 ^ 28 → short_size v ≡ 4
is_four v g h =
    let a : 2 ^ 7 ≤ v = omega arith in
    let b : 2 ^ 14 ≤ v = omega arith in
    rw (le-ltb v (2 ^ 7) a, le-ltb v (2 ^ 14) b, le-ltb v (2 ^ 21) g, lt-ltb v (2 ^ 28) h) refl

fits_in : (low n : ℕ) → length (short_uint (fork_in low n)) ≡ n → fork_in low n ≡ 4 * (length (short_uint (fork_in low n)) + low) + 3
fits_in low n e = rw e refl

-- the number of a node with both children says the distance from its start
pub fork_is : (low : ℕ) → low < 2 ^ 24 → fork_number low ≡ 4 * (length (short_uint (fork_number low)) + low) + 3
unfolding fork_number
fork_is low h =
    elim (cases_Bool (ltb (fork_in low 1) (2 ^ 7))) [
      | inl t ↦ rw t (fits_in low 1 (short_len (fork_in low 1) ∙ is_one _ (ltb-true _ _ t)))
      | inr one ↦ elim (cases_Bool (ltb (fork_in low 2) (2 ^ 14))) [
        | inl t ↦ rw (one, t) (fits_in low 2 (short_len (fork_in low 2) ∙ is_two _ (omega (arith, ltb-false _ _ one)) (ltb-true _ _ t)))
        | inr two ↦ elim (cases_Bool (ltb (fork_in low 3) (2 ^ 21))) [
          | inl t ↦
              rw (one, two, t) (fits_in low 3 (short_len (fork_in low 3) ∙ is_three _ (omega (arith, ltb-false _ _ two)) (ltb-true _ _ t)))
          | inr three ↦
              rw (one, two, three)
              (fits_in low 4 (short_len (fork_in low 4) ∙ is_four (fork_in low 4) (omega (arith, ltb-false _ _ three)) (omega arith)))
        ]
      ]
    ]

lower : (b : Bool) (m n : ℕ) → m < 2 ^ 28 → n < 2 ^ 28 → cond b m n < 2 ^ 28
lower true m n p q = p
lower false m n p q = q

pub fork_below : (low : ℕ) → low < 2 ^ 24 → fork_number low < 2 ^ 28
unfolding fork_number
fork_below low h =
    let one : fork_in low 1 < 2 ^ 28 = omega arith in
    let two : fork_in low 2 < 2 ^ 28 = omega arith in
    let three : fork_in low 3 < 2 ^ 28 = omega arith in
    let four : fork_in low 4 < 2 ^ 28 = omega arith in
    lower (ltb (fork_in low 1) (2 ^ 7)) _ _ one
    (lower (ltb (fork_in low 2) (2 ^ 14)) _ _ two (lower (ltb (fork_in low 3) (2 ^ 21)) _ _ three four))

-- ---- the slot that bits lead to

abbrev pub slot_by : ℕ → List ℕ → Slots → Option (List ℕ)
slot_by low [] slots = get_or slots 0 None
slot_by low (w ∷ ws) slots = slot_by low ws (cond (bit_of low w) (drop w slots) (take w slots))

-- no children, no tree
node_none : (l r : Option (List ℕ)) → node l r ≡ None → (l ≡ None) × (r ≡ None)
node_none None None e = (refl, refl)
node_none (Some l) None e = absurd (none-some (short_uint 1 ++ l) (sym e))
node_none None (Some r) e = absurd (none-some (short_uint 6 ++ r) (sym e))
node_none (Some l) (Some r) e = absurd (none-some (short_uint (fork_number (length l)) ++ (l ++ r)) (sym e))

either : (low : ℕ) (ws : List ℕ) (b : Bool) (x y : Slots) → slot_by low ws x ≡ None → slot_by low ws y ≡ None
    → slot_by low ws (cond b x y) ≡ None
either low ws true x y p q = p
either low ws false x y p q = q

pub empty_slot : (low : ℕ) (ws : List ℕ) (slots : Slots) → tree ws slots ≡ None → slot_by low ws slots ≡ None
unfolding tree
empty_slot low [] slots e = e
empty_slot low (w ∷ ws) slots e =
    let p = node_none (tree ws (take w slots)) (tree ws (drop w slots)) e in
    either low ws (bit_of low w) (drop w slots) (take w slots) (empty_slot low ws (drop w slots) p.1) (empty_slot low ws (take w slots) p.0)

-- ---- one step

step_is : (bytes : List ℕ) (low w at v behind : ℕ) (b : Bool) → bit_of low w ≡ b → uint_at bytes at ≡ Some (v, behind)
    → step_at bytes low w at ≡ step_of bytes low b at (Some (v, behind))
unfolding step_at
step_is bytes low w at v behind b p q = ap (λ (c : Bool). step_of bytes low c at (uint_at bytes at)) p ∙ ap (step_of bytes low b at) q

to_child : (bytes : List ℕ) (low w : ℕ) (ws : List ℕ) (at next : ℕ) → step_at bytes low w at ≡ Ok (steps.Child next)
    → path bytes low (w ∷ ws) at ≡ path bytes low ws next
unfolding path
to_child bytes low w ws at next e = ap (onward (path bytes low ws)) e

to_nothing : (bytes : List ℕ) (low w : ℕ) (ws : List ℕ) (at : ℕ) → step_at bytes low w at ≡ Ok steps.Absent
    → path bytes low (w ∷ ws) at ≡ Ok None
unfolding path
to_nothing bytes low w ws at e = ap (onward (path bytes low ws)) e

-- ---- where a node leads

-- A node is asked for a bit: it leads to the tree of that bit, which is so far from the node's start, or nowhere where there
-- is none.
abbrev pub Leads : List ℕ → ℕ → ℕ → ℕ → ℕ → Option (List ℕ) → Type 0
Leads bytes low w at off None = step_at bytes low w at ≡ Ok steps.Absent
Leads bytes low w at off (Some child) =
    (step_at bytes low w at ≡ Ok (steps.Child (at + off))) × StandsAt bytes (at + off) child × (length child < 2 ^ 24)

low_only : (low w : ℕ) (l front behind : List ℕ) (b : Bool) → bit_of low w ≡ b → length (short_uint 1 ++ l) < 2 ^ 24
    → Leads (front ++ ((short_uint 1 ++ l) ++ behind)) low w (length front) (child_at b (Some (length l)) None) (cond b None (Some l))
low_only low w l front behind b bit small = go b bit where
  go : (b : Bool) → bit_of low w ≡ b
      → Leads (front ++ ((short_uint 1 ++ l) ++ behind)) low w (length front) (child_at b (Some (length l)) None) (cond b None (Some l))
  go true bit =
      let bytes = front ++ ((short_uint 1 ++ l) ++ behind) in
      let read : uint_at bytes (length front) ≡ Some (1, length front + length (short_uint 1)) =
      ap (λ (t : List ℕ). uint_at (front ++ t) (length front)) (append_assoc (short_uint 1) l behind)
      ∙ uint_written front (l ++ behind) 1 (omega arith) in
      step_is bytes low w (length front) 1 _ true bit read
  go false bit =
      let bytes = front ++ ((short_uint 1 ++ l) ++ behind) in
      let read : uint_at bytes (length front) ≡ Some (1, length front + length (short_uint 1)) =
      ap (λ (t : List ℕ). uint_at (front ++ t) (length front)) (append_assoc (short_uint 1) l behind)
      ∙ uint_written front (l ++ behind) 1 (omega arith) in
      let regrouped : (front ++ short_uint 1) ++ (l ++ behind) ≡ bytes =
      append_assoc front (short_uint 1) (l ++ behind) ∙ ap (λ (t : List ℕ). front ++ t) (sym (append_assoc (short_uint 1) l behind)) in
      let one : length (short_uint 1) ≡ 1 = short_len 1 in
      let at : length front + length (short_uint 1) ≡ length front + 1 = omega (arith, one) in (
        subst (λ (n : ℕ). step_at bytes low w (length front) ≡ Ok (steps.Child n)) at
            (step_is bytes low w (length front) 1 _ false bit read),
        record {
          front = front ++ short_uint 1;
          behind = behind;
          place_is = omega (arith, one, length-append front (short_uint 1));
          bytes_are = sym
              regrouped;
        },
        omega (arith, length-append (short_uint 1) l, small),
      )

high_only : (low w : ℕ) (r front behind : List ℕ) (b : Bool) → bit_of low w ≡ b → length (short_uint 6 ++ r) < 2 ^ 24
    → Leads (front ++ ((short_uint 6 ++ r) ++ behind)) low w (length front) (child_at b None (Some (length r))) (cond b (Some r) None)
high_only low w r front behind b bit small = go b bit where
  go : (b : Bool) → bit_of low w ≡ b
      → Leads (front ++ ((short_uint 6 ++ r) ++ behind)) low w (length front) (child_at b None (Some (length r))) (cond b (Some r) None)
  go false bit =
      let bytes = front ++ ((short_uint 6 ++ r) ++ behind) in
      let read : uint_at bytes (length front) ≡ Some (6, length front + length (short_uint 6)) =
      ap (λ (t : List ℕ). uint_at (front ++ t) (length front)) (append_assoc (short_uint 6) r behind)
      ∙ uint_written front (r ++ behind) 6 (omega arith) in
      step_is bytes low w (length front) 6 _ false bit read
  go true bit =
      let bytes = front ++ ((short_uint 6 ++ r) ++ behind) in
      let read : uint_at bytes (length front) ≡ Some (6, length front + length (short_uint 6)) =
      ap (λ (t : List ℕ). uint_at (front ++ t) (length front)) (append_assoc (short_uint 6) r behind)
      ∙ uint_written front (r ++ behind) 6 (omega arith) in
      let regrouped : (front ++ short_uint 6) ++ (r ++ behind) ≡ bytes =
      append_assoc front (short_uint 6) (r ++ behind) ∙ ap (λ (t : List ℕ). front ++ t) (sym (append_assoc (short_uint 6) r behind)) in
      let one : length (short_uint 6) ≡ 1 = short_len 6 in
      let inside : leb (length front + 1) (length bytes) ≡ true =
      le-leb _ _
      (omega (
        arith,
        ap length regrouped,
        length-append (front ++ short_uint 6) (r ++ behind),
        length-append front (short_uint 6),
        one,
      )) in (
        step_is bytes low w (length front) 6 _ true bit read ∙ rw inside refl,
        record {
          front = front ++ short_uint 6;
          behind = behind;
          place_is = omega (arith, length-append front (short_uint 6), one);
          bytes_are = sym
              regrouped;
        },
        omega (arith, length-append (short_uint 6) r, small),
      )

to_fork : (low w : ℕ) (l r front behind : List ℕ) (v : ℕ) → v ≡ 4 * (length (short_uint v) + length l) + 3 → (b : Bool) → bit_of low w ≡ b
    → uint_at (front ++ ((short_uint v ++ (l ++ r)) ++ behind)) (length front) ≡ Some (v, length front + length (short_uint v))
    → length l < 2 ^ 24 → length r < 2 ^ 24
    → Leads (front ++ ((short_uint v ++ (l ++ r)) ++ behind)) low w (length front) (length (short_uint v) + cond b (length l) 0)
    (cond b (Some r) (Some l))
to_fork low w l r front behind v v-is false bit read low_small high_small =
    let node = short_uint v in
    let bytes = front ++ ((node ++ (l ++ r)) ++ behind) in
    let odd : v % 2 ≡ 1 = omega (arith, v-is) in
    let step : step_at bytes low w (length front) ≡ Ok (steps.Child (length front + length node)) =
    step_is bytes low w (length front) v _ false bit read ∙ rw (eq-eqb _ _ odd) refl in
    let at : length front + length node ≡ length front + (length node + 0) = omega arith in
    let regrouped : (front ++ node) ++ (l ++ (r ++ behind)) ≡ bytes =
    append_assoc front node (l ++ (r ++ behind)) ∙ ap (λ (t : List ℕ). front ++ (node ++ t)) (sym (append_assoc l r behind))
    ∙ ap (λ (t : List ℕ). front ++ t) (sym (append_assoc node (l ++ r) behind)) in (
      subst (λ (n : ℕ). step_at bytes low w (length front) ≡ Ok (steps.Child n)) at step,
      record { front = front ++ node; behind = r ++ behind; place_is = omega (arith, length-append front node); bytes_are = sym regrouped },
      low_small,
    )
to_fork low w l r front behind v v-is true bit read low_small high_small =
    let node = short_uint v in
    let bytes = front ++ ((node ++ (l ++ r)) ++ behind) in
    let set : v / 2 % 2 ≡ 1 = omega (arith, v-is) in
    let distance : v / 4 ≡ length node + length l = omega (arith, v-is) in
    let before = (front ++ node) ++ l in
    let regrouped : before ++ (r ++ behind) ≡ bytes =
    append_assoc (front ++ node) l (r ++ behind) ∙ append_assoc front node (l ++ (r ++ behind))
    ∙ ap (λ (t : List ℕ). front ++ (node ++ t)) (sym (append_assoc l r behind))
    ∙ ap (λ (t : List ℕ). front ++ t) (sym (append_assoc node (l ++ r) behind)) in
    let before_len : length before ≡ length front + (length node + length l) =
    omega (arith, length-append (front ++ node) l, length-append front node) in
    let inside : leb (length front + (length node + length l)) (length bytes) ≡ true =
    le-leb _ _ (omega (arith, ap length regrouped, length-append before (r ++ behind), before_len)) in
    let step : step_at bytes low w (length front) ≡ Ok (steps.Child (length front + (length node + length l))) =
    step_is bytes low w (length front) v _ true bit read ∙ rw (eq-eqb _ _ set, distance, inside) refl in
    (step, record { front = before; behind = behind; place_is = sym before_len; bytes_are = sym regrouped }, high_small)

fork : (low w : ℕ) (l r front behind : List ℕ) (b : Bool) → bit_of low w ≡ b
    → length (short_uint (fork_number (length l)) ++ (l ++ r)) < 2 ^ 24
    → Leads (front ++ ((short_uint (fork_number (length l)) ++ (l ++ r)) ++ behind)) low w (length front)
    (child_at b (Some (length l)) (Some (length r))) (cond b (Some r) (Some l))
unfolding fork_len
fork low w l r front behind b bit small =
    let v = fork_number (length l) in
    let node = short_uint v in
    let bytes = front ++ ((node ++ (l ++ r)) ++ behind) in
    let sizes : length (node ++ (l ++ r)) ≡ length node + (length l + length r) =
    length-append node (l ++ r) ∙ ap (λ (n : ℕ). length node + n) (length-append l r) in
    let low_small : length l < 2 ^ 24 = omega (arith, sizes, small) in
    let high_small : length r < 2 ^ 24 = omega (arith, sizes, small) in
    let v-is : v ≡ 4 * (length node + length l) + 3 = fork_is (length l) low_small in
    let fits : v < 2 ^ 32 = omega (arith, fork_below (length l) low_small) in
    let read : uint_at bytes (length front) ≡ Some (v, length front + length node) =
    ap (λ (t : List ℕ). uint_at (front ++ t) (length front)) (append_assoc node (l ++ r) behind)
    ∙ uint_written front ((l ++ r) ++ behind) v fits in
    to_fork low w l r front behind v v-is b bit read low_small high_small

leads : (low w : ℕ) (l r : Option (List ℕ)) (t front behind : List ℕ) → node l r ≡ Some t → length t < 2 ^ 24
    → Leads (front ++ (t ++ behind)) low w (length front) (child_at (bit_of low w) (option_map length l) (option_map length r))
    (cond (bit_of low w) r l)
leads low w None None t front behind e small = absurd (none-some t e)
leads low w (Some l) None t front behind e small =
    let t-is : short_uint 1 ++ l ≡ t = same_Some (short_uint 1 ++ l) t e in
    subst
    (λ (u : List ℕ). Leads (front ++ (u ++ behind)) low w (length front) (child_at (bit_of low w) (Some (length l)) None)
    (cond (bit_of low w) None (Some l))) t-is
    (low_only low w l front behind (bit_of low w) refl (omega (arith, ap length t-is, small)))
leads low w None (Some r) t front behind e small =
    let t-is : short_uint 6 ++ r ≡ t = same_Some (short_uint 6 ++ r) t e in
    subst
    (λ (u : List ℕ). Leads (front ++ (u ++ behind)) low w (length front) (child_at (bit_of low w) None (Some (length r)))
    (cond (bit_of low w) (Some r) None)) t-is
    (high_only low w r front behind (bit_of low w) refl (omega (arith, ap length t-is, small)))
leads low w (Some l) (Some r) t front behind e small =
    let t-is : short_uint (fork_number (length l)) ++ (l ++ r) ≡ t = same_Some (short_uint (fork_number (length l)) ++ (l ++ r)) t e in
    subst
    (λ (u : List ℕ). Leads (front ++ (u ++ behind)) low w (length front) (child_at (bit_of low w) (Some (length l)) (Some (length r)))
    (cond (bit_of low w) (Some r) (Some l))) t-is
    (fork low w l r front behind (bit_of low w) refl (omega (arith, ap length t-is, small)))

-- ---- where a path ends

-- an answer is the place of the content, from a base on; or nothing, where there is none
abbrev pub FindsAt : List ℕ → ℕ → Answer → Option ℕ → Option (List ℕ) → Type 0
FindsAt bytes base answer None None = answer ≡ Ok None
FindsAt bytes base answer (Some place) (Some content) = (answer ≡ Ok (Some (base + place))) × StandsAt bytes (base + place) content
FindsAt bytes base answer None (Some content) = ⊥
FindsAt bytes base answer (Some place) None = ⊥

pub moved : (bytes : List ℕ) (base off : ℕ) (answer now : Answer) (place : Option ℕ) (slot : Option (List ℕ)) → now ≡ answer
    → FindsAt bytes (base + off) answer place slot
    → FindsAt bytes base now (option_map (λ p. off + p) place) slot
moved bytes base off answer now None None is h = is ∙ h
moved bytes base off answer now None (Some content) is h = absurd h
moved bytes base off answer now (Some place) None is h = absurd h
moved bytes base off answer now (Some place) (Some content) is h =
    let at : base + off + place ≡ base + (off + place) = omega arith in
    (is ∙ subst (λ (n : ℕ). answer ≡ Ok (Some n)) at h.0, subst (λ (n : ℕ). StandsAt bytes n content) at h.1)

-- in bytes that are spelled in another way, from a place that is
pub carried : (xs ys : List ℕ) (low : ℕ) (ws : List ℕ) (p q : ℕ) (place : Option ℕ) (slot : Option (List ℕ)) → xs ≡ ys → p ≡ q
    → FindsAt xs p (path xs low ws p) place slot → FindsAt ys q (path ys low ws q) place slot
carried xs ys low ws p q place slot same at h =
    subst (λ (zs : List ℕ). FindsAt zs q (path zs low ws q) place slot) same
    (subst (λ (k : ℕ). FindsAt xs k (path xs low ws k) place slot) at h)

nothing_found : (bytes : List ℕ) (base : ℕ) (answer : Answer) (place : Option ℕ) (slot : Option (List ℕ)) → answer ≡ Ok None → place ≡ None
    → slot ≡ None → FindsAt bytes base answer place slot
nothing_found bytes base answer place slot is none empty = rw (none, empty) is

-- no place in a tree that is none
len_none : (l h : Option ℕ) → node_len l h ≡ None → (l ≡ None) × (h ≡ None)
len_none None None e = (refl, refl)
len_none (Some l) None e = absurd (none-some (1 + l) (sym e))
len_none None (Some h) e = absurd (none-some (1 + h) (sym e))
len_none (Some l) (Some h) e = absurd (none-some (fork_len l + (l + h)) (sym e))

pub no_place : (low : ℕ) (ws : List ℕ) (slots : Lens) → tree_len ws slots ≡ None → place_in ws low slots ≡ None
unfolding tree_len place_in
no_place low [] slots e = rw e refl
no_place low (w ∷ ws) slots e =
    let p = len_none (tree_len ws (take w slots)) (tree_len ws (drop w slots)) e in
    ap (option_map (λ place. child_at (bit_of low w) (tree_len ws (take w slots)) (tree_len ws (drop w slots)) + place))
    (either_side (bit_of low w) (no_place low ws (drop w slots) p.1) (no_place low ws (take w slots) p.0))
  where
    either_side : (b : Bool) → place_in ws low (drop w slots) ≡ None → place_in ws low (take w slots) ≡ None
        → place_in ws low (cond b (drop w slots) (take w slots)) ≡ None
    either_side true h k = h
    either_side false h k = k

abbrev pub lens : Slots → Lens
lens slots = map (option_map length) slots

-- what is found in a tree, wherever it is
abbrev IsFoundIn : ℕ → List ℕ → Slots → Type 0
IsFoundIn low ws slots = (t front behind : List ℕ) → tree ws slots ≡ Some t → length t < 2 ^ 24
    → FindsAt (front ++ (t ++ behind)) (length front) (path (front ++ (t ++ behind)) low ws (length front)) (place_in ws low (lens slots))
    (slot_by low ws slots)

from_child : (bytes : List ℕ) (low w : ℕ) (ws : List ℕ) (at off : ℕ) (child : Slots) (t : Option (List ℕ)) → IsFoundIn low ws child
    → tree ws child ≡ t → Leads bytes low w at off t
    → FindsAt bytes at (path bytes low (w ∷ ws) at) (option_map (λ p. off + p) (place_in ws low (lens child))) (slot_by low ws child)
from_child bytes low w ws at off child None below e step =
    let no_len : tree_len ws (lens child) ≡ None = sym (tree_len_is ws child) ∙ ap (option_map length) e in
    nothing_found bytes at (path bytes low (w ∷ ws) at) (option_map (λ p. off + p) (place_in ws low (lens child))) (slot_by low ws child)
    (to_nothing bytes low w ws at step) (ap (option_map (λ p. off + p)) (no_place low ws (lens child) no_len)) (empty_slot low ws child e)
from_child bytes low w ws at off child (Some t) below e (step, stands, small) =
    let found = below t stands.front stands.behind e small in
    let there : FindsAt bytes (at + off) (path bytes low ws (at + off)) (place_in ws low (lens child)) (slot_by low ws child) =
    carried (stands.front ++ (t ++ stands.behind)) bytes low ws (length stands.front) (at + off) (place_in ws low (lens child))
    (slot_by low ws child) (sym stands.bytes_are) (sym stands.place_is) found in
    moved bytes at off (path bytes low ws (at + off)) (path bytes low (w ∷ ws) at) (place_in ws low (lens child)) (slot_by low ws child)
    (to_child bytes low w ws at (at + off) step) there

of_bit : (b : Bool) (ws : List ℕ) (xs ys : Slots) → tree ws (cond b ys xs) ≡ cond b (tree ws ys) (tree ws xs)
of_bit true ws xs ys = refl
of_bit false ws xs ys = refl

lens_of_bit : (b : Bool) (xs ys : Slots) → lens (cond b ys xs) ≡ cond b (lens ys) (lens xs)
lens_of_bit true xs ys = refl
lens_of_bit false xs ys = refl

place_step : (low w : ℕ) (ws : List ℕ) (slots : Slots)
    → place_in (w ∷ ws) low (lens slots)
    ≡ option_map (λ p. child_at (bit_of low w) (option_map length (tree ws (take w slots)))
    (option_map length (tree ws (drop w slots))) + p)
    (place_in ws low (lens (cond (bit_of low w) (drop w slots) (take w slots))))
unfolding place_in
place_step low w ws slots =
    let b = bit_of low w in
    let l : tree_len ws (take w (lens slots)) ≡ option_map length (tree ws (take w slots)) =
    ap (tree_len ws) (take-map (option_map length) w slots) ∙ sym (tree_len_is ws (take w slots)) in
    let h : tree_len ws (drop w (lens slots)) ≡ option_map length (tree ws (drop w slots)) =
    ap (tree_len ws) (drop-map (option_map length) w slots) ∙ sym (tree_len_is ws (drop w slots)) in
    let child : cond b (drop w (lens slots)) (take w (lens slots)) ≡ lens (cond b (drop w slots) (take w slots)) =
    ap (λ (x : Lens). cond b x (take w (lens slots))) (drop-map (option_map length) w slots)
    ∙ ap (λ (x : Lens). cond b (lens (drop w slots)) x) (take-map (option_map length) w slots)
    ∙ sym (lens_of_bit b (take w slots) (drop w slots)) in
    ap
    (λ (x : Option ℕ). option_map (λ p. child_at b x (tree_len ws (drop w (lens slots))) + p)
    (place_in ws low (cond b (drop w (lens slots)) (take w (lens slots))))) l
    ∙ ap
    (λ (x : Option ℕ). option_map (λ p. child_at b (option_map length (tree ws (take w slots))) x + p)
    (place_in ws low (cond b (drop w (lens slots)) (take w (lens slots))))) h
    ∙ ap
    (λ (x : Lens). option_map (λ p. child_at b (option_map length (tree ws (take w slots)))
    (option_map length (tree ws (drop w slots))) + p) (place_in ws low x)) child

leaf_found : (bytes front behind : List ℕ) (s t : List ℕ) → s ≡ t → bytes ≡ front ++ (t ++ behind)
    → (◌≡◌ {A = Answer} (Ok (Some (length front))) (Ok (Some (length front + 0)))) × StandsAt bytes (length front + 0) s
leaf_found bytes front behind s t same is =
    let at : length front ≡ length front + 0 = omega arith in (
      ap (λ (n : ℕ). Ok (Some n)) at,
      record { front = front; behind = behind; place_is = sym at; bytes_are = is ∙ ap (λ (u : List ℕ). front ++ (u ++ behind)) (sym same) },
    )

pub tree_path : (low : ℕ) (ws : List ℕ) (slots : Slots) → IsFoundIn low ws slots
unfolding tree path place_in
tree_path low [] [] t front behind e small = absurd (none-some t e)
tree_path low [] (None ∷ slots) t front behind e small = absurd (none-some t e)
tree_path low [] (Some s ∷ slots) t front behind e small = leaf_found (front ++ (t ++ behind)) front behind s t (same_Some s t e) refl
tree_path low (w ∷ ws) slots t front behind e small =
    let b = bit_of low w in
    let xs = take w slots in
    let ys = drop w slots in
    let bytes = front ++ (t ++ behind) in
    let step = leads low w (tree ws xs) (tree ws ys) t front behind e small in
    let found =
    from_child bytes low w ws (length front) (child_at b (option_map length (tree ws xs)) (option_map length (tree ws ys))) (cond b ys xs)
    (cond b (tree ws ys) (tree ws xs)) (tree_path low ws (cond b ys xs)) (of_bit b ws xs ys) step in
    subst (λ (p : Option ℕ). FindsAt bytes (length front) (path bytes low (w ∷ ws) (length front)) p (slot_by low (w ∷ ws) slots))
    (sym (place_step low w ws slots)) found

-- ---- the slot by its number

abbrev number_of : ℕ → List ℕ → ℕ
number_of low [] = 0
number_of low (w ∷ ws) = cond (bit_of low w) w 0 + number_of low ws

number_below : (low : ℕ) (ws : List ℕ) (n : ℕ) → AreSlots ws n → number_of low ws < n
number_below low [] n h = omega (arith, h)
number_below low (w ∷ ws) n h = with_bit (bit_of low w) w (number_of low ws) n h.0 (number_below low ws w h.1) where
  with_bit : (b : Bool) (w m n : ℕ) → n ≡ 2 * w → m < w → cond b w 0 + m < n
  with_bit true w m n p q = omega arith
  with_bit false w m n p q = omega arith

half_is : (b : Bool) (w m : ℕ) (slots : Slots) → m < w
    → get_or (cond b (drop w slots) (take w slots)) m None ≡ get_or slots (cond b w 0 + m) None
half_is true w m slots h = get_or-drop w slots m None
half_is false w m slots h = let e : 0 + m ≡ m = omega arith in rw e (get_or-take w slots m None h)

slot_is : (low : ℕ) (ws : List ℕ) (n : ℕ) (slots : Slots) → AreSlots ws n → slot_by low ws slots ≡ get_or slots (number_of low ws) None
slot_is low [] n slots h = refl
slot_is low (w ∷ ws) n slots h =
    slot_is low ws w (cond (bit_of low w) (drop w slots) (take w slots)) h.1
    ∙ half_is (bit_of low w) w (number_of low ws) slots (number_below low ws w h.1)

bit_value : (x w : ℕ) → x < 2 → cond (eqb x 1) w 0 ≡ w * x
bit_value zero w h = omega arith
bit_value (suc zero) w h = omega arith
bit_value (suc (suc x)) w h = absurd (omega arith)

number_all : (low : ℕ) → low < 16 → number_of low weights ≡ low
number_all low h =
    rw (
      bit_value (low / 8 % 2) 8 (omega arith),
      bit_value (low / 4 % 2) 4 (omega arith),
      bit_value (low / 2 % 2) 2 (omega arith),
      bit_value (low / 1 % 2) 1 (omega arith),
    ) (omega arith)

pub slot_at : (low : ℕ) (slots : Slots) → low < 16 → slot_by low weights slots ≡ get_or slots low None
slot_at low slots h =
    slot_is low weights 16 slots (refl, (refl, (refl, (refl, refl)))) ∙ ap (λ (n : ℕ). get_or slots n None) (number_all low h)

-- ---- a block

empty_block : (low : ℕ) (front behind : List ℕ) (slots : Slots) → low < 16 → tree weights slots ≡ None
    → FindsAt (front ++ (short_uint 64 ++ behind)) (length front) (path (front ++ (short_uint 64 ++ behind)) low weights (length front))
    (place_in weights low (lens slots)) (get_or slots low None)
empty_block low front behind slots small none =
    let bytes = front ++ (short_uint 64 ++ behind) in
    let no_len : tree_len weights (lens slots) ≡ None = sym (tree_len_is weights slots) ∙ ap (option_map length) none in
    nothing_found bytes (length front) (path bytes low weights (length front)) (place_in weights low (lens slots)) (get_or slots low None)
    (to_nothing bytes low 8 (4 ∷ 2 ∷ 1 ∷ []) (length front) (no_element (bit_of low 8) refl)) (no_place low weights (lens slots) no_len)
    (sym (slot_at low slots small) ∙ empty_slot low weights slots none)
  where
    no_element : (b : Bool) → bit_of low 8 ≡ b → step_at (front ++ (short_uint 64 ++ behind)) low 8 (length front) ≡ Ok steps.Absent
    no_element true bit =
        step_is (front ++ (short_uint 64 ++ behind)) low 8 (length front) 64 _ true bit (uint_written front behind 64 (omega arith))
        ∙ rw (ne_eqb 16 low (λ e. omega (arith, e))) refl
    no_element false bit =
        step_is (front ++ (short_uint 64 ++ behind)) low 8 (length front) 64 _ false bit (uint_written front behind 64 (omega arith))
        ∙ rw (ne_eqb 16 low (λ e. omega (arith, e))) refl

pub block_path : (low : ℕ) (slots : Slots) (front behind : List ℕ) → low < 16 → length (block_bytes slots) < 2 ^ 24
    → FindsAt (front ++ (block_bytes slots ++ behind)) (length front)
    (path (front ++ (block_bytes slots ++ behind)) low weights (length front)) (place_in weights low (lens slots)) (get_or slots low None)
block_path low slots front behind small fits = go (tree weights slots) refl fits where
  go : (t : Option (List ℕ)) → tree weights slots ≡ t → length (unwrap_or t (short_uint 64)) < 2 ^ 24
      → FindsAt (front ++ (block_bytes slots ++ behind)) (length front)
      (path (front ++ (block_bytes slots ++ behind)) low weights (length front)) (place_in weights low (lens slots)) (get_or slots low None)
  go None e h = rw e (empty_block low front behind slots small e)
  go (Some t) e h =
      subst
      (FindsAt (front ++ (block_bytes slots ++ behind)) (length front)
      (path (front ++ (block_bytes slots ++ behind)) low weights (length front)) (place_in weights low (lens slots)))
      (slot_at low slots small) (rw e (tree_path low weights slots t front behind e h))

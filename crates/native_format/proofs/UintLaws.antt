-- Native integers: what bytes begin with is spelled there, and nothing else is.
use Rattle.std.proofs.Common.{◌≡◌, ℕ, zero, suc, ◌+◌, ◌*◌, ◌-◌, ◌/◌, ◌%◌, ◌^◌, ◌<◌, ◌≤◌, Bool, true, false, cond, eqb, ltb, leb, List, []}
use Rattle.std.proofs.Common.{◌∷◌, ◌++◌, length, get_or, take, drop, Option, Some, None, refl, sym, ap, ◌∙◌, append_assoc, length-append}
use Rattle.std.proofs.Common.{arith, inl, inr}
use Rattle.std.proofs.Math.Seq.{drop-append_seam, take-append_seam}
use Rattle.std.proofs.lemmas.Bool.{eq-eqb, eqb-true, eqb-false, ne_eqb, le-leb, leb-true, ltb-true, lt-ltb, cases_Bool, cases_lt}
use Rattle.std.proofs.lemmas.List.{append-nil, take_at, take-append-drop, length-append, length-take-le, length-drop, drop-append-le}
use Rattle.std.proofs.lemmas.List.{drop-take, drop_all, get_or_append_left, get_or-take, get_or-drop, get_or_past, length-take, take_rest}
use Rattle.std.proofs.lemmas.Option.{cond_some, some_pair_parts, none-some}
use Rattle.std.specs.Option.{option_map, IfSome}
use Rattle.byteorder.specs.Endian.{little_number, little_bytes}
use Rattle.byteorder.specs.Numbers.{little_from-append, little_from-lt, little_number-reads_back, length-bytes_low_first, little_from-cons}
use Rattle.byteorder.specs.Numbers.{little_from-take}
use Rattle.native_format.specs.Uint.{IsShifted, IsUint, IsUintBetween, short_uint, shifted, long, leading_uint, uint_at}

abbrev pub IsBytes : List ℕ → Type 0
IsBytes bytes = (i : ℕ) → get_or bytes i 0 < 256

-- ---- what is spelled is read

shifted_front : (n : ℕ) (s x : List ℕ) (v mark : ℕ) → 2 ^ n * v + mark ≡ little_number n s → (2 ^ n * v + mark) / 2 ^ n ≡ v → length s ≡ n
    → shifted n (s ++ x) ≡ Some (v, length s)
shifted_front n s x v mark is quotient len =
    let long_enough : leb n (length (s ++ x)) ≡ true = le-leb _ _ (omega (arith, length-append s x)) in
    let word : little_number n (s ++ x) ≡ 2 ^ n * v + mark = little_from-append n s x (omega arith) ∙ sym is in
    rw (long_enough, word, quotient, len) refl

first_of : (s x : List ℕ) → 1 ≤ length s → get_or (s ++ x) 0 0 ≡ get_or s 0 0
first_of s x h = get_or_append_left s x 0 0 (omega arith)

-- the low bits of a spelling's first byte are its form's mark
mark_of : (n : ℕ) (v mark : ℕ) (s : List ℕ) → IsShifted (suc n) mark v s
    → get_or s 0 0 + 256 * little_number n (drop 1 s) ≡ 2 ^ suc n * v + mark
mark_of n v mark [] h = absurd (omega (arith, h.0))
mark_of n v mark (a ∷ s) h = ap (λ (t : ℕ). a + 256 * t) (sym (little_from-cons 0 n a s)) ∙ h.1

pub leading_of : (v : ℕ) (s x : List ℕ) → IsUint v s → leading_uint (s ++ x) ≡ Some (v, length s)
unfolding leading_uint
leading_of v s x (inl h) =
    let first = first_of s x (omega (arith, h.0)) in
    let m = mark_of 0 v 0 s h in
    let low : get_or (s ++ x) 0 0 % 2 ≡ 0 = omega (arith, first, m) in
    rw (eq-eqb _ _ low) (shifted_front 1 s x v 0 (sym h.1) (omega arith) h.0)
leading_of v s x (inr (inl h)) =
    let first = first_of s x (omega (arith, h.0)) in
    let m = mark_of 1 v 1 s h in
    let not_one : get_or (s ++ x) 0 0 % 2 ≡ 0 → ⊥ = λ e. omega (arith, first, m) in
    let low : get_or (s ++ x) 0 0 % 4 ≡ 1 = omega (arith, first, m) in
    rw (ne_eqb _ _ not_one, eq-eqb _ _ low) (shifted_front 2 s x v 1 (sym h.1) (omega arith) h.0)
leading_of v s x (inr (inr (inl h))) =
    let first = first_of s x (omega (arith, h.0)) in
    let m = mark_of 2 v 3 s h in
    let not_one : get_or (s ++ x) 0 0 % 2 ≡ 0 → ⊥ = λ e. omega (arith, first, m) in
    let not_two : get_or (s ++ x) 0 0 % 4 ≡ 1 → ⊥ = λ e. omega (arith, first, m) in
    let low : get_or (s ++ x) 0 0 % 8 ≡ 3 = omega (arith, first, m) in
    rw (ne_eqb _ _ not_one, ne_eqb _ _ not_two, eq-eqb _ _ low) (shifted_front 3 s x v 3 (sym h.1) (omega arith) h.0)
leading_of v s x (inr (inr (inr (inl h)))) =
    let first = first_of s x (omega (arith, h.0)) in
    let m = mark_of 3 v 7 s h in
    let not_one : get_or (s ++ x) 0 0 % 2 ≡ 0 → ⊥ = λ e. omega (arith, first, m) in
    let not_two : get_or (s ++ x) 0 0 % 4 ≡ 1 → ⊥ = λ e. omega (arith, first, m) in
    let not_three : get_or (s ++ x) 0 0 % 8 ≡ 3 → ⊥ = λ e. omega (arith, first, m) in
    let low : get_or (s ++ x) 0 0 % 16 ≡ 7 = omega (arith, first, m) in
    rw (ne_eqb _ _ not_one, ne_eqb _ _ not_two, ne_eqb _ _ not_three, eq-eqb _ _ low) (shifted_front 4 s x v 7 (sym h.1) (omega arith) h.0)
leading_of v s x (inr (inr (inr (inr h)))) =
    let first = first_of s x (omega (arith, h.0)) in
    let low = h.1 in
    let not_one : get_or (s ++ x) 0 0 % 2 ≡ 0 → ⊥ = λ e. omega (arith, first, low) in
    let not_two : get_or (s ++ x) 0 0 % 4 ≡ 1 → ⊥ = λ e. omega (arith, first, low) in
    let not_three : get_or (s ++ x) 0 0 % 8 ≡ 3 → ⊥ = λ e. omega (arith, first, low) in
    let not_four : get_or (s ++ x) 0 0 % 16 ≡ 7 → ⊥ = λ e. omega (arith, first, low) in
    let long_enough : leb 5 (length (s ++ x)) ≡ true = le-leb _ _ (omega (arith, length-append s x, h.0)) in
    let len = h.0 in
    let behind : drop 1 (s ++ x) ≡ drop 1 s ++ x = drop-append-le 1 s x (omega (arith, len)) in
    let word : little_number 4 (drop 1 s ++ x) ≡ v = little_from-append 4 (drop 1 s) x (omega (arith, length-drop 1 s, len)) ∙ sym h.2 in
    rw (ne_eqb _ _ not_one, ne_eqb _ _ not_two, ne_eqb _ _ not_three, ne_eqb _ _ not_four, long_enough, behind, word, len) refl

-- ---- what is read is spelled

pub record Leads (bytes : List ℕ) (v n : ℕ) : Type 0 where
  pub within : n ≤ length bytes
  pub some : 0 < n
  pub short : n ≤ 5
  pub spelled : IsUint v (take n bytes)

shifted_is : (n mark : ℕ) (bytes : List ℕ) (v k : ℕ) → little_number n bytes ≡ 2 ^ n * (little_number n bytes / 2 ^ n) + mark
    → shifted n bytes ≡ Some (v, k) → (n ≡ k) × (n ≤ length bytes) × IsShifted n mark v (take n bytes)
shifted_is n mark bytes v k whole e =
    let g = cond_some (leb n (length bytes)) (little_number n bytes / 2 ^ n, n) (v, k) e in
    let le : n ≤ length bytes = leb-true _ _ g.0 in
    let v-is : little_number n bytes / 2 ^ n ≡ v = ap (λ (p : ℕ × ℕ). p.0) g.1 in
    let front : little_number n (take n bytes) ≡ little_number n bytes = little_from-take 0 n n bytes (omega arith) in
    (ap (λ (p : ℕ × ℕ). p.1) g.1, le, (length-take-le n bytes le, front ∙ rw v-is at whole))

abbrev is_low : List ℕ → ℕ → ℕ → Bool
is_low bytes n mark = eqb (get_or bytes 0 0 % n) mark

leads : (n mark : ℕ) (bytes : List ℕ) (v k : ℕ) → 0 < n → n ≤ 5 → (IsShifted n mark v (take n bytes) → IsUint v (take n bytes))
    → (n ≡ k) × (n ≤ length bytes) × IsShifted n mark v (take n bytes) → Leads bytes v k
leads n mark bytes v k some short form p =
    record { within = omega (arith, p.0, p.1); some = omega (arith, p.0); short = omega (arith, p.0); spelled = rw (← p.0) (form p.2) }

long_is : (bytes : List ℕ) (v k : ℕ) → get_or bytes 0 0 % 16 ≡ 15 → long bytes ≡ Some (v, k) → Leads bytes v k
long_is bytes v k low e =
    let g = cond_some (leb 5 (length bytes)) (little_number 4 (drop 1 bytes), 5) (v, k) e in
    let le : 5 ≤ length bytes = leb-true _ _ g.0 in
    let v-is : little_number 4 (drop 1 bytes) ≡ v = ap (λ (p : ℕ × ℕ). p.0) g.1 in
    let k-is : 5 ≡ k = ap (λ (p : ℕ × ℕ). p.1) g.1 in
    let first : get_or (take 5 bytes) 0 0 ≡ get_or bytes 0 0 = get_or-take 5 bytes 0 0 (omega arith) in
    let behind : drop 1 (take 5 bytes) ≡ take 4 (drop 1 bytes) = drop-take 1 4 bytes in
    let front : little_number 4 (take 4 (drop 1 bytes)) ≡ little_number 4 (drop 1 bytes) =
    little_from-take 0 4 4 (drop 1 bytes) (omega arith) in
    let spelled : IsUint v (take 5 bytes) =
    inr
    (inr (inr (inr (length-take-le 5 bytes le, omega (arith, first, low), sym v-is ∙ sym front ∙ ap (little_number 4) (sym behind))))) in
    record { within = omega (arith, k-is, le); some = omega (arith, k-is); short = omega (arith, k-is); spelled = rw (← k-is) spelled }

long_mark : (a : ℕ) → (a % 2 ≡ 0 → ⊥) → (a % 4 ≡ 1 → ⊥) → (a % 8 ≡ 3 → ⊥) → (a % 16 ≡ 7 → ⊥) → a % 16 ≡ 15
long_mark a p q r t = omega arith

pub leading_is : (bytes : List ℕ) (v n : ℕ) → leading_uint bytes ≡ Some (v, n) → Leads bytes v n
unfolding leading_uint
leading_is bytes v n e =
    elim (cases_Bool (is_low bytes 2 0)) [
      | inl t ↦ let low =
          eqb-true _ _ t in leads 1 0 bytes v n (omega arith) (omega arith) inl (shifted_is 1 0 bytes v n (omega (arith, low)) (rw t at e))
      | inr not_one ↦ elim (cases_Bool (is_low bytes 4 1)) [
        | inl t ↦ let low =
            eqb-true _ _ t in leads 2 1 bytes v n (omega arith) (omega arith) (λ h. inr (inl h))
            (shifted_is 2 1 bytes v n (omega (arith, low)) (rw (not_one, t) at e))
        | inr not_two ↦ elim (cases_Bool (is_low bytes 8 3)) [
          | inl t ↦ let low =
              eqb-true _ _ t in leads 3 3 bytes v n (omega arith) (omega arith) (λ h. inr (inr (inl h)))
              (shifted_is 3 3 bytes v n (omega (arith, low)) (rw (not_one, not_two, t) at e))
          | inr not_three ↦ elim (cases_Bool (is_low bytes 16 7)) [
            | inl t ↦ let low =
                eqb-true _ _ t in leads 4 7 bytes v n (omega arith) (omega arith) (λ h. inr (inr (inr (inl h))))
                (shifted_is 4 7 bytes v n (omega (arith, low)) (rw (not_one, not_two, not_three, t) at e))
            | inr not_four ↦
                let a = eqb-false _ _ not_one in
                let b = eqb-false _ _ not_two in
                let c = eqb-false _ _ not_three in
                let d = eqb-false _ _ not_four in
                long_is bytes v n (long_mark (get_or bytes 0 0) a b c d) (rw (not_one, not_two, not_three, not_four) at e)
          ]
        ]
      ]
    ]

-- ---- at a place

abbrev moved : ℕ → Option (ℕ × ℕ) → Option (ℕ × ℕ)
moved at o = option_map (λ (found : ℕ × ℕ). (found.0, at + found.1)) o

pub uint_at_is : (bytes : List ℕ) (at v next : ℕ) → uint_at bytes at ≡ Some (v, next)
    → (n : ℕ) × (at + n ≡ next) × Leads (drop at bytes) v n
unfolding uint_at
uint_at_is bytes at v next e = go (leading_uint (drop at bytes)) refl e where
  go : (o : Option (ℕ × ℕ)) → leading_uint (drop at bytes) ≡ o → moved at o ≡ Some (v, next)
      → (n : ℕ) × (at + n ≡ next) × Leads (drop at bytes) v n
  go None is e = absurd (none-some (v, next) e)
  go (Some p) is e =
      let parts = some_pair_parts p.0 v (at + p.1) next e in
      (p.1, parts.1, leading_is (drop at bytes) v p.1 (is ∙ ap (λ (w : ℕ). Some (w, p.1)) parts.0))

pub found : (bytes : List ℕ) (at v next : ℕ) → uint_at bytes at ≡ Some (v, next) → IsUintBetween bytes at v next
found bytes at v next e =
    let p = uint_at_is bytes at v next e in
    let h = p.2 in
    let size : next - at ≡ p.0 = omega (arith, p.1) in
    record
    { ordered = omega (arith, p.1); within = omega (arith, p.1, h.within, h.some, length-drop at bytes); spelled = rw size h.spelled }

pub uint_at_of : (bytes : List ℕ) (at v next : ℕ) → IsUintBetween bytes at v next → uint_at bytes at ≡ Some (v, next)
unfolding uint_at
uint_at_of bytes at v next h =
    let n = next - at in
    let whole : take n (drop at bytes) ++ drop n (drop at bytes) ≡ drop at bytes = take-append-drop n (drop at bytes) in
    let ordered = h.ordered in
    let within = h.within in
    let len : length (take n (drop at bytes)) ≡ n = length-take-le n (drop at bytes) (omega (arith, length-drop at bytes)) in
    let read : leading_uint (drop at bytes) ≡ Some (v, n) =
    ap leading_uint (sym whole) ∙ leading_of v (take n (drop at bytes)) (drop n (drop at bytes)) h.spelled
    ∙ ap (λ (k : ℕ). Some (v, k)) len in
    let next-is : at + n ≡ next = omega arith in
    rw read (ap (λ (k : ℕ). Some (v, k)) next-is)

-- ---- the laws

pub one_spelling : (s t x y : List ℕ) (v w : ℕ) → IsUint v s → IsUint w t → s ++ x ≡ t ++ y → (s ≡ t) × (v ≡ w)
one_spelling s t x y v w p q same =
    let read : Some (v, length s) ≡ Some (w, length t) = sym (leading_of v s x p) ∙ ap leading_uint same ∙ leading_of w t y q in
    let parts = some_pair_parts v w (length s) (length t) read in
    (sym (take_at s x (length s) refl) ∙ ap (take (length s)) same ∙ take_at t y (length s) (sym parts.1), parts.0)

reads_back : (n x : ℕ) → x < 256 ^ n → little_number n (little_bytes n x) ≡ x
reads_back n x h = ap (little_number n) (sym (append-nil (little_bytes n x))) ∙ little_number-reads_back n x [] h

writes : (n mark v w : ℕ) → w ≡ 2 ^ n * v + mark → w < 256 ^ n → IsShifted n mark v (little_bytes n w)
writes n mark v w is h = (length-bytes_low_first 0 n w, reads_back n w h ∙ is)

pub short_spells : (v : ℕ) → v < 2 ^ 32 → IsUint v (short_uint v)
unfolding short_uint
short_spells v h =
    elim (cases_Bool (ltb v (2 ^ 7))) [
      | inl t ↦ let lt = ltb-true _ _ t in rw t (inl (writes 1 0 v (2 * v) (omega arith) (omega arith)))
      | inr not_one ↦ elim (cases_Bool (ltb v (2 ^ 14))) [
        | inl t ↦ let lt = ltb-true _ _ t in rw (not_one, t) (inr (inl (writes 2 1 v (4 * v + 1) refl (omega arith))))
        | inr not_two ↦ elim (cases_Bool (ltb v (2 ^ 21))) [
          | inl t ↦ let lt = ltb-true _ _ t in rw (not_one, not_two, t) (inr (inr (inl (writes 3 3 v (8 * v + 3) refl (omega arith)))))
          | inr not_three ↦ elim (cases_Bool (ltb v (2 ^ 28))) [
            | inl t ↦ let lt =
                ltb-true _ _ t in rw (not_one, not_two, not_three, t) (inr (inr (inr (inl (writes 4 7 v (16 * v + 7) refl (omega arith))))))
            | inr not_four ↦ rw (not_one, not_two, not_three, not_four) (inr (inr (inr (inr (refl, refl, sym (reads_back 4 v h))))))
          ]
        ]
      ]
    ]

-- how many bytes the shortest spelling has
abbrev pub short_size : ℕ → ℕ
short_size v = cond (ltb v (2 ^ 7)) 1 (cond (ltb v (2 ^ 14)) 2 (cond (ltb v (2 ^ 21)) 3 (cond (ltb v (2 ^ 28)) 4 5)))

chosen_len : (b : Bool) (xs ys : List ℕ) (m n : ℕ) → length xs ≡ m → length ys ≡ n → length (cond b xs ys) ≡ cond b m n
chosen_len true xs ys m n p q = p
chosen_len false xs ys m n p q = q

pub short_len : (v : ℕ) → length (short_uint v) ≡ short_size v
unfolding short_uint
short_len v =
    chosen_len (ltb v (2 ^ 7)) _ _ 1 _ refl
    (chosen_len (ltb v (2 ^ 14)) _ _ 2 _ refl (chosen_len (ltb v (2 ^ 21)) _ _ 3 _ refl (chosen_len (ltb v (2 ^ 28)) _ _ 4 _ refl refl)))

cond_le : (b : Bool) (m n k : ℕ) → m ≤ k → n ≤ k → cond b m n ≤ k
cond_le true m n k p q = p
cond_le false m n k p q = q

pub size_one : (v : ℕ) → v < 2 ^ 7 → short_size v ≤ 1
size_one v h = rw (lt-ltb v (2 ^ 7) h) (omega arith)

pub size_two : (v : ℕ) → v < 2 ^ 14 → short_size v ≤ 2
size_two v h = rw (lt-ltb v (2 ^ 14) h) (cond_le (ltb v (2 ^ 7)) 1 2 2 (omega arith) (omega arith))

pub size_three : (v : ℕ) → v < 2 ^ 21 → short_size v ≤ 3
size_three v h =
    rw (lt-ltb v (2 ^ 21) h) (cond_le (ltb v (2 ^ 7)) 1 _ 3 (omega arith) (cond_le (ltb v (2 ^ 14)) 2 3 3 (omega arith) (omega arith)))

pub size_four : (v : ℕ) → v < 2 ^ 28 → short_size v ≤ 4
size_four v h =
    rw (lt-ltb v (2 ^ 28) h)
    (cond_le (ltb v (2 ^ 7)) 1 _ 4 (omega arith)
    (cond_le (ltb v (2 ^ 14)) 2 _ 4 (omega arith) (cond_le (ltb v (2 ^ 21)) 3 4 4 (omega arith) (omega arith))))

pub size_five : (v : ℕ) → short_size v ≤ 5
size_five v =
    cond_le (ltb v (2 ^ 7)) 1 _ 5 (omega arith)
    (cond_le (ltb v (2 ^ 14)) 2 _ 5 (omega arith)
    (cond_le (ltb v (2 ^ 21)) 3 _ 5 (omega arith) (cond_le (ltb v (2 ^ 28)) 4 5 5 (omega arith) (omega arith))))

pub size_some : (v : ℕ) → 1 ≤ short_size v
size_some v =
    at_least (ltb v (2 ^ 7)) 1 _ (omega arith)
    (at_least (ltb v (2 ^ 14)) 2 _ (omega arith)
    (at_least (ltb v (2 ^ 21)) 3 _ (omega arith) (at_least (ltb v (2 ^ 28)) 4 5 (omega arith) (omega arith)))) where
      at_least : (b : Bool) (m n : ℕ) → 1 ≤ m → 1 ≤ n → 1 ≤ cond b m n
      at_least true m n p q = p
      at_least false m n p q = q

shifted_below : (n mark v : ℕ) (s : List ℕ) → IsBytes s → IsShifted n mark v s → 2 ^ n * v + mark < 256 ^ n
shifted_below n mark v s bytes h = rw h.1 at (little_from-lt 0 n s bytes)

pub shortest : (v : ℕ) (s : List ℕ) → IsBytes s → IsUint v s → length (short_uint v) ≤ length s
shortest v s bytes (inl h) = omega (arith, short_len v, h.0, size_one v (omega (arith, shifted_below 1 0 v s bytes h)))
shortest v s bytes (inr (inl h)) = omega (arith, short_len v, h.0, size_two v (omega (arith, shifted_below 2 1 v s bytes h)))
shortest v s bytes (inr (inr (inl h))) = omega (arith, short_len v, h.0, size_three v (omega (arith, shifted_below 3 3 v s bytes h)))
shortest v s bytes (inr (inr (inr (inl h)))) = omega (arith, short_len v, h.0, size_four v (omega (arith, shifted_below 4 7 v s bytes h)))
shortest v s bytes (inr (inr (inr (inr h)))) = omega (arith, short_len v, h.0, size_five v)

-- what a reader by cases needs of its sums
pub leading_size : (bytes : List ℕ) (v n : ℕ) → leading_uint bytes ≡ Some (v, n) → n ≤ 5
leading_size bytes v n e = let h = leading_is bytes v n e in h.short

pub is_found : (bytes : List ℕ) (at : ℕ) (r : Option (ℕ × ℕ)) → r ≡ uint_at bytes at → IfSome r (λ p. IsUintBetween bytes at p.0 p.1)
is_found bytes at None e = tt
is_found bytes at (Some p) e = found bytes at p.0 p.1 (sym e)

-- four bytes fit 32 bits
pub word_fits : (n : ℕ) (bytes : List ℕ) → n ≤ 4 → IsBytes bytes → little_number n bytes < 2 ^ 32
word_fits zero bytes h fits = omega arith
word_fits (suc zero) bytes h fits = omega (arith, fits 0)
word_fits (suc (suc zero)) bytes h fits = omega (arith, fits 0, fits 1)
word_fits (suc (suc (suc zero))) bytes h fits = omega (arith, fits 0, fits 1, fits 2)
word_fits (suc (suc (suc (suc zero)))) bytes h fits = omega (arith, fits 0, fits 1, fits 2, fits 3)
word_fits (suc (suc (suc (suc (suc n))))) bytes h fits = absurd (omega arith)

pub uint_at_past : (bytes : List ℕ) (at : ℕ) → length bytes ≤ at → uint_at bytes at ≡ None
unfolding uint_at leading_uint
uint_at_past bytes at h = rw (drop_all at bytes h) refl

-- a number in the bytes from a place on
pub word_from : (n at w : ℕ) (bytes : List ℕ) → n ≤ 4 → IsBytes bytes → w ≡ little_number n (take (length bytes - at) (drop at bytes))
    → w < 2 ^ 32
word_from n at w bytes h fits is = rw (is, take_rest) (word_fits n (drop at bytes) h (λ i. rw get_or-drop (fits (at + i))))

pub uint_small : (bytes : List ℕ) (at v next : ℕ) → IsBytes bytes → Some (v, next) ≡ uint_at bytes at → v < 2 ^ 32
uint_small bytes at v next fits e =
    let p = uint_at_is bytes at v next (sym e) in
    small (take p.0 (drop at bytes)) (taken p.0) (p.2).spelled where
      taken : (n : ℕ) → IsBytes (take n (drop at bytes))
      taken n i = elim (cases_lt i n) [
        | inl lt ↦ rw (get_or-take n (drop at bytes) i 0 lt, get_or-drop) (fits (at + i))
        | inr le ↦ rw (get_or_past (take n (drop at bytes)) i 0 (omega (arith, length-take n (drop at bytes)))) (omega arith)
      ]

      small : (s : List ℕ) → IsBytes s → IsUint v s → v < 2 ^ 32
      small s b (inl h) = omega (arith, shifted_below 1 0 v s b h)
      small s b (inr (inl h)) = omega (arith, shifted_below 2 1 v s b h)
      small s b (inr (inr (inl h))) = omega (arith, shifted_below 3 3 v s b h)
      small s b (inr (inr (inr (inl h)))) = omega (arith, shifted_below 4 7 v s b h)
      small s b (inr (inr (inr (inr h)))) = omega (arith, h.2, little_from-lt 0 4 (drop 1 s) (λ i. rw get_or-drop (b (1 + i))))

-- a part between two others, by its place and its length
part_between : (before part rest : List ℕ)
    → take (length before + length part - length before) (drop (length before) (before ++ part ++ rest)) ≡ part
part_between before part rest =
    let size : length before + length part - length before ≡ length part = omega arith in
    rw (append_assoc, drop-append_seam, size, take-append_seam) refl

-- the shortest spelling is read again after whatever bytes, and whatever follows
pub short_again : (v : ℕ) (before rest : List ℕ) → v < 2 ^ 32
    → IsUintBetween (before ++ short_uint v ++ rest) (length before) v (length before + length (short_uint v))
short_again v before rest h = record {
  ordered = omega arith;
  within = rw (length-append, length-append) (omega arith);
  spelled = rw (part_between before (short_uint v) rest) (short_spells v h);
}

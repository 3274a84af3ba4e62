-- Nibbles of bytes, and the numbers in them.
use Rattle.std.proofs.Common.{◌≡◌, ℕ, zero, suc, ◌+◌, ◌*◌, ◌-◌, ◌/◌, ◌%◌, ◌^◌, ◌<◌, ◌≤◌, Bool, true, false, cond, eqb, List, [], ◌∷◌, ◌++◌}
use Rattle.std.proofs.Common.{length, get_or, map, drop, Option, Some, None, refl, sym, ap, subst, ◌∙◌, append_assoc, arith, inl, inr}
use Rattle.std.specs.Option.{IfSome, option_to_list}
use Rattle.std.specs.List.{flat_map, AllByRecursion}
use Rattle.std.specs.Int.Digits.{digits_of, number_from_digits_after, AllBelowBase}
use Rattle.std.proofs.Math.Nat.{pow-suc, one-le-pow, le-mul_of_pos_right, mul-le-mul_left}
use Rattle.std.proofs.lemmas.Bool.{eq-eqb, ne_eqb, lt-ltb, le-ltb, cases_lt}
use Rattle.std.proofs.lemmas.List.{append-nil, length-append, length-map, map-append, drop_more, drop_all, drop-drop}
use Rattle.std.proofs.lemmas.Int.Digits.{number_digits_of, all_below_base_digits_of, length-digits_of-le, length-digits_of_step}
use Rattle.std.proofs.lemmas.Int.Digits.{digits_of_step}
use Rattle.native_format.specs.Nibbles.{nibbles, numbers_after, numbers, numbers_len, groups, packed}
use Rattle.native_format.specs.NibbleSteps.{IsLost, ReadsNumber, nibble_after, numbers_from}

-- ---- nibbles by their place

pub length-nibbles : (bytes : List ℕ) → length (nibbles bytes) ≡ 2 * length bytes
unfolding nibbles
length-nibbles [] = refl
length-nibbles (b ∷ bytes) = omega (arith, length-nibbles bytes)

-- the nibble at a place: the low or the high half of its byte
abbrev pub nibble_of : ℕ → ℕ → ℕ
nibble_of k byte = cond (eqb (k % 2) 0) (byte % 16) (byte / 16)

no_byte : (b : Bool) → zero ≡ cond b 0 0
no_byte true = refl
no_byte false = refl

pub nibble_at : (bytes : List ℕ) (k : ℕ) → get_or (nibbles bytes) k 0 ≡ nibble_of k (get_or bytes (k / 2) 0)
unfolding nibbles
nibble_at [] k = no_byte (eqb (k % 2) 0)
nibble_at (b ∷ bytes) zero = refl
nibble_at (b ∷ bytes) (suc zero) = refl
nibble_at (b ∷ bytes) (suc (suc k)) =
    let half : suc (suc k) / 2 ≡ suc (k / 2) = omega arith in
    let odd : suc (suc k) % 2 ≡ k % 2 = omega arith in
    rw (half, odd) (nibble_at bytes k)

pub low_nibble : (bytes : List ℕ) (k : ℕ) → k % 2 ≡ 0 → get_or bytes (k / 2) 0 % 16 ≡ get_or (nibbles bytes) k 0
low_nibble bytes k even = sym (nibble_at bytes k ∙ rw (eq-eqb (k % 2) 0 even) refl)

pub high_nibble : (bytes : List ℕ) (k : ℕ) → (k % 2 ≡ 0 → ⊥) → get_or bytes (k / 2) 0 / 16 ≡ get_or (nibbles bytes) k 0
high_nibble bytes k odd = sym (nibble_at bytes k ∙ rw (ne_eqb (k % 2) 0 odd) refl)

pub nibbles-drop : (at : ℕ) (bytes : List ℕ) → drop (2 * at) (nibbles bytes) ≡ nibbles (drop at bytes)
unfolding nibbles
nibbles-drop zero bytes = refl
nibbles-drop (suc at) [] = let e : 2 * suc at ≡ suc (suc (2 * at)) = omega arith in rw e refl
nibbles-drop (suc at) (b ∷ bytes) = let e : 2 * suc at ≡ suc (suc (2 * at)) = omega arith in rw e (nibbles-drop at bytes)

pub nibbles-append : (xs ys : List ℕ) → nibbles (xs ++ ys) ≡ nibbles xs ++ nibbles ys
unfolding nibbles
nibbles-append [] ys = refl
nibbles-append (x ∷ xs) ys = ap (λ (t : List ℕ). (x % 16) ∷ (x / 16) ∷ t) (nibbles-append xs ys)

-- ---- the next nibble of a number

pub numbers_last : (high n : ℕ) (ns : List ℕ) → n < 8 → numbers_after high (n ∷ ns) ≡ (8 * high + n) ∷ numbers ns
unfolding numbers_after
numbers_last high n ns h = rw (lt-ltb n 8 h) refl

pub numbers_more : (high n : ℕ) (ns : List ℕ) → 8 ≤ n → numbers_after high (n ∷ ns) ≡ numbers_after (8 * high + (n - 8)) ns
unfolding numbers_after
numbers_more high n ns h = rw (le-ltb n 8 h) refl

-- a number whose upper bits are too many already is too wide, or cut off
pub lost : (high : ℕ) (ns : List ℕ) → 2 ^ 32 ≤ high → IsLost (numbers_after high ns)
unfolding numbers_after
lost high [] h = tt
lost high (n ∷ ns) h =
    elim (cases_lt n 8) [
      | inl lt ↦ rw (numbers_last high n ns lt) (omega arith)
      | inr le ↦ rw (numbers_more high n ns le) (lost (8 * high + (n - 8)) ns (omega arith))
    ]

pub next_is : (bytes : List ℕ) (high at n : ℕ) → n ≡ get_or (nibbles bytes) at 0 → at < 2 * length bytes
    → numbers_after high (drop at (nibbles bytes)) ≡ numbers_after high (n ∷ drop (at + 1) (nibbles bytes))
next_is bytes high at n is h =
    rw (drop_more (nibbles bytes) at 0 (omega (arith, length-nibbles bytes)), is) refl

-- ---- how many nibbles numbers have

len_zero : (at : ℕ) (ns : List ℕ) → at + numbers_len 0 ns ≡ at
unfolding numbers_len
len_zero at ns = omega arith

len_last : (k n : ℕ) (ns : List ℕ) → n < 8 → numbers_len (suc k) (n ∷ ns) ≡ 1 + numbers_len k ns
unfolding numbers_len
len_last k n ns h = rw (lt-ltb n 8 h) refl

len_marked : (k n : ℕ) (ns : List ℕ) → 8 ≤ n → numbers_len (suc k) (n ∷ ns) ≡ 1 + numbers_len (suc k) ns
unfolding numbers_len
len_marked k n ns h = rw (le-ltb n 8 h) refl

-- the nibble at a place ends a number, or more of it follows
len_ends : (bytes : List ℕ) (at n k : ℕ) → n ≡ get_or (nibbles bytes) at 0 → at < 2 * length bytes → n < 8
    → nibble_after (suc k) bytes at ≡ nibble_after k bytes (at + 1)
len_ends bytes at n k is h lt =
    let after = drop (at + 1) (nibbles bytes) in
    let here : drop at (nibbles bytes) ≡ n ∷ after = rw (drop_more (nibbles bytes) at 0 (omega (arith, length-nibbles bytes)), is) refl in
    let one : numbers_len (suc k) (drop at (nibbles bytes)) ≡ 1 + numbers_len k after =
    ap (numbers_len (suc k)) here ∙ len_last k n after lt in
    omega (arith, one)

pub len_more : (bytes : List ℕ) (at n k : ℕ) → n ≡ get_or (nibbles bytes) at 0 → at < 2 * length bytes → 8 ≤ n
    → nibble_after (suc k) bytes at ≡ nibble_after (suc k) bytes (at + 1)
len_more bytes at n k is h le =
    let after = drop (at + 1) (nibbles bytes) in
    let here : drop at (nibbles bytes) ≡ n ∷ after = rw (drop_more (nibbles bytes) at 0 (omega (arith, length-nibbles bytes)), is) refl in
    let one : numbers_len (suc k) (drop at (nibbles bytes)) ≡ 1 + numbers_len (suc k) after =
    ap (numbers_len (suc k)) here ∙ len_marked k n after le in
    omega (arith, one)

len_nothing : (k : ℕ) → numbers_len k [] ≡ 0
unfolding numbers_len
len_nothing zero = refl
len_nothing (suc k) = refl

len_none : (ns : List ℕ) → numbers_len 0 ns ≡ 0
unfolding numbers_len
len_none ns = refl

drop_next : (m n : ℕ) (ns : List ℕ) → drop (1 + m) (n ∷ ns) ≡ drop m ns
drop_next m n ns =
    let next : 1 + m ≡ suc m = omega arith in
    ap (λ i. drop i (n ∷ ns)) next

-- one nibble more before the rest
rest_is : (k m n first : ℕ) (ns : List ℕ) → first ≡ 1 + m → numbers_len k (drop first (n ∷ ns)) ≡ numbers_len k (drop m ns)
rest_is k m n first ns e = ap (λ i. numbers_len k (drop i (n ∷ ns))) e ∙ ap (numbers_len k) (drop_next m n ns)

-- some numbers, and then others
pub len_both : (j k : ℕ) (ns : List ℕ) → numbers_len (j + k) ns ≡ numbers_len j ns + numbers_len k (drop (numbers_len j ns) ns)
len_both zero k ns =
    let sum : 0 + k ≡ k = omega arith in
    let whole : numbers_len (0 + k) ns ≡ numbers_len k ns = ap (λ i. numbers_len i ns) sum in
    let rest : numbers_len k (drop (numbers_len 0 ns) ns) ≡ numbers_len k ns = ap (λ i. numbers_len k (drop i ns)) (len_none ns) in
    omega (arith, whole, rest, len_none ns)
len_both (suc j) k [] =
    let none = len_nothing (suc j) in
    let rest : numbers_len k (drop (numbers_len (suc j) []) []) ≡ numbers_len k [] = ap (λ i. numbers_len k (drop i [])) none in
    omega (arith, len_nothing (suc j + k), none, rest, len_nothing k)
len_both (suc j) k (n ∷ ns) =
    let sum : suc j + k ≡ suc (j + k) = omega arith in
    let again : numbers_len (suc j + k) (n ∷ ns) ≡ numbers_len (suc (j + k)) (n ∷ ns) = ap (λ i. numbers_len i (n ∷ ns)) sum in
    elim (cases_lt n 8) [
      | inl lt ↦
          let first = len_last j n ns lt in
          omega (arith, again, len_last (j + k) n ns lt, first, rest_is k (numbers_len j ns) n _ ns first, len_both j k ns)
      | inr le ↦
          let first = len_marked j n ns le in
          let same : numbers_len (suc j + k) ns ≡ numbers_len (suc (j + k)) ns = ap (λ i. numbers_len i ns) sum in
          omega (
            arith,
            again,
            same,
            len_marked (j + k) n ns le,
            first,
            rest_is k (numbers_len (suc j) ns) n _ ns first,
            len_both (suc j) k ns,
          )
    ]

pub after_both : (bytes : List ℕ) (start mid after j k : ℕ) → mid ≡ nibble_after j bytes start → after ≡ nibble_after k bytes mid
    → after ≡ nibble_after (j + k) bytes start
after_both bytes start mid after j k one two =
    let ns = drop start (nibbles bytes) in
    let there : drop (numbers_len j ns) ns ≡ drop mid (nibbles bytes) =
    drop-drop (numbers_len j ns) start (nibbles bytes) ∙ ap (λ n. drop n (nibbles bytes)) (sym one) in
    let sum = len_both j k ns ∙ ap (λ l. numbers_len j ns + numbers_len k l) there in
    omega (arith, one, two, sum)

-- what one nibble more leaves to be read, by the first number that was to be read
pub too_wide : (bytes : List ℕ) (high at n : ℕ) (all : List ℕ) → n ≡ get_or (nibbles bytes) at 0 → n < 16 → at < 2 * length bytes
    → 2 ^ 32 ≤ high * 8 + n % 8 → numbers_after high (drop at (nibbles bytes)) ≡ all → IsLost all
too_wide bytes high at n all is narrow h wide e =
    let after = drop (at + 1) (nibbles bytes) in
    let one = sym (next_is bytes high at n is h) ∙ e in
    elim (cases_lt n 8) [
      | inl lt ↦ rw (← one, numbers_last high n after lt) (omega arith)
      | inr le ↦ rw (← one, numbers_more high n after le) (lost (8 * high + (n - 8)) after (omega arith))
    ]

pub goes_on : (bytes : List ℕ) (high at n : ℕ) (all : List ℕ) → n ≡ get_or (nibbles bytes) at 0 → n < 16 → at < 2 * length bytes
    → 8 ≤ n → numbers_after high (drop at (nibbles bytes)) ≡ all → numbers_after (high * 8 + n % 8) (drop (at + 1) (nibbles bytes)) ≡ all
goes_on bytes high at n all is narrow h le e =
    let value : high * 8 + n % 8 ≡ 8 * high + (n - 8) = omega arith in
    rw value (sym (numbers_more high n (drop (at + 1) (nibbles bytes)) le)) ∙ sym (next_is bytes high at n is h) ∙ e

pub ends : (bytes : List ℕ) (high at n start : ℕ) → n ≡ get_or (nibbles bytes) at 0 → at < 2 * length bytes → n < 8 → start ≤ at
    → high * 8 + n % 8 < 2 ^ 32
    → numbers_after high (drop at (nibbles bytes)) ≡ numbers_from bytes start → nibble_after 1 bytes at ≡ nibble_after 1 bytes start
    → ReadsNumber bytes start (high * 8 + n % 8) (at + 1)
ends bytes high at n start is h lt le fits e same =
    let value : high * 8 + n % 8 ≡ 8 * high + n = omega arith in
    record {
      further = omega arith;
      within = omega arith;
      fits = fits;
      numbers_are = sym e ∙ next_is bytes high at n is h ∙ rw value (numbers_last high n (drop (at + 1) (nibbles bytes)) lt);
      after_is = sym (len_ends bytes at n 0 is h lt ∙ len_zero (at + 1) (drop (at + 1) (nibbles bytes))) ∙ same;
    }

pub cut : (bytes : List ℕ) (high at : ℕ) (all : List ℕ) → 2 * length bytes ≤ at → numbers_after high (drop at (nibbles bytes)) ≡ all
    → IsLost all
unfolding numbers_after
cut bytes high at all h e =
    let nothing : drop at (nibbles bytes) ≡ [] = drop_all at (nibbles bytes) (omega (arith, length-nibbles bytes)) in
    let one : [] ≡ all = rw nothing at e in
    rw (← one) tt

-- ---- what is written

pub numbers_marked : (high : ℕ) (ds tail : List ℕ) → AllBelowBase 8 ds
    → numbers_after high (map (λ d. 8 + d) ds ++ tail) ≡ numbers_after (number_from_digits_after 8 high ds) tail
numbers_marked high [] tail h = refl
numbers_marked high (d ∷ ds) tail h =
    let value : 8 * high + (8 + d - 8) ≡ high * 8 + d = omega arith in
    numbers_more high (8 + d) (map (λ d. 8 + d) ds ++ tail) (omega arith) ∙ rw value (numbers_marked (high * 8 + d) ds tail h.1)

pub numbers_groups : (v : ℕ) (tail : List ℕ) → numbers (groups v ++ tail) ≡ v ∷ numbers tail
unfolding groups
numbers_groups v tail =
    let ds = digits_of 8 (v / 8) in
    let regrouped : (map (λ d. 8 + d) ds ++ (v % 8) ∷ []) ++ tail ≡ map (λ d. 8 + d) ds ++ ((v % 8) ∷ tail) =
    append_assoc (map (λ d. 8 + d) ds) ((v % 8) ∷ []) tail in
    let upper : number_from_digits_after 8 0 ds ≡ v / 8 = number_digits_of 8 (v / 8) (omega arith) in
    let whole : 8 * (v / 8) + v % 8 ≡ v = omega arith in
    ap numbers regrouped ∙ numbers_marked 0 ds ((v % 8) ∷ tail) (all_below_base_digits_of 8 (v / 8) (omega arith))
    ∙ ap (λ (h : ℕ). numbers_after h ((v % 8) ∷ tail)) upper ∙ numbers_last (v / 8) (v % 8) tail (omega arith)
    ∙ ap (λ (x : ℕ). x ∷ numbers tail) whole

pub numbers_written : (vs tail : List ℕ) → numbers (flat_map groups vs ++ tail) ≡ vs ++ numbers tail
numbers_written [] tail = refl
numbers_written (v ∷ vs) tail =
    ap numbers (append_assoc (groups v) (flat_map groups vs) tail) ∙ numbers_groups v (flat_map groups vs ++ tail)
    ∙ ap (λ (ns : List ℕ). v ∷ ns) (numbers_written vs tail)

abbrev pub AreNibbles : List ℕ → Type 0
AreNibbles ns = AllByRecursion (λ n. n < 16) ns

AreNibbles-append : (xs ys : List ℕ) → AreNibbles xs → AreNibbles ys → AreNibbles (xs ++ ys)
AreNibbles-append [] ys p q = q
AreNibbles-append (x ∷ xs) ys p q = (p.0, AreNibbles-append xs ys p.1 q)

marked_are : (ds : List ℕ) → AllBelowBase 8 ds → AreNibbles (map (λ d. 8 + d) ds)
marked_are [] h = tt
marked_are (d ∷ ds) h = (omega (arith, h.0), marked_are ds h.1)

groups_are : (v : ℕ) → AreNibbles (groups v)
unfolding groups
groups_are v = AreNibbles-append _ _ (marked_are (digits_of 8 (v / 8)) (all_below_base_digits_of 8 (v / 8) (omega arith))) (omega arith, tt)

pub written_are : (vs : List ℕ) → AreNibbles (flat_map groups vs)
written_are [] = tt
written_are (v ∷ vs) = AreNibbles-append (groups v) (flat_map groups vs) (groups_are v) (written_are vs)

-- the nibbles of packed bytes: those that were packed, and perhaps a 0
pub nibbles_packed : (ns : List ℕ) → AreNibbles ns → (pad : List ℕ) × (nibbles (packed ns) ≡ ns ++ pad)
unfolding packed nibbles
nibbles_packed [] h = ([], refl)
nibbles_packed (low ∷ []) h =
    let is : low % 16 ≡ low = omega (arith, h.0) in
    let none : low / 16 ≡ 0 = omega (arith, h.0) in
    (0 ∷ [], rw (is, none) refl)
nibbles_packed (low ∷ high ∷ ns) h =
    let others = nibbles_packed ns h.1.1 in
    let is : (low + 16 * high) % 16 ≡ low = omega (arith, h.0) in
    let upper : (low + 16 * high) / 16 ≡ high = omega (arith, h.0) in
    (others.0, rw (is, upper) (ap (λ (t : List ℕ). low ∷ high ∷ t) others.1))

-- whole bytes and perhaps one low nibble
pub packed_nibbles : (bytes tail : List ℕ) → packed (nibbles bytes ++ tail) ≡ bytes ++ packed tail
unfolding packed nibbles
packed_nibbles [] tail = refl
packed_nibbles (b ∷ bytes) tail =
    let whole : b % 16 + 16 * (b / 16) ≡ b = omega arith in
    rw whole (ap (λ (t : List ℕ). b ∷ t) (packed_nibbles bytes tail))

-- ---- the fewest groups

-- v is below a * 8 ^ (k + 1), P being 8 ^ k
last_below : (a k v : ℕ) → v < 8 * a → v < a * 8 ^ suc k
last_below a k v h = let some : 0 < 8 ^ k = one-le-pow k 8 (omega arith) in rw pow-suc (omega (arith, le-mul_of_pos_right a some))

more_below : (a b k v : ℕ) → b ≤ 8 * a → v < b * 8 ^ k → v < a * 8 ^ suc k
more_below a b k v le h = rw pow-suc (omega (arith, mul-le-mul_left (8 ^ k) le))

below : (high : ℕ) (ns : List ℕ) (v : ℕ) → AreNibbles ns → numbers_after high ns ≡ v ∷ [] → v < (high + 1) * 8 ^ length ns
unfolding numbers_after
below high [] v h e = absurd (let x : ⊥ = cc in x)
below high (n ∷ ns) v h e =
    elim (cases_lt n 8) [
      | inl lt ↦
          let one : (8 * high + n) ∷ numbers ns ≡ v ∷ [] = sym (numbers_last high n ns lt) ∙ e in
          let v-is : 8 * high + n ≡ v = cc in
          last_below (high + 1) (length ns) v (omega arith)
      | inr le ↦
          let more = below (8 * high + (n - 8)) ns v h.1 (sym (numbers_more high n ns le) ∙ e) in
          more_below (high + 1) (8 * high + (n - 8) + 1) (length ns) v (omega (arith, h.0)) more
    ]

pub fewest : (v : ℕ) (ns : List ℕ) → AreNibbles ns → numbers ns ≡ v ∷ [] → length (groups v) ≤ length ns
unfolding groups numbers_after
fewest v [] h e = absurd (let x : ⊥ = cc in x)
fewest v (n ∷ ns) h e =
    let k = length ns in
    let all : v < 1 * 8 ^ suc k = below 0 (n ∷ ns) v h e in
    let upper : v < 8 ^ k * 8 = omega (arith, all, pow-suc 8 k) in
    let few = length-digits_of-le 8 k (v / 8) (omega arith) (omega (arith, upper)) in
    omega (arith, few, length-append (map (λ d. 8 + d) (digits_of 8 (v / 8))) ((v % 8) ∷ []), length-map (digits_of 8 (v / 8)) (λ d. 8 + d))

pub groups_alone : (v : ℕ) → numbers (groups v) ≡ v ∷ []
unfolding numbers_after
groups_alone v = ap numbers (sym (append-nil (groups v))) ∙ numbers_groups v []

pub are_nibbles : (ns : List ℕ) → ((i : ℕ) → get_or ns i 0 < 16) → AreNibbles ns
are_nibbles [] h = tt
are_nibbles (n ∷ ns) h = (h 0, are_nibbles ns (λ i. h (suc i)))

-- ---- the nibble writer: whole bytes, and perhaps one low nibble

pub empty_writer : (bytes : List ℕ) → bytes ≡ [] → nibbles bytes ++ [] ≡ []
unfolding nibbles
empty_writer bytes e = rw e refl

pub paired : (bytes new now : List ℕ) (half : Option ℕ) (low n : ℕ) → half ≡ Some low → IfSome half (λ k. k < 16) → n < 16
    → new ≡ bytes ++ (low + 16 * n) ∷ []
    → now ≡ nibbles bytes ++ option_to_list half → nibbles new ++ [] ≡ now ++ n ∷ []
unfolding nibbles
paired bytes new now half low n half-is narrow small new-is now-is =
    let low_small : low < 16 = subst (λ (o : Option ℕ). IfSome o (λ k. k < 16)) half-is narrow in
    let low-is : (low + 16 * n) % 16 ≡ low = omega arith in
    let high-is : (low + 16 * n) / 16 ≡ n = omega arith in
    let now-is' : now ≡ nibbles bytes ++ low ∷ [] = now-is ∙ ap (λ (o : Option ℕ). nibbles bytes ++ option_to_list o) half-is in
    append-nil (nibbles new) ∙ ap nibbles new-is ∙ nibbles-append bytes ((low + 16 * n) ∷ [])
    ∙ rw (low-is, high-is, now-is', append_assoc) refl

pub finished_half : (bytes new now : List ℕ) (half : Option ℕ) (low : ℕ) → half ≡ Some low → new ≡ bytes ++ low ∷ []
    → now ≡ nibbles bytes ++ option_to_list half → new ≡ packed now
unfolding packed
finished_half bytes new now half low half-is new-is now-is =
    new-is ∙ sym (ap packed (now-is ∙ ap (λ (o : Option ℕ). nibbles bytes ++ option_to_list o) half-is) ∙ packed_nibbles bytes (low ∷ []))

pub finished_whole : (bytes now : List ℕ) (half : Option ℕ) → half ≡ None → now ≡ nibbles bytes ++ option_to_list half → bytes ≡ packed now
unfolding packed
finished_whole bytes now half half-is now-is =
    sym (ap packed (now-is ∙ ap (λ (o : Option ℕ). nibbles bytes ++ option_to_list o) half-is) ∙ packed_nibbles bytes [] ∙ append-nil bytes)

-- the octal digits of a number, with 8 added to each
pub marked_step : (v : ℕ) → 0 < v → map (λ d. 8 + d) (digits_of 8 v) ≡ map (λ d. 8 + d) (digits_of 8 (v / 8)) ++ (8 + v % 8) ∷ []
marked_step v some =
    ap (map (λ d. 8 + d)) (digits_of_step 8 v (omega arith) some) ∙ map-append (λ d. 8 + d) (digits_of 8 (v / 8)) ((v % 8) ∷ [])

-- one piece put after another
pub both_put : (old mid new x y : List ℕ) → new ≡ mid ++ y → mid ≡ old ++ x → new ≡ old ++ (x ++ y)
both_put old mid new x y p q = p ∙ ap (λ (l : List ℕ). l ++ y) q ∙ append_assoc old x y

-- ---- how many

-- a number below 8 has one group, and every other has one more than an eighth of it
pub group_one : (v : ℕ) → v < 8 → length (groups v) ≡ 1
unfolding groups
group_one v h = let none : v / 8 ≡ 0 = omega arith in rw none refl

pub group_more : (v : ℕ) → 8 ≤ v → length (groups v) ≡ 1 + length (groups (v / 8))
unfolding groups
group_more v h =
    let all = length-append (map (λ d. 8 + d) (digits_of 8 (v / 8))) (v % 8 ∷ []) in
    let others = length-append (map (λ d. 8 + d) (digits_of 8 (v / 8 / 8))) (v / 8 % 8 ∷ []) in
    let marked = length-map (digits_of 8 (v / 8)) (λ d. 8 + d) in
    let fewer = length-map (digits_of 8 (v / 8 / 8)) (λ d. 8 + d) in
    omega (arith, all, others, marked, fewer, length-digits_of_step 8 (v / 8) (omega arith) (omega arith))

-- a number of 32 bits has 11 at most
pub groups_few : (v : ℕ) → v < 2 ^ 32 → length (groups v) ≤ 11
unfolding groups
groups_few v h =
    let all = length-append (map (λ d. 8 + d) (digits_of 8 (v / 8))) (v % 8 ∷ []) in
    let marked = length-map (digits_of 8 (v / 8)) (λ d. 8 + d) in
    omega (arith, all, marked, length-digits_of-le 8 10 (v / 8) (omega arith) (omega arith))

-- two nibbles in a byte
pub length-packed : (ns : List ℕ) → length (packed ns) ≡ (length ns + 1) / 2
unfolding packed
length-packed [] = omega arith
length-packed (low ∷ []) = omega arith
length-packed (low ∷ high ∷ ns) = omega (arith, length-packed ns)

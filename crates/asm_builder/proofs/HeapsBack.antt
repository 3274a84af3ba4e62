-- Texts, blobs and user strings in a heap, read back at the length of what is before them, whatever follows.
use Rattle.std.proofs.Common.{◌≡◌, ◌<◌, ◌+◌, ◌-◌, ◌*◌, ◌%◌, ◌^◌, ◌++◌, ℕ, suc, Bool, true, false, not, cond}
use Rattle.std.proofs.Common.{List, [], ◌∷◌, length, take, drop, Some, None, refl, sym, ap, ◌∙◌, arith}
use Rattle.std.proofs.Common.{append_assoc, length-append}
use Rattle.std.specs.Prelude.{◌==◌, IsTrue, nat_le, nat_lt, slice_get}
use Rattle.std.specs.List.{list_any, flat_map, position_or_len}
use Rattle.std.specs.Option.{option_and_then}
use Rattle.std.specs.Str.{is_utf8}
use Rattle.std.proofs.lemmas.Bool.{and_parts, eq-eqb, le-leb, le-ltb, lt-ltb, not-true, or_parts}
use Rattle.std.proofs.lemmas.List.{drop_at, take_at}
use Rattle.rtr_bytes.specs.Compressed.{IsCompressed, compressed_bytes, compressed_in}
use Rattle.metadata.specs.Heaps.{blob_in, counted, front_if, text_in, text_of, without_last}
use Rattle.rtr_bytes.proofs.Spellings.{compressed_spells}
use Rattle.asm_builder.specs.Cells.{is_empty, unit_bytes, user_heap, user_string_bytes, user_string_end}
use Rattle.asm_builder.specs.Content.{blob_bytes, text_bytes}
use Rattle.asm_builder.specs.Sound.{is_name}
use Rattle.asm_builder.proofs.Strings.{length-tail, length-units, string_split, string_tail}

-- ---- texts

abbrev is_zero : ℕ → Bool
is_zero b = b == 0

place_step : (x : ℕ) (xs : List ℕ) → is_zero x ≡ false → position_or_len is_zero (x ∷ xs) ≡ 1 + position_or_len is_zero xs
place_step x xs e = ap (λ b. cond (not b) (1 + position_or_len is_zero xs) 0) e

place_of : (text rest : List ℕ) → list_any is_zero text ≡ false → position_or_len is_zero (text ++ 0 ∷ rest) ≡ length text
place_of [] rest e = refl
place_of (x ∷ xs) rest e =
    let parts = or_parts (is_zero x) (list_any is_zero xs) e in
    let ih = place_of xs rest parts.1 in
    place_step x (xs ++ 0 ∷ rest) parts.0 ∙ omega (arith, ih)

text_found : (text rest : List ℕ) → IsTrue (is_name text) → text_in (text ++ 0 ∷ rest) ≡ Some text
unfolding text_in
text_found text rest name =
    let parts = and_parts (is_utf8 text) (not (list_any is_zero text)) name in
    let nonzero = not-true (list_any is_zero text) parts.1 in
    let place = place_of text rest nonzero in
    let whole = length-append text (0 ∷ rest) in
    let within : nat_lt (position_or_len is_zero (text ++ 0 ∷ rest)) (length (text ++ 0 ∷ rest)) ≡ true =
    lt-ltb _ _ (omega (arith, place, whole)) in
    ap (λ b. option_and_then (λ n. text_of (take n (text ++ 0 ∷ rest)))
    (cond b (Some (position_or_len is_zero (text ++ 0 ∷ rest))) None)) within
    ∙ ap (λ n. text_of (take n (text ++ 0 ∷ rest))) place
    ∙ ap text_of (take_at text (0 ∷ rest) (length text) refl)
    ∙ ap (λ b. cond b (Some text) None) parts.0

pub text_back : (before text rest : List ℕ) → IsTrue (is_name text) → is_empty text ≡ false
    → text_in (drop (length before) (before ++ (text_bytes text ++ rest))) ≡ Some text
text_back before text rest name some =
    ap text_in (drop_at before (text_bytes text ++ rest) (length before) refl)
    ∙ ap (λ b. text_in (cond b [] (text ++ 0 ∷ []) ++ rest)) some
    ∙ ap text_in (append_assoc text (0 ∷ []) rest)
    ∙ text_found text rest name

-- ---- blobs

spelled_in : (s rest : List ℕ) (n : ℕ) → IsCompressed s n → compressed_in (s ++ rest) ≡ Some (n, length s)
spelled_in [] rest n h = absurd h
spelled_in (a ∷ []) rest n h = rw (lt-ltb a 0x80 h.0) (ap (λ x. Some (x, 1)) (sym h.1))
spelled_in (a ∷ b ∷ []) rest n h = rw (le-ltb a 0x80 h.0) (rw (lt-ltb a 0xC0 h.1) (ap (λ x. Some (x, 2)) (sym h.3)))
spelled_in (a ∷ b ∷ c ∷ []) rest n h = absurd h
spelled_in (a ∷ b ∷ c ∷ d ∷ []) rest n h =
    rw (le-ltb a 0x80 (omega (arith, h.0))) (rw (le-ltb a 0xC0 h.0) (rw (lt-ltb a 0xE0 h.1) (ap (λ x. Some (x, 4)) (sym h.5))))
spelled_in (a ∷ b ∷ c ∷ d ∷ e ∷ s) rest n h = absurd h

written_in : (n : ℕ) (rest : List ℕ) → n < 2 ^ 29 → compressed_in (compressed_bytes n ++ rest) ≡ Some (n, length (compressed_bytes n))
written_in n rest small = spelled_in (compressed_bytes n) rest n (compressed_spells n small)

pub counted_back : (blob rest : List ℕ) → length blob < 2 ^ 29 → blob_in (compressed_bytes (length blob) ++ (blob ++ rest)) ≡ Some blob
unfolding blob_in
counted_back blob rest small =
    let size = compressed_bytes (length blob) in
    let whole = length-append blob rest in
    let fits : nat_le (length blob) (length (blob ++ rest)) ≡ true = le-leb _ _ (omega (arith, whole)) in
    ap (option_and_then (counted (size ++ (blob ++ rest)))) (written_in (length blob) (blob ++ rest) small)
    ∙ ap (front_if (length blob)) (drop_at size (blob ++ rest) (length size) refl)
    ∙ ap (λ b. cond b (Some (take (length blob) (blob ++ rest))) None) fits
    ∙ ap (λ (l : List ℕ). Some l) (take_at blob rest (length blob) refl)

pub blob_back : (before blob rest : List ℕ) → length blob < 2 ^ 29 → is_empty blob ≡ false
    → blob_in (drop (length before) (before ++ (blob_bytes blob ++ rest))) ≡ Some blob
blob_back before blob rest small some =
    ap blob_in (drop_at before (blob_bytes blob ++ rest) (length before) refl)
    ∙ ap (λ b. blob_in (cond b [] (compressed_bytes (length blob) ++ blob) ++ rest)) some
    ∙ ap blob_in (append_assoc (compressed_bytes (length blob)) blob rest)
    ∙ counted_back blob rest small

-- ---- user strings

without_end : (units : List ℕ) → without_last (string_tail units) ≡ Some (unit_bytes units)
without_end units =
    let count = length-tail units in
    let odd : (length (string_tail units) % 2 == 1) ≡ true = eq-eqb _ _ (omega (arith, count)) in
    let front : length (string_tail units) - 1 ≡ length (unit_bytes units) = let bytes =
    length-units units in omega (arith, count, bytes) in
    ap (λ b. cond b (Some (take (length (string_tail units) - 1) (string_tail units))) None) odd
    ∙ ap (λ n. Some (take n (string_tail units))) front
    ∙ ap (λ (l : List ℕ). Some l) (take_at (unit_bytes units) (user_string_end units ∷ []) (length (unit_bytes units)) refl)

string_read : (units rest : List ℕ) → length (string_tail units) < 2 ^ 29
    → option_and_then without_last (blob_in (user_string_bytes units ++ rest)) ≡ Some (unit_bytes units)
string_read units rest small =
    let tail = string_tail units in
    let count = length-tail units in
    ap (λ (l : List ℕ). option_and_then without_last (blob_in l))
    (append_assoc (compressed_bytes (2 * length units + 1)) (string_tail units) rest)
    ∙ ap (λ n. option_and_then without_last (blob_in (compressed_bytes n ++ (string_tail units ++ rest)))) (sym count)
    ∙ ap (option_and_then without_last) (counted_back (string_tail units) rest small)
    ∙ without_end units

pub user_string_back : (strings : List (List ℕ)) (rest : List ℕ) (i : ℕ) (units : List ℕ) → slice_get strings i ≡ Some units
    → length (user_heap strings) < 2 ^ 24
    → option_and_then without_last (blob_in (drop (length (user_heap (take i strings))) (user_heap strings ++ rest)))
    ≡ Some (unit_bytes units)
user_string_back strings rest i units e small =
    let before = flat_map user_string_bytes (take i strings) in
    let after = flat_map user_string_bytes (drop (suc i) strings) in
    let split = string_split strings i units e in
    let all = ap (λ (l : List ℕ). length l) split in
    let sum = length-append before (user_string_bytes units ++ after) in
    let own = length-append (user_string_bytes units) after in
    let tail = length-append (compressed_bytes (2 * length units + 1)) (string_tail units) in
    let placed : user_heap strings ++ rest ≡ user_heap (take i strings) ++ (user_string_bytes units ++ (after ++ rest)) =
    ap (λ (l : List ℕ). (0 ∷ l) ++ rest) split
    ∙ append_assoc (0 ∷ before) (user_string_bytes units ++ after) rest
    ∙ ap (λ (l : List ℕ). (0 ∷ before) ++ l) (append_assoc (user_string_bytes units) after rest) in
    ap (λ (l : List ℕ). option_and_then without_last (blob_in (drop (length (user_heap (take i strings))) l))) placed
    ∙ ap (λ (l : List ℕ). option_and_then without_last (blob_in l))
    (drop_at (user_heap (take i strings)) (user_string_bytes units ++ (after ++ rest)) (length (user_heap (take i strings))) refl)
    ∙ string_read units (after ++ rest) (omega (arith, all, sum, own, tail, small))

-- The lengths of user strings, and their places in the heap.
use Rattle.std.proofs.Common.{◌≡◌, ◌≤◌, ◌<◌, ◌+◌, ◌*◌, ◌^◌, ℕ, zero, suc, List, [], ◌∷◌, ◌++◌, length, take, drop, Some}
use Rattle.std.proofs.Common.{sym, ap, ◌∙◌, arith, append_assoc, length-append}
use Rattle.std.specs.Prelude.{◌&&◌, IsTrue, nat_lt, slice_get}
use Rattle.std.specs.List.{flat_map}
use Rattle.std.proofs.lemmas.Bool.{and_parts, ltb-true}
use Rattle.std.proofs.lemmas.List.{append-nil}
use Rattle.std.proofs.lemmas.List.Concat.{flat_map-append}
use Rattle.rtr_bytes.specs.Compressed.{compressed_bytes}
use Rattle.asm_builder.specs.Asked.{Asked, with_user_string}
use Rattle.asm_builder.specs.Content.{all_after, no_heaps}
use Rattle.asm_builder.specs.Sound.{are_small_heaps, code_size, is_small}
use Rattle.asm_builder.specs.Cells.{tables_of, unit_bytes, user_heap, user_string_bytes, user_string_end}

-- the bytes after the length
abbrev pub string_tail : List ℕ → List ℕ
string_tail units = unit_bytes units ++ user_string_end units ∷ []

pub length-units : (units : List ℕ) → length (unit_bytes units) ≡ 2 * length units
length-units [] = omega arith
length-units (u ∷ units) = let rest = length-units units in omega (arith, rest)

pub length-tail : (units : List ℕ) → length (string_tail units) ≡ 2 * length units + 1
length-tail units =
    let sum = length-append (unit_bytes units) (user_string_end units ∷ []) in
    let bytes = length-units units in
    omega (arith, sum, bytes)

pub length-string : (units : List ℕ)
    → length (user_string_bytes units) ≡ length (compressed_bytes (2 * length units + 1)) + (2 * length units + 1)
length-string units =
    let sum = length-append (compressed_bytes (2 * length units + 1)) (string_tail units) in
    let tail = length-tail units in
    omega (arith, sum, tail)

-- what is before a string, and what is after it
pub string_split : (strings : List (List ℕ)) (i : ℕ) (units : List ℕ) → slice_get strings i ≡ Some units
    → flat_map user_string_bytes strings
    ≡ flat_map user_string_bytes (take i strings) ++ (user_string_bytes units ++ flat_map user_string_bytes (drop (suc i) strings))
string_split [] i units e = absurd (let h : ⊥ = cc in h)
string_split (x ∷ xs) zero units e = let same : x ≡ units =
    cc in ap (λ (u : List ℕ). user_string_bytes u ++ flat_map user_string_bytes xs) same
string_split (x ∷ xs) (suc i) units e =
    ap (λ (l : List ℕ). user_string_bytes x ++ l) (string_split xs i units e)
    ∙ sym (append_assoc (user_string_bytes x) (flat_map user_string_bytes (take i xs))
    (user_string_bytes units ++ flat_map user_string_bytes (drop (suc i) xs)))

pub string_part : (strings : List (List ℕ)) (i : ℕ) (units : List ℕ) → slice_get strings i ≡ Some units
    → 2 * length units + 1 ≤ length (flat_map user_string_bytes strings)
string_part strings i units e =
    let before = flat_map user_string_bytes (take i strings) in
    let after = flat_map user_string_bytes (drop (suc i) strings) in
    let all = ap (λ (l : List ℕ). length l) (string_split strings i units e) in
    let sum = length-append before (user_string_bytes units ++ after) in
    let rest = length-append (user_string_bytes units) after in
    let own = length-string units in
    omega (arith, all, sum, rest, own)

-- one string more
pub heap_more : (strings : List (List ℕ)) (units : List ℕ)
    → length (user_heap (strings ++ units ∷ [])) ≡ length (user_heap strings) + length (user_string_bytes units)
heap_more strings units =
    let all = ap (λ (l : List ℕ). length l) (flat_map-append user_string_bytes strings (units ∷ [])) in
    let sum = length-append (flat_map user_string_bytes strings) (user_string_bytes units ++ []) in
    let last = ap (λ (l : List ℕ). length l) (append-nil (user_string_bytes units)) in
    omega (arith, all, sum, last)

-- where there is room for it
pub room_for : (asked : Asked) (units : List ℕ) → IsTrue (is_small (with_user_string asked units))
    → length (user_heap asked.user_strings) + length (user_string_bytes units) < 2 ^ 24
room_for asked units small =
    let all = with_user_string asked units in
    let rest =
    and_parts (are_small_heaps (all_after no_heaps (tables_of all)))
    (nat_lt (length (user_heap all.user_strings)) (2 ^ 24) && nat_lt (code_size all.methods) (2 ^ 24)) small in
    let here = and_parts (nat_lt (length (user_heap all.user_strings)) (2 ^ 24)) (nat_lt (code_size all.methods) (2 ^ 24)) rest.1 in
    let below = ltb-true (length (user_heap (asked.user_strings ++ units ∷ []))) (2 ^ 24) here.0 in
    let sum = heap_more asked.user_strings units in
    omega (arith, below, sum)

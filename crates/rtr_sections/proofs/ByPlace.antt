-- Numbers by their place in bytes.
use Rattle.std.proofs.Common.{◌≡◌, ℕ, ◌+◌, ◌≤◌, List, ◌++◌, length, take, drop, Option, Some, refl, sym, ap, ◌∙◌, arith, length-drop}
use Rattle.std.proofs.Common.{length-take}
use Rattle.std.specs.Prelude.{unwrap_or}
use Rattle.std.proofs.lemmas.Bool.{le-leb}
use Rattle.std.proofs.lemmas.List.{drop-drop, take-append-drop, drop-append-le, length-take-le}
use Rattle.byteorder.specs.Endian.{little_number}
use Rattle.byteorder.specs.Numbers.{little_from-append}
use Rattle.rtr_bytes.specs.Field.{field_at, u32_of}

pub field_at-is : (k : ℕ) (bytes : List ℕ) (place : ℕ) → place + k ≤ length bytes
    → field_at k bytes place ≡ Some (little_number k (drop place bytes))
field_at-is k bytes place h = rw (le-leb (place + k) (length bytes) h) refl

-- a field of the CLI header, in the file and in the part that it was copied from
pub same_field : (out part : List ℕ) (place i j : ℕ) → i + 72 ≤ length part → j + 4 ≤ 72
    → take 72 (drop place out) ≡ take 72 (drop i part) → u32_of out (place + j) ≡ u32_of part (i + j)
same_field out part place i j inside fits same =
    let front = take 72 (drop i part) in
    let front_len : length front ≡ 72 = length-take-le 72 (drop i part) (omega (arith, length-drop i part)) in
    let out_len : length (take 72 (drop place out)) ≡ 72 = ap (λ (t : List ℕ). length t) same ∙ front_len in
    let long : place + j + 4 ≤ length out = omega (arith, out_len, length-take 72 (drop place out), length-drop place out) in
    let part_long : i + j + 4 ≤ length part = omega arith in
    let of_out : drop (place + j) out ≡ drop j front ++ drop 72 (drop place out) =
    sym (drop-drop j place out)
    ∙ ap (λ (t : List ℕ). drop j t) (sym (take-append-drop 72 (drop place out)) ∙ ap (λ (t : List ℕ). t ++ drop 72 (drop place out)) same)
    ∙ drop-append-le j front (drop 72 (drop place out)) (omega (arith, front_len)) in
    let of_part : drop (i + j) part ≡ drop j front ++ drop 72 (drop i part) =
    sym (drop-drop j i part) ∙ ap (λ (t : List ℕ). drop j t) (sym (take-append-drop 72 (drop i part)))
    ∙ drop-append-le j front (drop 72 (drop i part)) (omega (arith, front_len)) in
    let four : 4 ≤ length (drop j front) = omega (arith, front_len, length-drop j front) in
    let number : little_number 4 (drop (place + j) out) ≡ little_number 4 (drop (i + j) part) =
    ap (λ (t : List ℕ). little_number 4 t) of_out ∙ little_from-append 4 (drop j front) (drop 72 (drop place out)) four
    ∙ sym (ap (λ (t : List ℕ). little_number 4 t) of_part ∙ little_from-append 4 (drop j front) (drop 72 (drop i part)) four) in
    ap (λ (t : Option ℕ). unwrap_or t 0) (field_at-is 4 out (place + j) long ∙ ap (λ (t : ℕ). Some t) number
    ∙ sym (field_at-is 4 part (i + j) part_long))

-- Registers, SP and the program counter stay below 2^64, and flags below 16.
use Rattle.std.proofs.Common.{◌≡◌, ◌<◌, ◌≤◌, ℕ, zero, suc, ◌+◌, ◌-◌, ◌*◌, ◌/◌, ◌%◌, ◌^◌, ◌==◌, ◌&&◌, not, Bool, true, false, cond, Option, Some, None, refl, sym, ap, ◌∙◌, subst, arith}
use Rattle.std.proofs.Common.{nat_lt, nat_le, if◌then◌else◌, IsTrue, bit_and, bit_or, bit_xor, leb-true, eqb}
use Rattle.std.proofs.lemmas.Nat.{mod_below, and_le_l, or_lt, xor_lt, shr_below, shl_below, shr_le, pow_pos, pow-add, mul-lt, mul-add-lt}
use Rattle.std.proofs.lemmas.Bool.Decides.{nat_tests}
use Rattle.std.proofs.Math.Nat.{div-le_self}
use Rattle.std.proofs.Math.Pow.{pow_mono}
use Rattle.a64_code.specs.Words.{width}
use Rattle.a64_meaning.specs.Numbers.{low, extended, is_negative, inverted, bit, nzcv, Sum, sum_flags, plus, minus, shifted, shifted_right_signed, rotated_right, logical}
use Rattle.a64_meaning.specs.Numbers.{multiplied, long_product, high_product, magnitude, quotient, quotient_signed, bit_field, field_bits, field_of, moved_wide, same_bool}

-- ---- numbers

pub chosen : (k : ℕ) (c : Bool) (p q : ℕ) → p < k → q < k → (if c then p else q) < k
chosen k true p q x y = x
chosen k false p q x y = y

pub by_width : (P : ℕ → Type 0) → P 32 → P 64 → (base : ℕ) → P (width base)
by_width P p q base = by_bit (base % 2 == 0)
  where
    by_bit : (c : Bool) → P (cond c 32 64)
    by_bit true = p
    by_bit false = q

-- a number of at most 64 bits is a word
pub word : (bits n : ℕ) → bits ≤ 64 → n < 2 ^ bits → n < 2 ^ 64
word bits n few small = let wide : 2 ^ bits ≤ 2 ^ 64 = pow_mono few in omega (arith, wide, small)

pub width_few : (base : ℕ) → width base ≤ 64
width_few base = by_width (λ bits. bits ≤ 64) (omega arith) (omega arith) base

pub low_below : (bits n : ℕ) → low bits n < 2 ^ bits
low_below bits n = mod_below n (2 ^ bits) (pow_pos bits)

bit_small : (c : Bool) → bit c ≤ 1
bit_small true = omega arith
bit_small false = omega arith

pub flags_below : (n z c v : Bool) → nzcv n z c v < 16
flags_below n z c v = omega (arith, bit_small n, bit_small z, bit_small c, bit_small v)

pub extended_below : (bits to n : ℕ) → bits ≤ to → n < 2 ^ bits → extended bits to n < 2 ^ to
extended_below bits to n few small =
    let wide : 2 ^ bits ≤ 2 ^ to = pow_mono few in
    chosen (2 ^ to) (is_negative bits n) _ _ (omega (arith, wide, small)) (omega (arith, wide, small))

pub inverted_below : (bits n : ℕ) → inverted bits n < 2 ^ bits
inverted_below bits n = let some : 0 < 2 ^ bits = pow_pos bits in omega (arith, some)

-- ---- shifts

parts : (bits amount : ℕ) → amount < bits → 2 ^ ((bits - amount) + amount) ≡ 2 ^ bits
parts bits amount few = let e : (bits - amount) + amount ≡ bits = omega (arith, few) in ap (λ k. 2 ^ k) e

right_below : (bits n amount : ℕ) → amount < bits → n < 2 ^ bits → n / 2 ^ amount < 2 ^ (bits - amount)
right_below bits n amount few small = shr_below n (bits - amount) amount (subst (λ k. n < k) (sym (parts bits amount few)) small)

signed_below : (bits n amount : ℕ) → amount < bits → n < 2 ^ bits → shifted_right_signed bits n amount < 2 ^ bits
signed_below bits n amount few small =
    let top : 2 ^ (bits - amount) ≤ 2 ^ bits = pow_mono (let e : bits - amount ≤ bits = omega arith in e) in
    chosen (2 ^ bits) (is_negative bits n) _ _ (omega (arith, top, right_below bits n amount few small)) (omega (arith, top, right_below bits n amount few small))

turned_below : (bits n amount : ℕ) → amount < bits → n < 2 ^ bits → rotated_right bits n amount < 2 ^ bits
turned_below bits n amount few small =
    let whole : 2 ^ (bits - amount) * 2 ^ amount ≡ 2 ^ bits = sym (pow-add 2 (bits - amount) amount) ∙ parts bits amount few in
    let turned = mul-add-lt (n % 2 ^ amount) (2 ^ (bits - amount)) (n / 2 ^ amount) (2 ^ amount) (low_below amount n) (right_below bits n amount few small) in
    omega (arith, turned, whole)

pub shifted_below : (bits kind n amount : ℕ) → amount < bits → n < 2 ^ bits → shifted bits kind n amount < 2 ^ bits
unfolding shifted
shifted_below bits kind n amount few small =
    chosen (2 ^ bits) (kind == 0) _ _ (low_below bits (n * 2 ^ amount))
    (chosen (2 ^ bits) (kind == 1) _ _ (let less : n / 2 ^ amount ≤ n = div-le_self n (2 ^ amount) in omega (arith, less, small))
    (chosen (2 ^ bits) (kind == 2) _ _ (signed_below bits n amount few small) (turned_below bits n amount few small)))

pub logical_below : (kind x y : ℕ) → x < 2 ^ 64 → y < 2 ^ 64 → logical kind x y < 2 ^ 64
unfolding logical
logical_below kind x y p q =
    chosen (2 ^ 64) (kind == 0) _ _ (let less : bit_and x y ≤ x = and_le_l x y in omega (arith, less, p))
    (chosen (2 ^ 64) (kind == 1) _ _ (or_lt 64 x y p q) (xor_lt 64 x y p q))

-- ---- products and quotients

pub multiplied_below : (bits kind a x y : ℕ) → multiplied bits kind a x y < 2 ^ bits
unfolding multiplied
multiplied_below bits kind a x y =
    chosen (2 ^ bits) (kind == 0) _ _ (low_below bits (a + x * y)) (low_below bits (a + (2 ^ bits - low bits (x * y))))

pub long_below : (kind x y : ℕ) → x < 2 ^ 32 → y < 2 ^ 32 → long_product kind x y < 2 ^ 64
unfolding long_product
long_below kind x y p q = chosen (2 ^ 64) (kind == 0) _ _ (low_below 64 (extended 32 64 x * extended 32 64 y)) (mul-lt x y (2 ^ 32) (2 ^ 32) p q)

pub high_below : (kind x y : ℕ) → x < 2 ^ 64 → y < 2 ^ 64 → high_product kind x y < 2 ^ 64
unfolding high_product
high_below kind x y p q =
    chosen (2 ^ 64) (kind == 0) _ _
    (shr_below (low 128 (extended 64 128 x * extended 64 128 y)) 64 64 (low_below 128 (extended 64 128 x * extended 64 128 y)))
    (shr_below (x * y) 64 64 (mul-lt x y (2 ^ 64) (2 ^ 64) p q))

magnitude_below : (x : ℕ) (bits : ℕ) → 0 < bits → x < 2 ^ bits → magnitude bits x < 2 ^ bits
magnitude_below x bits some small =
    by_sign (nat_le (2 ^ (bits - 1)) x) refl
  where
    by_sign : (c : Bool) → nat_le (2 ^ (bits - 1)) x ≡ c → (if c then 2 ^ bits - x else x) < 2 ^ bits
    by_sign false e = small
    by_sign true e =
        let positive : 0 < 2 ^ (bits - 1) = pow_pos (bits - 1) in
        let large : 2 ^ (bits - 1) ≤ x = leb-true (2 ^ (bits - 1)) x e in
        omega (arith, positive, large, small)

pub quotient_below : (bits kind x y : ℕ) → 0 < bits → x < 2 ^ bits → quotient bits kind x y < 2 ^ bits
unfolding quotient
quotient_below bits kind x y some small =
    let positive : 0 < 2 ^ bits = pow_pos bits in
    let less : x / y ≤ x = div-le_self x y in
    let size : magnitude bits x / magnitude bits y ≤ magnitude bits x = div-le_self (magnitude bits x) (magnitude bits y) in
    let top : magnitude bits x < 2 ^ bits = magnitude_below x bits some small in
    chosen (2 ^ bits) (y == 0) _ _ positive
    (chosen (2 ^ bits) (kind == 0) _ _
    (chosen (2 ^ bits) (same_bool (is_negative bits x) (is_negative bits y)) _ _ (omega (arith, size, top)) (low_below bits (2 ^ bits - magnitude bits x / magnitude bits y)))
    (omega (arith, less, small)))

-- ---- bit fields

field_below : (bits immr imms n : ℕ) → immr < bits → imms < bits
    → (field_of bits immr imms n < 2 ^ field_bits bits immr imms) × (field_bits bits immr imms ≤ bits)
field_below bits immr imms n p q = by_place (nat_le immr imms) refl
  where
    by_place : (c : Bool) → nat_le immr imms ≡ c
        → ((if c then n / 2 ^ immr % 2 ^ (imms - immr + 1) else n % 2 ^ (imms + 1) * 2 ^ (bits - immr))
        < 2 ^ (if c then imms - immr + 1 else imms + 1 + (bits - immr))) × ((if c then imms - immr + 1 else imms + 1 + (bits - immr)) ≤ bits)
    by_place true e = (low_below (imms - immr + 1) (n / 2 ^ immr), let few : imms - immr + 1 ≤ bits = omega (arith, q) in few)
    by_place false e =
        let after : imms < immr = grind (arith, nat_tests) in
        (shl_below (n % 2 ^ (imms + 1)) (imms + 1) (bits - immr) (low_below (imms + 1) n), let few : imms + 1 + (bits - immr) ≤ bits = omega (arith, after, p) in few)

pub bit_field_below : (bits kind immr imms n : ℕ) → immr < bits → imms < bits → bit_field bits kind immr imms n < 2 ^ bits
unfolding bit_field
bit_field_below bits kind immr imms n p q =
    let f = field_below bits immr imms n p q in
    let wide : 2 ^ field_bits bits immr imms ≤ 2 ^ bits = pow_mono f.1 in
    let small : field_of bits immr imms n < 2 ^ field_bits bits immr imms = f.0 in
    chosen (2 ^ bits) (kind == 0) _ _ (extended_below (field_bits bits immr imms) bits (field_of bits immr imms n) f.1 f.0) (omega (arith, wide, small))

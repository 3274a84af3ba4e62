-- The bytes that a number was read from.
use Rattle.std.proofs.Common.{◌≡◌, ℕ, zero, suc, ◌+◌, ◌*◌, ◌/◌, ◌%◌, ◌^◌, ◌<◌, ◌≤◌, List, [], ◌∷◌, length, take, refl, sym, ap, ◌∙◌, arith}
use Rattle.std.proofs.Math.Nat.{div-div-eq-div-mul, div-one, pow-succ'}
use Rattle.std.proofs.lemmas.List.{append-nil, take_all}
use Rattle.std.specs.Int.{byte_at, bytes_low_first}
use Rattle.byteorder.specs.Endian.{little_bytes, little_from, little_number}
use Rattle.byteorder.specs.Numbers.{length-bytes_low_first, little_from-cons, little_from-bytes}
use Rattle.cil_decode.specs.Bodies.{AreBytes}

-- bytes but the first one
pub bytes_rest : (b : ℕ) (bytes : List ℕ) → AreBytes (b ∷ bytes) → AreBytes bytes
bytes_rest b bytes h = λ i. h (suc i)

-- a byte above the lowest one
byte_above : (j x w : ℕ) → x < 256 → byte_at (suc j) (x + 256 * w) ≡ byte_at j w
byte_above zero x w h = omega arith
byte_above (suc j) x w h =
    let k = 256 ^ suc j in
    let shifted : (x + 256 * w) / 256 ≡ w = omega arith in
    let quotient : (x + 256 * w) / 256 ^ suc (suc j) ≡ w / k =
    ap (λ n. (x + 256 * w) / n) (pow-succ' 256 (suc j)) ∙ sym (div-div-eq-div-mul (x + 256 * w) 256 k) ∙ ap (λ n. n / k) shifted in
    ap (λ n. n % 256) quotient

bytes_above : (j n x w : ℕ) → x < 256 → bytes_low_first (suc j) n (x + 256 * w) ≡ bytes_low_first j n w
bytes_above j zero x w h = refl
bytes_above j (suc n) x w h = rw (byte_above j x w h, bytes_above (suc j) n x w h) refl

-- the bytes of the number in some bytes are those bytes
pub bytes_of_number : (n : ℕ) (bytes : List ℕ) → AreBytes bytes → n ≤ length bytes → little_bytes n (little_number n bytes) ≡ take n bytes
bytes_of_number zero bytes h few = refl
bytes_of_number (suc n) [] h few = absurd (omega arith)
bytes_of_number (suc n) (b ∷ bytes) h few =
    let below : b < 256 = h 0 in
    let moved : little_from 1 n (b ∷ bytes) ≡ little_from 0 n bytes = little_from-cons 0 n b bytes in
    let number : little_number (suc n) (b ∷ bytes) ≡ b + 256 * little_number n bytes = ap (λ m. b + 256 * m) moved in
    let first : (b + 256 * little_number n bytes) % 256 ≡ b = omega arith in
    let rest = bytes_above 0 n b (little_number n bytes) below ∙ bytes_of_number n bytes (bytes_rest b bytes h) (omega arith) in
    rw (number, first, rest) refl

byte_below : (j x : ℕ) → byte_at j x < 256
byte_below zero x = omega arith
byte_below (suc j) x = omega arith

are_bytes : (j n x : ℕ) → AreBytes (bytes_low_first j n x)
are_bytes j zero x i = omega arith
are_bytes j (suc n) x zero = byte_below j x
are_bytes j (suc n) x (suc i) = are_bytes (suc j) n x i

-- the low bytes of a number are those of its remainder
pub low_bytes : (n x y : ℕ) → x % 256 ^ n ≡ y → little_bytes n x ≡ little_bytes n y
low_bytes n x y e =
    let bytes = little_bytes n x in
    let few = length-bytes_low_first 0 n x in
    let number : little_number n bytes ≡ y =
    ap (little_number n) (sym (append-nil bytes)) ∙ little_from-bytes n 0 x [] ∙ ap (λ m. m % 256 ^ n) (div-one x) ∙ e in
    sym (take_all n bytes (omega (arith, few)))
    ∙ sym (bytes_of_number n bytes (are_bytes 0 n x) (omega (arith, few)))
    ∙ ap (little_bytes n) number

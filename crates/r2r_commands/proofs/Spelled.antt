-- Numbers that are spelled as they are printed.
use Rattle.std.proofs.Common.{◌≡◌, ℕ, suc, ◌<◌, ◌^◌, List, get_or, Some, None, Bool, true, false, refl}
use Rattle.std.proofs.Common.{subst, arith, ltb-true, ne_eqb, Result, Ok, Err, is_ok, ℤ, pos, negsuc, FitsSigned}
use Rattle.std.specs.Prelude.{◌&&◌, if◌then◌else◌}
use Rattle.std.specs.Int.{IsInRange, w128}
use Rattle.std.specs.Fmt.{decimal, signed_decimal}
use Rattle.std.specs.Str.{bytes_eq}
use Rattle.std.specs.Str.Parse.{IsNumeral, ParsesSigned, without_leading_sign, signed_digits_value}
use Rattle.std.proofs.lemmas.Fmt.{decimal_is_IsNumeral}
use Rattle.std.proofs.lemmas.Str.Parse.{digit_at}
use Rattle.std.proofs.lemmas.Slice.Eq.{bytes_eq-Decides}
use Rattle.r2r_commands.specs.RunWords.{is_in_range, number_of, spelled}

-- a text that begins with a digit has no sign
no_sign : (text : List ℕ) → IsInRange 48 57 (get_or text 0 0) → without_leading_sign text ≡ text
no_sign text (low, high) =
    rw (ne_eqb (get_or text 0 0) 45 (λ e. omega arith), ne_eqb (get_or text 0 0) 43 (λ e. omega arith)) refl

-- what is printed of a number in range is read as a number
numeral : (number : ℤ) → is_in_range number ≡ true → IsNumeral 10 (without_leading_sign (signed_decimal number))
numeral (pos n) h =
    let digits = (decimal_is_IsNumeral n (ltb-true n (2 ^ 64) h)).0 in
    let first = digit_at (decimal n) 0 digits.1 digits.0 in
    rw (no_sign (decimal n) first) digits
numeral (negsuc n) h =
    let small : n < 2 ^ 63 = ltb-true n (2 ^ 63) h in
    (decimal_is_IsNumeral (suc n) (omega arith)).0

fits : (number : ℤ) → is_in_range number ≡ true → FitsSigned w128 number
fits (pos n) h = let small : n < 2 ^ 64 = ltb-true n (2 ^ 64) h in record { sfits = omega arith }
fits (negsuc n) h = let small : n < 2 ^ 63 = ltb-true n (2 ^ 63) h in record { sfits = omega arith }

-- a word that isn't read as a number is none
not_spelled : (word : List ℕ) (number : ℤ) → ¬ (IsNumeral 10 (without_leading_sign word) × FitsSigned w128 number)
    → spelled word number ≡ None
not_spelled word number bad = by_tests (bytes_eq (signed_decimal number) word) (is_in_range number) refl refl
  where
    by_tests : (x y : Bool) → bytes_eq (signed_decimal number) word ≡ x → is_in_range number ≡ y
        → (if x && y then Some number else None) ≡ None
    by_tests true true e f =
        let same : signed_decimal number ≡ word = (bytes_eq-Decides (signed_decimal number) word).0 e in
        let digits = subst (λ (text : List ℕ). IsNumeral 10 (without_leading_sign text)) same (numeral number f) in
        absurd (bad (digits, fits number f))
    by_tests true false e f = refl
    by_tests false y e f = refl

pub no_number : {E : Type 0} (word : List ℕ) (read : Result ℤ E) → ParsesSigned w128 10 word read → is_ok read ≡ false
    → number_of word ≡ None
no_number word (Ok number) h e = absurd cc
no_number word (Err error) h e = not_spelled word (signed_digits_value 10 word) h

spelled_fits : (word : List ℕ) (number read : ℤ) → spelled word number ≡ Some read → FitsSigned w128 read
spelled_fits word number read h = by_tests (bytes_eq (signed_decimal number) word) (is_in_range number) refl h
  where
    by_tests : (x y : Bool) → is_in_range number ≡ y → (if x && y then Some number else None) ≡ Some read → FitsSigned w128 read
    by_tests true true f e =
        let same : number ≡ read = cc in
        subst (λ (n : ℤ). FitsSigned w128 n) same (fits number f)
    by_tests true false f e = absurd cc
    by_tests false y f e = absurd cc

-- a number has 128 bits
pub number_fits : (word : List ℕ) (number : ℤ) → number_of word ≡ Some number → FitsSigned w128 number
number_fits word number h = spelled_fits word (signed_digits_value 10 word) number h

-- Fields that share no bit: what they hold is what was put there, and the fixed bits and they are all of a word.
use Rattle.std.proofs.Common.{◌≡◌, ◌<◌, ◌≤◌, ◌+◌, ◌-◌, ◌*◌, ◌/◌, ◌%◌, ◌^◌, ◌==◌, ◌&&◌, ℕ, Bool, true, false, List, []}
use Rattle.std.proofs.Common.{◌∷◌, refl, sym, ap, ap₂, ◌∙◌, subst, arith, bit_and}
use Rattle.std.proofs.lemmas.Bool.{eqb-true}
use Rattle.std.proofs.Math.Nat.{mod-eq_of_lt}
use Rattle.std.specs.Int.Bits.{and_zero_r}
use Rattle.std.proofs.lemmas.Nat.{and_comm, and_le_r, pow_pos, and-not, shl-shr, mod_below}
use Rattle.std.proofs.lemmas.Nat.Bits.{and_high}
use Rattle.a64_code.proofs.Bits.{apart_within, masked_sum, sum_masked, sum_below}
use Rattle.a64_code.specs.Table.{Field}
use Rattle.a64_code.specs.Words.{held, covered, mask, spread, Fit}

pub both : (a b : Bool) → (a && b) ≡ true → (a ≡ true) × (b ≡ true)
both true b h = (refl, h)
both false b h = absurd (cc)

-- the bits of one field
abbrev pub span : Field → ℕ
span field = 2 ^ (field.width + field.place) - 2 ^ field.place

-- no two fields share a bit
abbrev pub are_apart : List Field → Bool
are_apart [] = true
are_apart (field ∷ fields) = (bit_and (span field) (covered fields) == 0) && are_apart fields

pub head_apart : (field : Field) (fields : List Field) → are_apart (field ∷ fields) ≡ true → bit_and (span field) (covered fields) ≡ 0
head_apart field fields h = eqb-true _ _ (both _ _ h).0

pub tail_apart : (field : Field) (fields : List Field) → are_apart (field ∷ fields) ≡ true → are_apart fields ≡ true
tail_apart field fields h = (both (bit_and (span field) (covered fields) == 0) _ h).1

-- the bits of a word that fields cover are what they hold, at their places
pub covered_bits : (word : ℕ) (fields : List Field) → are_apart fields ≡ true
    → bit_and word (covered fields) ≡ spread fields (held word fields)
covered_bits word [] h = and_zero_r word
covered_bits word (field ∷ fields) h =
    sum_masked word (span field) (covered fields) (head_apart field fields h)
    ∙ ap₂ (λ a b. a + b) (and_high word field.width field.place) (covered_bits word fields (tail_apart field fields h))

-- what a field holds fits it
pub held_fit : (word : ℕ) (fields : List Field) → Fit fields (held word fields)
held_fit word [] = tt
held_fit word (field ∷ fields) =
    (mod_below (word / 2 ^ field.place) (2 ^ field.width) (pow_pos field.width), held_fit word fields)

-- a value at its place is within the field
within_span : (field : Field) (value : ℕ) → value < 2 ^ field.width
    → bit_and (value * 2 ^ field.place) (span field) ≡ value * 2 ^ field.place
within_span field value h =
    and_high (value * 2 ^ field.place) field.width field.place
    ∙ ap (λ x. x % 2 ^ field.width * 2 ^ field.place) (shl-shr value field.place)
    ∙ ap (λ x. x * 2 ^ field.place) (small value (2 ^ field.width) h)
  where
    small : (n m : ℕ) → n < m → n % m ≡ n
    small n m below = mod-eq_of_lt below

-- two numbers, each within one of two masks that share no bit
abbrev pub Apart : ℕ → ℕ → Type 0
Apart m n = bit_and m n ≡ 0

pub across : (a b m n : ℕ) → bit_and a m ≡ a → bit_and b n ≡ b → Apart m n → Apart a b
across a b m n p q apart =
    apart_within a m b p (and_comm m b ∙ apart_within b n m q (and_comm n m ∙ apart))

pub within_sum : (a b m n : ℕ) → bit_and a m ≡ a → bit_and b n ≡ b → Apart m n → bit_and (a + b) (m + n) ≡ a + b
within_sum a b m n p q apart =
    masked_sum a b (m + n) (across a b m n p q apart)
    ∙ ap₂ (λ x y. x + y) (sum_masked a m n apart ∙ ap₂ (λ x y. x + y) p (apart_within a m n p apart))
    (sum_masked b m n apart ∙ ap₂ (λ x y. x + y) (apart_within b n m q (and_comm n m ∙ apart)) q)
    ∙ ends a b
  where
    ends : (x y : ℕ) → x + 0 + (0 + y) ≡ x + y
    ends x y = omega arith

-- values that fit are within the bits of their fields
pub spread_within : (fields : List Field) (values : List ℕ) → are_apart fields ≡ true → Fit fields values
    → bit_and (spread fields values) (covered fields) ≡ spread fields values
spread_within [] [] h fit = refl
spread_within (field ∷ fields) (value ∷ values) h fit =
    within_sum (value * 2 ^ field.place) (spread fields values) (span field) (covered fields)
    (within_span field value fit.0) (spread_within fields values (tail_apart field fields h) fit.1) (head_apart field fields h)
spread_within [] (value ∷ values) h fit = absurd fit
spread_within (field ∷ fields) [] h fit = absurd fit

-- only one list of values that fit has a sum
same_value : (field : Field) (x y : ℕ) → x * 2 ^ field.place ≡ y * 2 ^ field.place → x ≡ y
same_value field x y e = sym (shl-shr x field.place) ∙ ap (λ n. n / 2 ^ field.place) e ∙ shl-shr y field.place

first_part : (field : Field) (fields : List Field) (value : ℕ) (values : List ℕ) → are_apart (field ∷ fields) ≡ true
    → Fit (field ∷ fields) (value ∷ values) → bit_and (spread (field ∷ fields) (value ∷ values)) (span field) ≡ value * 2 ^ field.place
first_part field fields value values h fit =
    let c = value * 2 ^ field.place in
    let r = spread fields values in
    let inside : bit_and c (span field) ≡ c = within_span field value fit.0 in
    let rest : bit_and r (covered fields) ≡ r = spread_within fields values (tail_apart field fields h) fit.1 in
    let apart : Apart (span field) (covered fields) = head_apart field fields h in
    masked_sum c r (span field) (across c r (span field) (covered fields) inside rest apart)
    ∙ ap₂ (λ x y. x + y) inside (apart_within r (covered fields) (span field) rest (and_comm (covered fields) (span field) ∙ apart))
    ∙ plus c
  where
    plus : (n : ℕ) → n + 0 ≡ n
    plus n = omega arith

pub spread_injective : (fields : List Field) (values others : List ℕ) → are_apart fields ≡ true → Fit fields values
    → Fit fields others → spread fields values ≡ spread fields others → values ≡ others
spread_injective [] [] [] h fit other e = refl
spread_injective (field ∷ fields) (value ∷ values) (other ∷ others) h fit fits e =
    let first : value * 2 ^ field.place ≡ other * 2 ^ field.place =
    sym (first_part field fields value values h fit) ∙ ap (λ x. bit_and x (span field)) e ∙ first_part field fields other others h fits in
    let rest : spread fields values ≡ spread fields others = omega (arith, first, e) in
    ap₂ (λ x xs. x ∷ xs) (same_value field value other first)
    (spread_injective fields values others (tail_apart field fields h) fit.1 fits.1 rest)
spread_injective [] (value ∷ values) others h fit other e = absurd fit
spread_injective [] [] (value ∷ values) h fit other e = absurd other
spread_injective (field ∷ fields) [] others h fit other e = absurd fit
spread_injective (field ∷ fields) (value ∷ values) [] h fit other e = absurd other

-- added to a number that shares no bit with the fields, values are what the fields hold
pub held_back : (fixed : ℕ) (fields : List Field) (values : List ℕ) → are_apart fields ≡ true → Fit fields values
    → Apart fixed (covered fields) → held (fixed + spread fields values) fields ≡ values
held_back fixed fields values h fit apart =
    let word = fixed + spread fields values in
    let inside : bit_and (spread fields values) (covered fields) ≡ spread fields values = spread_within fields values h fit in
    let shared : Apart fixed (spread fields values) =
    and_comm fixed (spread fields values)
    ∙ apart_within (spread fields values) (covered fields) fixed inside (and_comm (covered fields) fixed ∙ apart) in
    spread_injective fields (held word fields) values h (held_fit word fields) fit
    (sym (covered_bits word fields h) ∙ masked_sum fixed (spread fields values) (covered fields) shared
    ∙ ap₂ (λ x y. x + y) apart inside ∙ plus (spread fields values))
  where
    plus : (n : ℕ) → 0 + n ≡ n
    plus n = omega arith

-- a word is its fixed bits and what its fields hold
pub whole_word : (word : ℕ) (fields : List Field) → are_apart fields ≡ true → covered fields < 2 ^ 32 → word < 2 ^ 32
    → bit_and word (mask fields) + spread fields (held word fields) ≡ word
whole_word word fields h small within =
    ap₂ (λ x y. x + y) (and_comm word (mask fields)) (sym (covered_bits word fields h) ∙ and_comm word (covered fields))
    ∙ and-not 32 (covered fields) word small within

-- a base and values at their places are a word
pub word_below : (base : ℕ) (fields : List Field) (values : List ℕ) → are_apart fields ≡ true → covered fields < 2 ^ 32
    → base < 2 ^ 32 → Apart base (covered fields) → Fit fields values → base + spread fields values < 2 ^ 32
word_below base fields values h small within apart fit =
    let inside : bit_and (spread fields values) (covered fields) ≡ spread fields values = spread_within fields values h fit in
    let shared : Apart base (spread fields values) =
    and_comm base (spread fields values)
    ∙ apart_within (spread fields values) (covered fields) base inside (and_comm (covered fields) base ∙ apart) in
    let part : spread fields values ≤ covered fields =
    let P : ℕ → Type 0 = λ n. n ≤ covered fields in subst P inside (and_le_r (spread fields values) (covered fields)) in
    sum_below 32 base (spread fields values) shared within (omega arith)

-- the fixed bits of a base and values at their places are the base
pub fixed_bits : (base : ℕ) (fields : List Field) (values : List ℕ) → are_apart fields ≡ true → covered fields < 2 ^ 32
    → base < 2 ^ 32 → Apart base (covered fields) → Fit fields values → bit_and (base + spread fields values) (mask fields) ≡ base
fixed_bits base fields values h small within apart fit =
    let word = base + spread fields values in
    let below : word < 2 ^ 32 = word_below base fields values h small within apart fit in
    let e : held word fields ≡ values = held_back base fields values h fit apart in
    let all : bit_and word (mask fields) + spread fields values ≡ word =
    ap (λ vs. bit_and word (mask fields) + spread fields vs) (sym e) ∙ whole_word word fields h small below in
    omega (arith, all)

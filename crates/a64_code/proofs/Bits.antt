-- Numbers that share no bit, and what a mask keeps of their sum.
use Rattle.std.proofs.Common.{◌≡◌, ◌<◌, ◌+◌, ◌^◌, ℕ, min, max, sym, ap, ap₂, ◌∙◌, subst, arith, bit_and, bit_or}
use Rattle.std.specs.Int.Bits.{and_zero_l, and_zero_r}
use Rattle.std.specs.Int.{bit_at}
use Rattle.std.proofs.lemmas.Nat.{and_comm, and_assoc, or_disjoint, or_lt}
use Rattle.std.proofs.lemmas.Nat.Bits.{bit_at_and, bit_at_or, same_from_bits}

-- a number of the bits of m shares none with what shares none with m
pub apart_within : (x m n : ℕ) → bit_and x m ≡ x → bit_and m n ≡ 0 → bit_and x n ≡ 0
apart_within x m n inside apart =
    ap (λ y. bit_and y n) (sym inside) ∙ and_assoc n x m ∙ ap (bit_and x) apart ∙ and_zero_r x

-- a bit of a sum of two that share none, under a mask
split_bit : (a b m i : ℕ) → bit_at (bit_and (bit_or a b) m) i ≡ bit_at (bit_or (bit_and a m) (bit_and b m)) i
split_bit a b m i =
    bit_at_and (bit_or a b) m i
    ∙ ap (λ x. min x (bit_at m i)) (bit_at_or a b i)
    ∙ choice (bit_at a i) (bit_at b i) (bit_at m i)
    ∙ ap₂ max (sym (bit_at_and a m i)) (sym (bit_at_and b m i))
    ∙ sym (bit_at_or (bit_and a m) (bit_and b m) i)
  where
    choice : (x y z : ℕ) → min (max x y) z ≡ max (min x z) (min y z)
    choice x y z = omega arith

masked_apart : (a b m : ℕ) → bit_and a b ≡ 0 → bit_and (bit_and a m) (bit_and b m) ≡ 0
masked_apart a b m apart =
    and_assoc (bit_and b m) a m
    ∙ ap (bit_and a) (and_comm m (bit_and b m) ∙ and_assoc m b m)
    ∙ sym (and_assoc (bit_and m m) a b)
    ∙ ap (λ x. bit_and x (bit_and m m)) apart
    ∙ and_zero_l (bit_and m m)

-- a mask keeps of a sum the sum of what it keeps
pub masked_sum : (a b m : ℕ) → bit_and a b ≡ 0 → bit_and (a + b) m ≡ bit_and a m + bit_and b m
masked_sum a b m apart =
    ap (λ x. bit_and x m) (sym (or_disjoint a b apart))
    ∙ same_from_bits (bit_and (bit_or a b) m) (bit_or (bit_and a m) (bit_and b m)) (split_bit a b m)
    ∙ or_disjoint (bit_and a m) (bit_and b m) (masked_apart a b m apart)

-- and a sum of masks keeps the sum of what they keep
pub sum_masked : (x m n : ℕ) → bit_and m n ≡ 0 → bit_and x (m + n) ≡ bit_and x m + bit_and x n
sum_masked x m n apart =
    and_comm x (m + n) ∙ masked_sum m n x apart ∙ ap₂ (λ a b. a + b) (and_comm m x) (and_comm n x)

-- a sum of two that share no bit has as many bits as they
pub sum_below : (k a b : ℕ) → bit_and a b ≡ 0 → a < 2 ^ k → b < 2 ^ k → a + b < 2 ^ k
sum_below k a b apart p q = let P : ℕ → Type 0 = λ n. n < 2 ^ k in subst P (or_disjoint a b apart) (or_lt k a b p q)

-- Multiples of 512, and zeros up to one.
use Rattle.std.proofs.Common.{◌≡◌, ℕ, ◌+◌, ◌-◌, ◌<◌, ◌≤◌, List, ◌++◌, length, refl, arith, length-append}
use Rattle.std.specs.Prelude.{◌^◌, min, replicate}
use Rattle.std.proofs.lemmas.List.{length-replicate}
use Rattle.pe_image.specs.Places.{aligned}
use Rattle.pe_image.specs.Raw.{padded}

pub record IsAligned (place up : ℕ) : Type 0 where
  pub low : place ≤ up
  pub high : up < place + 512

pub aligned-512 : (n : ℕ) → IsAligned n (aligned 512 n)
unfolding aligned
aligned-512 n = record { low = omega arith; high = omega arith }

pub aligned-8192 : (n : ℕ) → aligned 8192 n < n + 8192
unfolding aligned
aligned-8192 n = omega arith

pub aligned-352 : aligned 512 352 ≡ 512
unfolding aligned
aligned-352 = omega arith

pub length-padded : (bytes : List ℕ) → length (padded bytes) ≡ aligned 512 (length bytes)
unfolding padded
length-padded bytes =
    let a = aligned-512 (length bytes) in
    omega (
      arith,
      a.low,
      length-append bytes (replicate (aligned 512 (length bytes) - length bytes) 0),
      length-replicate {A = ℕ}
          (aligned 512 (length bytes) - length bytes) 0,
    )

pub padded_begins : (bytes : List ℕ) → (zeros : List ℕ) × (padded bytes ≡ bytes ++ zeros)
unfolding padded
padded_begins bytes = (replicate (aligned 512 (length bytes) - length bytes) 0, refl)

-- a file is not too long exactly where its bodies and metadata have so many bytes at most, by a sum that stops at the last of its type
pub fits_by_sum : (bodies metadata sum : ℕ) → sum ≡ min (bodies + metadata) (2 ^ 64 - 1)
    → (sum ≤ 16_776_632 → 512 + aligned 512 (72 + bodies + metadata) ≤ 16_777_216)
    × (512 + aligned 512 (72 + bodies + metadata) ≤ 16_777_216 → sum ≤ 16_776_632)
unfolding aligned
fits_by_sum bodies metadata sum is = ((λ h. omega (arith, is, h)), (λ h. omega (arith, is, h)))

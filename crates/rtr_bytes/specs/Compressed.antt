-- Compressed unsigned integers (ECMA-335 II.23.2). A list of bytes is a list of numbers below 256.
use Rattle.std.specs.Prelude.{◌≡◌, ◌≤◌, ◌<◌, ℕ, ◌+◌, ◌-◌, ◌*◌, ◌^◌, nat_lt, if◌then◌else◌, List, [], ◌∷◌, drop, Option, Some, None}
use Rattle.std.specs.Option.{option_map}
use Rattle.byteorder.specs.Endian.{big_bytes}

-- The bytes spell the number, the most significant byte first: after a top bit 0 there are 7 bits, after
-- 10 there are 14 in two bytes, and after 110 there are 29 in four.
abbrev pub IsCompressed : List ℕ → ℕ → Type 0
IsCompressed (a ∷ []) n = (a < 0x80) × (n ≡ a)
IsCompressed (a ∷ b ∷ []) n = (0x80 ≤ a) × (a < 0xC0) × (b < 256) × (n ≡ (a - 0x80) * 256 + b)
IsCompressed (a ∷ b ∷ c ∷ d ∷ []) n =
    (0xC0 ≤ a) × (a < 0xE0) × (b < 256) × (c < 256) × (d < 256) × (n ≡ (((a - 0xC0) * 256 + b) * 256 + c) * 256 + d)
IsCompressed bytes n = ⊥

-- the shortest spelling of a number below 2^29
abbrev pub compressed_bytes : ℕ → List ℕ
compressed_bytes n =
    if nat_lt n (2 ^ 7) then n ∷ []
    else (if nat_lt n (2 ^ 14) then big_bytes 2 (0x8000 + n) else big_bytes 4 (0xC000_0000 + n))

-- ---- the number that bytes begin with, computed

abbrev pub two_bytes_in : ℕ → List ℕ → Option (ℕ × ℕ)
two_bytes_in a (b ∷ bytes) = Some ((a - 0x80) * 256 + b, 2)
two_bytes_in a bytes = None

abbrev pub four_bytes_in : ℕ → List ℕ → Option (ℕ × ℕ)
four_bytes_in a (b ∷ c ∷ d ∷ bytes) = Some ((((a - 0xC0) * 256 + b) * 256 + c) * 256 + d, 4)
four_bytes_in a bytes = None

-- the number, and how many bytes spell it; none where they are cut, or the first has the top bits 111
abbrev pub compressed_in : List ℕ → Option (ℕ × ℕ)
compressed_in [] = None
compressed_in (a ∷ bytes) =
    if nat_lt a 0x80 then Some (a, 1)
    else if nat_lt a 0xC0 then two_bytes_in a bytes
    else if nat_lt a 0xE0 then four_bytes_in a bytes
    else None

-- the number, and the bytes after it
abbrev pub number_in : List ℕ → Option (ℕ × List ℕ)
number_in bytes = option_map (λ found. (found.0, drop found.1 bytes)) (compressed_in bytes)

-- the number at a place, and the place after it
unfoldable pub compressed_at : List ℕ → ℕ → Option (ℕ × ℕ)
compressed_at bytes at = option_map (λ found. (found.0, at + found.1)) (compressed_in (drop at bytes))

-- Native integers (ReadyToRun File Format, "Native Format").
use Rattle.std.specs.Prelude.{◌≡◌, ℕ, ◌+◌, ◌*◌, ◌-◌, ◌/◌, ◌%◌, ◌^◌, ◌≤◌, ◌⊎◌, ◌==◌, List, ◌∷◌, length, take, drop, slice_index, Option}
use Rattle.std.specs.Prelude.{Some, None, nat_le, nat_lt, if◌then◌else◌}
use Rattle.std.specs.Option.{option_map}
use Rattle.byteorder.specs.Endian.{little_number, little_bytes}

-- n bytes hold a value above their n low bits, which are the form's mark
abbrev pub IsShifted : ℕ → ℕ → ℕ → List ℕ → Type 0
IsShifted n mark v s = (length s ≡ n) × (little_number n s ≡ 2 ^ n * v + mark)

-- five bytes: the first has the low bits 1111 and any upper bits, and the value is in the other four
abbrev pub IsLong : ℕ → List ℕ → Type 0
IsLong v s = (length s ≡ 5) × (slice_index s 0 % 16 ≡ 15) × (v ≡ little_number 4 (drop 1 s))

-- s spells v, in the form that the low bits of its first byte name: 0, 01, 011, 0111 or 1111
abbrev pub IsUint : ℕ → List ℕ → Type 0
IsUint v s = IsShifted 1 0 v s ⊎ (IsShifted 2 1 v s ⊎ (IsShifted 3 3 v s ⊎ (IsShifted 4 7 v s ⊎ IsLong v s)))

-- the bytes from one place up to another spell v
pub record IsUintBetween (bytes : List ℕ) (at v next : ℕ) : Type 0 where
  pub ordered : at ≤ next
  pub within : next ≤ length bytes
  pub spelled : IsUint v (take (next - at) (drop at bytes))

-- the shortest spelling
unfoldable pub short_uint : ℕ → List ℕ
short_uint v =
    if nat_lt v (2 ^ 7) then little_bytes 1 (2 * v)
    else if nat_lt v (2 ^ 14) then little_bytes 2 (4 * v + 1)
    else if nat_lt v (2 ^ 21) then little_bytes 3 (8 * v + 3)
    else if nat_lt v (2 ^ 28) then little_bytes 4 (16 * v + 7)
    else 0x0F ∷ little_bytes 4 v

-- The integer that bytes begin with, and how many of them spell it; none where it is cut.
abbrev pub shifted : ℕ → List ℕ → Option (ℕ × ℕ)
shifted n bytes = if nat_le n (length bytes) then Some (little_number n bytes / 2 ^ n, n) else None

abbrev pub long : List ℕ → Option (ℕ × ℕ)
long bytes = if nat_le 5 (length bytes) then Some (little_number 4 (drop 1 bytes), 5) else None

unfoldable pub leading_uint : List ℕ → Option (ℕ × ℕ)
leading_uint bytes =
    if slice_index bytes 0 % 2 == 0 then shifted 1 bytes
    else if slice_index bytes 0 % 4 == 1 then shifted 2 bytes
    else if slice_index bytes 0 % 8 == 3 then shifted 3 bytes
    else if slice_index bytes 0 % 16 == 7 then shifted 4 bytes
    else long bytes

-- the integer at a place, and the place after it
unfoldable pub uint_at : List ℕ → ℕ → Option (ℕ × ℕ)
uint_at bytes at = option_map (λ found. (found.0, at + found.1)) (leading_uint (drop at bytes))

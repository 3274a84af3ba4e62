-- Little-endian numbers by their place (PE/COFF 1, ECMA-335 II.24).
use Rattle.std.specs.Prelude.{ℕ, ◌+◌, List, length, drop, Option, Some, None, nat_le, if◌then◌else◌, unwrap_or}
use Rattle.byteorder.specs.Endian.{little_number}

-- the number in the n bytes from a place on, the lowest byte first; none where they pass the end
abbrev pub field_at : ℕ → List ℕ → ℕ → Option ℕ
field_at n bytes at = if nat_le (at + n) (length bytes) then Some (little_number n (drop at bytes)) else None

-- the fields of two and of four bytes, 0 where they pass the end
abbrev pub u16_of : List ℕ → ℕ → ℕ
u16_of bytes at = unwrap_or (field_at 2 bytes at) 0

abbrev pub u32_of : List ℕ → ℕ → ℕ
u32_of bytes at = unwrap_or (field_at 4 bytes at) 0

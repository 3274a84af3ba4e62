-- Parts of printed texts.
use Rattle.std.specs.Prelude.{ℕ, ◌==◌, ◌||◌, List, [], ◌∷◌, map, nat_lt, if◌then◌else◌}
use Rattle.std.specs.Int.{w16, w32, to_be_bytes}
use Rattle.hex.specs.Hex.{encode_lower}

-- numbers in lower-case hexadecimal, of four and of eight digits
abbrev pub hex4 : ℕ → List ℕ
hex4 n = encode_lower (to_be_bytes w16 n)

abbrev pub hex8 : ℕ → List ℕ
hex8 n = encode_lower (to_be_bytes w32 n)

-- a name of any kind, with a question mark for each control character
abbrev pub printed_name : List ℕ → List ℕ
printed_name name = map (λ b. if nat_lt b 0x20 || b == 0x7F then 0x3F else b) name

abbrev pub newline : List ℕ
newline = 10 ∷ []

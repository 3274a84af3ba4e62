-- The parts between commas, by where a comma is.
use Rattle.std.proofs.Common.{◌≡◌, ◌≢◌, ℕ, suc, ◌<◌, List, [], ◌∷◌, ◌++◌, length, get_or, Option, Some, None, refl}
use Rattle.std.proofs.Common.{arith, ne_eqb}
use Rattle.r2r_commands.specs.RunWords.{parts}

-- how much of a text is left, and one more where some is
abbrev pub rest_len : Option (List ℕ) → ℕ
rest_len None = 0
rest_len (Some text) = suc (length text)

-- the text has no comma
abbrev pub LacksComma : List ℕ → Type 0
LacksComma text = (i : ℕ) → i < length text → get_or text i 0 ≢ 0x2C

lacks_rest : (b : ℕ) (text : List ℕ) → LacksComma (b ∷ text) → LacksComma text
lacks_rest b text h i bound = h (suc i) (omega arith)

pub parts_none : (text : List ℕ) → LacksComma text → parts text ≡ text ∷ []
parts_none [] h = refl
parts_none (b ∷ text) h = rw (ne_eqb b 0x2C (h 0 (omega arith)), parts_none text (lacks_rest b text h)) refl

pub parts_some : (part rest : List ℕ) → LacksComma part → parts (part ++ 0x2C ∷ rest) ≡ part ∷ parts rest
parts_some [] rest h = refl
parts_some (b ∷ part) rest h = rw (ne_eqb b 0x2C (h 0 (omega arith)), parts_some part rest (lacks_rest b part h)) refl

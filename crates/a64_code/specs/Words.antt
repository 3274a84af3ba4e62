-- The word of an instruction, and the instruction of a word, over the table of rows.
use Rattle.std.specs.Prelude.{◌≡◌, ◌<◌, ◌+◌, ◌-◌, ◌*◌, ◌/◌, ◌%◌, ◌^◌, ◌==◌, ◌&&◌, ◌||◌, ℕ, Bool, true, false, not, cond}
use Rattle.std.specs.Prelude.{nat_lt, IsTrue, List, [], ◌∷◌, length, map, position, slice_index, bit_and, Option, Some}
use Rattle.std.specs.Prelude.{None, option_and_then}
use Rattle.std.specs.Option.{option_or}
use Rattle.a64_code.specs.declared.inst.Inst.{Inst}
use Rattle.a64_code.specs.declared.inst.Inst.TheVariants as insts
use Rattle.a64_code.specs.Table.{Field, Row, parts_of, table}

-- ---- fields

-- what a word has in a field
abbrev pub bits : Field → ℕ → ℕ
bits field word = word / 2 ^ field.place % 2 ^ field.width

-- what it has in each of some fields
abbrev pub held : ℕ → List Field → List ℕ
held word fields = map (λ field. bits field word) fields

-- the bits of a word that the fields cover
abbrev pub covered : List Field → ℕ
covered [] = 0
covered (field ∷ fields) = (2 ^ (field.width + field.place) - 2 ^ field.place) + covered fields

-- the bits that they leave fixed
abbrev pub mask : List Field → ℕ
mask fields = 2 ^ 32 - 1 - covered fields

-- values at their places
abbrev pub spread : List Field → List ℕ → ℕ
spread (field ∷ fields) (value ∷ values) = value * 2 ^ field.place + spread fields values
spread fields values = 0

-- there is one value for each field, and it fits
abbrev pub Fit : List Field → List ℕ → Type 0
Fit [] [] = Unit {0}
Fit (field ∷ fields) (value ∷ values) = (value < 2 ^ field.width) × Fit fields values
Fit fields values = ⊥

-- ---- rows with a condition of their own

-- how many bits an operation has: the bases of these rows alternate, 32 first
abbrev pub width : ℕ → ℕ
width base = cond (base % 2 == 0) 32 64

-- A pair with writeback does not use its base, if that is a register and not the stack pointer, for data, and LDP (its
-- row's base 1) loads two registers.
abbrev pub pair_allowed : ℕ → ℕ → ℕ → ℕ → Bool
pair_allowed base rt rn rt2 = (rn == 31 || not (rn == rt || rn == rt2)) && not (base == 1 && rt == rt2)

-- The amount of a shift and both numbers of a bit field are below the width, ADD and SUB have no ROR, and the place of a
-- moved 16-bit number is in the register.
abbrev pub is_allowed : Inst → Bool
is_allowed (insts.AddRegister base rd rn imm6 rm shift) = nat_lt shift 3 && nat_lt imm6 (width base)
is_allowed (insts.SubRegister base rd rn imm6 rm shift) = nat_lt shift 3 && nat_lt imm6 (width base)
is_allowed (insts.LogicalRegister base rd rn imm6 rm shift) = nat_lt imm6 (width base)
is_allowed (insts.OrNotRegister base rd rn imm6 rm shift) = nat_lt imm6 (width base)
is_allowed (insts.Bitfield base rd rn imms immr) = nat_lt imms (width base) && nat_lt immr (width base)
is_allowed (insts.MoveWide base rd imm16 hw) = nat_lt hw (width base / 16)
is_allowed (insts.Pair base rt rn rt2 imm7) = pair_allowed base rt rn rt2
is_allowed inst = true

-- ---- the two directions

-- the word: its base, and the values of its fields at their places
abbrev pub word_of : Inst → ℕ
word_of inst =
    slice_index (parts_of inst).row.bases (parts_of inst).base + spread (parts_of inst).row.fields (parts_of inst).values

-- the instruction has a word
pub record InRange (inst : Inst) : Type 0 where
  pub base : (parts_of inst).base < length (parts_of inst).row.bases
  pub fields : Fit (parts_of inst).row.fields (parts_of inst).values
  pub allowed : IsTrue (is_allowed inst)

-- the first two parts as tests
abbrev pub fit : List Field → List ℕ → Bool
fit [] [] = true
fit (field ∷ fields) (value ∷ values) = nat_lt value (2 ^ field.width) && fit fields values
fit fields values = false

abbrev pub parts_fit : Inst → Bool
parts_fit inst =
    nat_lt (parts_of inst).base (length (parts_of inst).row.bases) && fit (parts_of inst).row.fields (parts_of inst).values

-- the word is that of the instruction
pub record IsWord (inst : Inst) (word : ℕ) : Type 0 where
  pub range : InRange inst
  pub spelled : word_of inst ≡ word

-- the instruction, if its row's own condition allows it
abbrev pub allowed : Inst → Option Inst
allowed inst = cond (is_allowed inst) (Some inst) None

-- the instruction of a word by one row: the fixed bits are one of its bases
abbrev pub by_row : Row → ℕ → Option Inst
by_row row word =
    option_and_then (λ base. allowed (row.inst base (λ field. bits field word)))
    (position (λ base. base == bit_and word (mask row.fields)) row.bases)

-- by the first of the rows that has one
abbrev pub by_rows : List Row → ℕ → Option Inst
by_rows [] word = None
by_rows (row ∷ rows) word = option_or (by_row row word) (by_rows rows word)

-- by the table; None where the word is outside
unfoldable pub instruction : ℕ → Option Inst
instruction word = by_rows table word

-- The word is none of the row's: it has none of the bases in the fixed bits, or the row's own condition fails.
abbrev pub HasNot : ℕ → Row → Type 0
HasNot word row =
    (base : ℕ) → base < length row.bases → bit_and word (mask row.fields) ≡ slice_index row.bases base
    → is_allowed (row.inst base (λ field. bits field word)) ≡ false

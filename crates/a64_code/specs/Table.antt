-- The words of A64 that are compiled and run, as a table (Arm Architecture Reference Manual, C4.1 and C6.2).
-- A row has its bases, which are words whose fields are all 0, and its fields. All other bits of a word are as in its
-- base. A base is named by its place, from 0, among those of its row. Of two bases for one operation the first is of 32
-- bits and the second of 64.
use Rattle.std.specs.Prelude.{ℕ, List, [], ◌∷◌}
use Rattle.a64_code.specs.declared.inst.Inst.{Inst}
use Rattle.a64_code.specs.declared.inst.Inst.TheVariants as insts

-- a field of a word: the place of its lowest bit, and how many bits it has
pub record Field : Type 0 where
  pub place : ℕ
  pub width : ℕ

abbrev pub field : ℕ → ℕ → Field
field place width = record { place = place; width = width }

-- a row: the bases, the fields, and the instruction that has a base and certain values in the fields
pub record Row : Type 0 where
  pub bases : List ℕ
  pub fields : List Field
  pub inst : ℕ → (Field → ℕ) → Inst

abbrev pub row : List ℕ → List Field → (ℕ → (Field → ℕ) → Inst) → Row
row bases fields inst = record { bases = bases; fields = fields; inst = inst }

-- ---- registers

abbrev pub rd : Field
rd = field 0 5

abbrev pub rt : Field
rt = field 0 5

abbrev pub rn : Field
rn = field 5 5

abbrev pub rm : Field
rm = field 16 5

abbrev pub ra : Field
ra = field 10 5

abbrev pub rt2 : Field
rt2 = field 10 5

-- ---- numbers

abbrev pub imm12 : Field
imm12 = field 10 12

abbrev pub sh : Field
sh = field 22 1

abbrev pub imm6 : Field
imm6 = field 10 6

abbrev pub shift : Field
shift = field 22 2

abbrev pub imms : Field
imms = field 10 6

abbrev pub immr : Field
immr = field 16 6

abbrev pub imm16 : Field
imm16 = field 5 16

abbrev pub hw : Field
hw = field 21 2

abbrev pub s : Field
s = field 12 1

abbrev pub imm7 : Field
imm7 = field 15 7

abbrev pub immhi : Field
immhi = field 5 19

abbrev pub immlo : Field
immlo = field 29 2

abbrev pub imm26 : Field
imm26 = field 0 26

abbrev pub branch_cond : Field
branch_cond = field 0 4

abbrev pub imm19 : Field
imm19 = field 5 19

abbrev pub select_cond : Field
select_cond = field 12 4

-- ---- rows

-- ADD w, ADD x, ADDS w, ADDS x
abbrev pub add_immediate : Row
add_immediate =
    row (0x11000000 ∷ 0x91000000 ∷ 0x31000000 ∷ 0xB1000000 ∷ []) (rd ∷ rn ∷ imm12 ∷ sh ∷ [])
    (λ base at. insts.AddImmediate base (at rd) (at rn) (at imm12) (at sh))

-- SUB w, SUB x, SUBS w, SUBS x
abbrev pub sub_immediate : Row
sub_immediate =
    row (0x51000000 ∷ 0xD1000000 ∷ 0x71000000 ∷ 0xF1000000 ∷ []) (rd ∷ rn ∷ imm12 ∷ sh ∷ [])
    (λ base at. insts.SubImmediate base (at rd) (at rn) (at imm12) (at sh))

-- ADD w, ADD x, ADDS w, ADDS x
abbrev pub add_register : Row
add_register =
    row (0x0B000000 ∷ 0x8B000000 ∷ 0x2B000000 ∷ 0xAB000000 ∷ []) (rd ∷ rn ∷ imm6 ∷ rm ∷ shift ∷ [])
    (λ base at. insts.AddRegister base (at rd) (at rn) (at imm6) (at rm) (at shift))

-- SUB w, SUB x, SUBS w, SUBS x
abbrev pub sub_register : Row
sub_register =
    row (0x4B000000 ∷ 0xCB000000 ∷ 0x6B000000 ∷ 0xEB000000 ∷ []) (rd ∷ rn ∷ imm6 ∷ rm ∷ shift ∷ [])
    (λ base at. insts.SubRegister base (at rd) (at rn) (at imm6) (at rm) (at shift))

-- AND w, AND x, ORR w, ORR x, EOR w, EOR x
abbrev pub logical_register : Row
logical_register =
    row (0x0A000000 ∷ 0x8A000000 ∷ 0x2A000000 ∷ 0xAA000000 ∷ 0x4A000000 ∷ 0xCA000000 ∷ [])
    (rd ∷ rn ∷ imm6 ∷ rm ∷ shift ∷ []) (λ base at. insts.LogicalRegister base (at rd) (at rn) (at imm6) (at rm) (at shift))

-- ORN w, ORN x
abbrev pub or_not_register : Row
or_not_register =
    row (0x2A200000 ∷ 0xAA200000 ∷ []) (rd ∷ rn ∷ imm6 ∷ rm ∷ shift ∷ [])
    (λ base at. insts.OrNotRegister base (at rd) (at rn) (at imm6) (at rm) (at shift))

-- MADD w, MADD x, MSUB w, MSUB x
abbrev pub multiply_add : Row
multiply_add =
    row (0x1B000000 ∷ 0x9B000000 ∷ 0x1B008000 ∷ 0x9B008000 ∷ []) (rd ∷ rn ∷ ra ∷ rm ∷ [])
    (λ base at. insts.MultiplyAdd base (at rd) (at rn) (at ra) (at rm))

-- SMULL, UMULL
abbrev pub multiply_long : Row
multiply_long =
    row (0x9B207C00 ∷ 0x9BA07C00 ∷ []) (rd ∷ rn ∷ rm ∷ []) (λ base at. insts.MultiplyLong base (at rd) (at rn) (at rm))

-- SMULH, UMULH
abbrev pub multiply_high : Row
multiply_high =
    row (0x9B407C00 ∷ 0x9BC07C00 ∷ []) (rd ∷ rn ∷ rm ∷ []) (λ base at. insts.MultiplyHigh base (at rd) (at rn) (at rm))

-- SDIV w, SDIV x, UDIV w, UDIV x
abbrev pub divide : Row
divide =
    row (0x1AC00C00 ∷ 0x9AC00C00 ∷ 0x1AC00800 ∷ 0x9AC00800 ∷ []) (rd ∷ rn ∷ rm ∷ []) (λ base at. insts.Divide base (at rd) (at rn) (at rm))

-- LSLV w, LSLV x, LSRV w, LSRV x, ASRV w, ASRV x
abbrev pub shift_variable : Row
shift_variable =
    row (0x1AC02000 ∷ 0x9AC02000 ∷ 0x1AC02400 ∷ 0x9AC02400 ∷ 0x1AC02800 ∷ 0x9AC02800 ∷ []) (rd ∷ rn ∷ rm ∷ [])
    (λ base at. insts.ShiftVariable base (at rd) (at rn) (at rm))

-- SBFM w, SBFM x, UBFM w, UBFM x
abbrev pub bitfield : Row
bitfield =
    row (0x13000000 ∷ 0x93400000 ∷ 0x53000000 ∷ 0xD3400000 ∷ []) (rd ∷ rn ∷ imms ∷ immr ∷ [])
    (λ base at. insts.Bitfield base (at rd) (at rn) (at imms) (at immr))

-- MOVN w, MOVN x, MOVZ w, MOVZ x, MOVK w, MOVK x
abbrev pub move_wide : Row
move_wide =
    row (0x12800000 ∷ 0x92800000 ∷ 0x52800000 ∷ 0xD2800000 ∷ 0x72800000 ∷ 0xF2800000 ∷ []) (rd ∷ imm16 ∷ hw ∷ [])
    (λ base at. insts.MoveWide base (at rd) (at imm16) (at hw))

-- STRB, STRH, STR w, STR x
abbrev pub store_immediate : Row
store_immediate =
    row (0x39000000 ∷ 0x79000000 ∷ 0xB9000000 ∷ 0xF9000000 ∷ []) (rt ∷ rn ∷ imm12 ∷ [])
    (λ base at. insts.StoreImmediate base (at rt) (at rn) (at imm12))

-- LDRB, LDRH, LDR w, LDR x
abbrev pub load_immediate : Row
load_immediate =
    row (0x39400000 ∷ 0x79400000 ∷ 0xB9400000 ∷ 0xF9400000 ∷ []) (rt ∷ rn ∷ imm12 ∷ [])
    (λ base at. insts.LoadImmediate base (at rt) (at rn) (at imm12))

-- LDRSB x, LDRSH x, LDRSW
abbrev pub load_signed_immediate_64 : Row
load_signed_immediate_64 =
    row (0x39800000 ∷ 0x79800000 ∷ 0xB9800000 ∷ []) (rt ∷ rn ∷ imm12 ∷ [])
    (λ base at. insts.LoadSignedImmediate64 base (at rt) (at rn) (at imm12))

-- LDRSB w, LDRSH w
abbrev pub load_signed_immediate_32 : Row
load_signed_immediate_32 =
    row (0x39C00000 ∷ 0x79C00000 ∷ []) (rt ∷ rn ∷ imm12 ∷ []) (λ base at. insts.LoadSignedImmediate32 base (at rt) (at rn) (at imm12))

-- STRB, STRH, STR w, STR x
abbrev pub store_register : Row
store_register =
    row (0x38206800 ∷ 0x78206800 ∷ 0xB8206800 ∷ 0xF8206800 ∷ []) (rt ∷ rn ∷ s ∷ rm ∷ [])
    (λ base at. insts.StoreRegister base (at rt) (at rn) (at s) (at rm))

-- LDRB, LDRH, LDR w, LDR x
abbrev pub load_register : Row
load_register =
    row (0x38606800 ∷ 0x78606800 ∷ 0xB8606800 ∷ 0xF8606800 ∷ []) (rt ∷ rn ∷ s ∷ rm ∷ [])
    (λ base at. insts.LoadRegister base (at rt) (at rn) (at s) (at rm))

-- LDRSB x, LDRSH x, LDRSW, LDRSB w, LDRSH w
abbrev pub load_signed_register : Row
load_signed_register =
    row (0x38A06800 ∷ 0x78A06800 ∷ 0xB8A06800 ∷ 0x38E06800 ∷ 0x78E06800 ∷ []) (rt ∷ rn ∷ s ∷ rm ∷ [])
    (λ base at. insts.LoadSignedRegister base (at rt) (at rn) (at s) (at rm))

-- STP x pre-index, LDP x post-index
abbrev pub pair : Row
pair =
    row (0xA9800000 ∷ 0xA8C00000 ∷ []) (rt ∷ rn ∷ rt2 ∷ imm7 ∷ []) (λ base at. insts.Pair base (at rt) (at rn) (at rt2) (at imm7))

-- ADR, ADRP
abbrev pub pc_relative : Row
pc_relative =
    row (0x10000000 ∷ 0x90000000 ∷ []) (rd ∷ immhi ∷ immlo ∷ []) (λ base at. insts.PcRelative base (at rd) (at immhi) (at immlo))

-- B, BL
abbrev pub branch : Row
branch =
    row (0x14000000 ∷ 0x94000000 ∷ []) (imm26 ∷ []) (λ base at. insts.Branch base (at imm26))

-- B.cond
abbrev pub branch_conditional : Row
branch_conditional =
    row (0x54000000 ∷ []) (branch_cond ∷ imm19 ∷ []) (λ base at. insts.BranchConditional base (at branch_cond) (at imm19))

-- CBZ w, CBZ x, CBNZ w, CBNZ x
abbrev pub compare_and_branch : Row
compare_and_branch =
    row (0x34000000 ∷ 0xB4000000 ∷ 0x35000000 ∷ 0xB5000000 ∷ []) (rt ∷ imm19 ∷ [])
    (λ base at. insts.CompareAndBranch base (at rt) (at imm19))

-- BR, BLR, RET
abbrev pub branch_register : Row
branch_register =
    row (0xD61F0000 ∷ 0xD63F0000 ∷ 0xD65F0000 ∷ []) (rn ∷ []) (λ base at. insts.BranchRegister base (at rn))

-- CSEL w, CSEL x, CSINC w, CSINC x
abbrev pub conditional_select : Row
conditional_select =
    row (0x1A800000 ∷ 0x9A800000 ∷ 0x1A800400 ∷ 0x9A800400 ∷ []) (rd ∷ rn ∷ select_cond ∷ rm ∷ [])
    (λ base at. insts.ConditionalSelect base (at rd) (at rn) (at select_cond) (at rm))

abbrev pub table : List Row
table =
    add_immediate ∷ sub_immediate ∷ add_register ∷ sub_register ∷ logical_register ∷ or_not_register ∷ multiply_add
    ∷ multiply_long ∷ multiply_high ∷ divide ∷ shift_variable ∷ bitfield ∷ move_wide ∷ store_immediate
    ∷ load_immediate ∷ load_signed_immediate_64 ∷ load_signed_immediate_32 ∷ store_register ∷ load_register
    ∷ load_signed_register ∷ pair ∷ pc_relative ∷ branch ∷ branch_conditional ∷ compare_and_branch ∷ branch_register
    ∷ conditional_select ∷ []

-- ---- instructions by rows

-- an instruction as its row, the place of its base, and the values of its fields
pub record Parts : Type 0 where
  pub row : Row
  pub base : ℕ
  pub values : List ℕ

abbrev pub parts : Row → ℕ → List ℕ → Parts
parts row base values = record { row = row; base = base; values = values }

abbrev pub parts_of : Inst → Parts
parts_of (insts.AddImmediate base rd rn imm12 sh) = parts add_immediate base (rd ∷ rn ∷ imm12 ∷ sh ∷ [])
parts_of (insts.SubImmediate base rd rn imm12 sh) = parts sub_immediate base (rd ∷ rn ∷ imm12 ∷ sh ∷ [])
parts_of (insts.AddRegister base rd rn imm6 rm shift) = parts add_register base (rd ∷ rn ∷ imm6 ∷ rm ∷ shift ∷ [])
parts_of (insts.SubRegister base rd rn imm6 rm shift) = parts sub_register base (rd ∷ rn ∷ imm6 ∷ rm ∷ shift ∷ [])
parts_of (insts.LogicalRegister base rd rn imm6 rm shift) = parts logical_register base (rd ∷ rn ∷ imm6 ∷ rm ∷ shift ∷ [])
parts_of (insts.OrNotRegister base rd rn imm6 rm shift) = parts or_not_register base (rd ∷ rn ∷ imm6 ∷ rm ∷ shift ∷ [])
parts_of (insts.MultiplyAdd base rd rn ra rm) = parts multiply_add base (rd ∷ rn ∷ ra ∷ rm ∷ [])
parts_of (insts.MultiplyLong base rd rn rm) = parts multiply_long base (rd ∷ rn ∷ rm ∷ [])
parts_of (insts.MultiplyHigh base rd rn rm) = parts multiply_high base (rd ∷ rn ∷ rm ∷ [])
parts_of (insts.Divide base rd rn rm) = parts divide base (rd ∷ rn ∷ rm ∷ [])
parts_of (insts.ShiftVariable base rd rn rm) = parts shift_variable base (rd ∷ rn ∷ rm ∷ [])
parts_of (insts.Bitfield base rd rn imms immr) = parts bitfield base (rd ∷ rn ∷ imms ∷ immr ∷ [])
parts_of (insts.MoveWide base rd imm16 hw) = parts move_wide base (rd ∷ imm16 ∷ hw ∷ [])
parts_of (insts.StoreImmediate base rt rn imm12) = parts store_immediate base (rt ∷ rn ∷ imm12 ∷ [])
parts_of (insts.LoadImmediate base rt rn imm12) = parts load_immediate base (rt ∷ rn ∷ imm12 ∷ [])
parts_of (insts.LoadSignedImmediate64 base rt rn imm12) = parts load_signed_immediate_64 base (rt ∷ rn ∷ imm12 ∷ [])
parts_of (insts.LoadSignedImmediate32 base rt rn imm12) = parts load_signed_immediate_32 base (rt ∷ rn ∷ imm12 ∷ [])
parts_of (insts.StoreRegister base rt rn s rm) = parts store_register base (rt ∷ rn ∷ s ∷ rm ∷ [])
parts_of (insts.LoadRegister base rt rn s rm) = parts load_register base (rt ∷ rn ∷ s ∷ rm ∷ [])
parts_of (insts.LoadSignedRegister base rt rn s rm) = parts load_signed_register base (rt ∷ rn ∷ s ∷ rm ∷ [])
parts_of (insts.Pair base rt rn rt2 imm7) = parts pair base (rt ∷ rn ∷ rt2 ∷ imm7 ∷ [])
parts_of (insts.PcRelative base rd immhi immlo) = parts pc_relative base (rd ∷ immhi ∷ immlo ∷ [])
parts_of (insts.Branch base imm26) = parts branch base (imm26 ∷ [])
parts_of (insts.BranchConditional base cond imm19) = parts branch_conditional base (cond ∷ imm19 ∷ [])
parts_of (insts.CompareAndBranch base rt imm19) = parts compare_and_branch base (rt ∷ imm19 ∷ [])
parts_of (insts.BranchRegister base rn) = parts branch_register base (rn ∷ [])
parts_of (insts.ConditionalSelect base rd rn cond rm) = parts conditional_select base (rd ∷ rn ∷ cond ∷ rm ∷ [])

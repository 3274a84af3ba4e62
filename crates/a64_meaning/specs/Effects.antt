-- What each row of the table does (Arm Architecture Reference Manual, C6.2, under the name above each clause). Of two bases for one operation the first is of
-- 32 bits, and its result clears the upper half; `base / 2` is then the place of the operation in its row.
use Rattle.std.specs.Prelude.{ℕ, ◌+◌, ◌-◌, ◌*◌, ◌/◌, ◌%◌, ◌^◌, ◌==◌, Bool, nat_lt, nat_le, if◌then◌else◌}
use Rattle.a64_code.specs.declared.inst.Inst.{Inst}
use Rattle.a64_code.specs.declared.inst.Inst.TheVariants as insts
use Rattle.a64_code.specs.Words.{width}
use Rattle.a64_meaning.specs.Numbers.{low, extended, inverted, moved, Sum, plus, minus, same_bool, holds, shifted, logical}
use Rattle.a64_meaning.specs.Numbers.{multiplied, long_product, high_product, quotient, bit_field, moved_wide}
use Rattle.a64_meaning.specs.Machine.{Machine, Bytes, Ground, Goal, Next, reg, reg_or_sp, set_reg, set_reg_or_sp, set_flags}
use Rattle.a64_meaning.specs.Machine.{go_to, following, on}
use Rattle.a64_meaning.specs.Access.{loading, loading_both, storing, storing_both}

-- ---- operands

-- the low bits of a register
abbrev pub operand : Machine → ℕ → ℕ → ℕ
operand m bits r = low bits (reg m r)

abbrev pub operand_or_sp : Machine → ℕ → ℕ → ℕ
operand_or_sp m bits r = low bits (reg_or_sp m r)

-- a register that is shifted by an amount
abbrev pub shifted_operand : Machine → ℕ → ℕ → ℕ → ℕ → ℕ
shifted_operand m bits r kind amount = shifted bits kind (operand m bits r) amount

abbrev pub immediate : ℕ → ℕ → ℕ
immediate imm12 sh = imm12 * 2 ^ (12 * sh)

-- ---- results

abbrev pub result : Machine → ℕ → ℕ → Machine
result m rd n = on (set_reg m rd n)

-- bases 0 and 1 set no flags
abbrev pub sets_flags : ℕ → Bool
sets_flags base = nat_le 2 base

-- of a sum of registers
abbrev pub sum_result : Machine → ℕ → ℕ → Sum → Machine
sum_result m base rd s = if sets_flags base then result (set_flags m s.flags) rd s.sum else result m rd s.sum

-- of a sum with a number: where it sets no flags, it can be the stack pointer
abbrev pub sum_result_or_sp : Machine → ℕ → ℕ → Sum → Machine
sum_result_or_sp m base rd s =
    if sets_flags base then result (set_flags m s.flags) rd s.sum else on (set_reg_or_sp m rd s.sum)

-- ---- addresses

abbrev pub scaled : Machine → ℕ → ℕ → ℕ → ℕ
scaled m rn imm12 size = (reg_or_sp m rn + imm12 * size) % 2 ^ 64

abbrev pub indexed : Machine → ℕ → ℕ → ℕ → ℕ → ℕ
indexed m rn rm s size = (reg_or_sp m rn + reg m rm * (if s == 1 then size else 1)) % 2 ^ 64

-- the address of a pair, moved by its signed number of 7 bits
abbrev pub pair_moved : Machine → ℕ → ℕ → ℕ
pair_moved m rn imm7 = moved 7 8 imm7 (reg_or_sp m rn)

abbrev pub above : ℕ → ℕ
above address = (address + 8) % 2 ^ 64

-- ---- branches

abbrev pub branch_if : Machine → Bool → ℕ → Machine
branch_if m taken imm19 = go_to m (if taken then moved 19 4 imm19 m.pc else following m)

-- a branch that keeps the address of what follows it in x30
abbrev pub linked : Machine → Bool → ℕ → Machine
linked m link address = go_to (if link then set_reg m 30 (following m) else m) address

-- the page of 4,096 bytes that has an address
abbrev pub page : ℕ → ℕ
page address = address / 4096 * 4096

module _ {H : Type 0} (b : Bytes H) (g : Ground) where
  -- a load whose number is extended by its sign to so many bits
  abbrev pub load_signed : Machine → H → ℕ → ℕ → ℕ → ℕ → Goal H
  load_signed m h size bits rt address = loading b g h size address (λ n. Next (result m rt (extended (8 * size) bits n)) h)

  abbrev pub load_number : Machine → H → ℕ → ℕ → ℕ → Goal H
  load_number m h size rt address = loading b g h size address (λ n. Next (result m rt n) h)

  abbrev pub store_number : Machine → H → ℕ → ℕ → ℕ → Goal H
  store_number m h size rt address = storing b g h size address (reg m rt) (λ h'. Next (on m) h')

  -- STP before its base moves, to the address that it moves to; LDP from its base, which moves then
  abbrev pub act_pair : Machine → H → ℕ → ℕ → ℕ → ℕ → ℕ → Goal H
  act_pair m h base rt rn rt2 imm7 =
      let to = pair_moved m rn imm7 in
      let from = reg_or_sp m rn in
      if base == 0
      then storing_both b g h to (reg m rt) (above to) (reg m rt2) (λ h'. Next (on (set_reg_or_sp m rn to)) h')
      else loading_both b g h from (above from) (λ n k. Next (on (set_reg_or_sp (set_reg (set_reg m rt n) rt2 k) rn to)) h)

  unfoldable pub act : Inst → Machine → H → Goal H
  -- ADD (immediate), ADDS (immediate)
  act (insts.AddImmediate base rd rn imm12 sh) m h =
      Next (sum_result_or_sp m base rd (plus (width base) (operand_or_sp m (width base) rn) (immediate imm12 sh))) h
  -- SUB (immediate), SUBS (immediate)
  act (insts.SubImmediate base rd rn imm12 sh) m h =
      Next (sum_result_or_sp m base rd (minus (width base) (operand_or_sp m (width base) rn) (immediate imm12 sh))) h
  -- ADD (shifted register), ADDS (shifted register)
  act (insts.AddRegister base rd rn imm6 rm shift) m h =
      Next (sum_result m base rd (plus (width base) (operand m (width base) rn) (shifted_operand m (width base) rm shift imm6))) h
  -- SUB (shifted register), SUBS (shifted register)
  act (insts.SubRegister base rd rn imm6 rm shift) m h =
      Next (sum_result m base rd (minus (width base) (operand m (width base) rn) (shifted_operand m (width base) rm shift imm6))) h
  -- AND, ORR and EOR (shifted register)
  act (insts.LogicalRegister base rd rn imm6 rm shift) m h =
      Next (result m rd (logical (base / 2) (operand m (width base) rn) (shifted_operand m (width base) rm shift imm6))) h
  -- ORN (shifted register)
  act (insts.OrNotRegister base rd rn imm6 rm shift) m h =
      Next (result m rd
      (logical 1 (operand m (width base) rn) (inverted (width base) (shifted_operand m (width base) rm shift imm6)))) h
  -- MADD, MSUB
  act (insts.MultiplyAdd base rd rn ra rm) m h =
      Next (result m rd
      (multiplied (width base) (base / 2) (operand m (width base) ra) (operand m (width base) rn) (operand m (width base) rm))) h
  -- SMADDL and UMADDL of a zero addend
  act (insts.MultiplyLong base rd rn rm) m h = Next (result m rd (long_product base (operand m 32 rn) (operand m 32 rm))) h
  -- SMULH, UMULH
  act (insts.MultiplyHigh base rd rn rm) m h = Next (result m rd (high_product base (reg m rn) (reg m rm))) h
  -- SDIV, UDIV
  act (insts.Divide base rd rn rm) m h =
      Next (result m rd (quotient (width base) (base / 2) (operand m (width base) rn) (operand m (width base) rm))) h
  -- LSLV, LSRV, ASRV
  act (insts.ShiftVariable base rd rn rm) m h =
      Next (result m rd (shifted (width base) (base / 2) (operand m (width base) rn) (reg m rm % width base))) h
  -- SBFM, UBFM
  act (insts.Bitfield base rd rn imms immr) m h =
      Next (result m rd (bit_field (width base) (base / 2) immr imms (operand m (width base) rn))) h
  -- MOVN, MOVZ, MOVK
  act (insts.MoveWide base rd imm16 hw) m h =
      Next (result m rd (moved_wide (width base) (base / 2) (operand m (width base) rd) imm16 hw)) h
  -- STRB, STRH and STR (immediate, unsigned offset)
  act (insts.StoreImmediate base rt rn imm12) m h = store_number m h (2 ^ base) rt (scaled m rn imm12 (2 ^ base))
  -- LDRB, LDRH and LDR (immediate, unsigned offset)
  act (insts.LoadImmediate base rt rn imm12) m h = load_number m h (2 ^ base) rt (scaled m rn imm12 (2 ^ base))
  -- LDRSB, LDRSH and LDRSW (immediate, unsigned offset)
  act (insts.LoadSignedImmediate64 base rt rn imm12) m h = load_signed m h (2 ^ base) 64 rt (scaled m rn imm12 (2 ^ base))
  -- LDRSB and LDRSH (immediate, unsigned offset)
  act (insts.LoadSignedImmediate32 base rt rn imm12) m h = load_signed m h (2 ^ base) 32 rt (scaled m rn imm12 (2 ^ base))
  -- STRB, STRH and STR (register)
  act (insts.StoreRegister base rt rn s rm) m h = store_number m h (2 ^ base) rt (indexed m rn rm s (2 ^ base))
  -- LDRB, LDRH and LDR (register)
  act (insts.LoadRegister base rt rn s rm) m h = load_number m h (2 ^ base) rt (indexed m rn rm s (2 ^ base))
  -- its first three bases are to 64 bits, and the others to 32
  -- LDRSB, LDRSH and LDRSW (register)
  act (insts.LoadSignedRegister base rt rn s rm) m h =
      if nat_lt base 3 then load_signed m h (2 ^ base) 64 rt (indexed m rn rm s (2 ^ base))
      else load_signed m h (2 ^ (base - 3)) 32 rt (indexed m rn rm s (2 ^ (base - 3)))
  -- STP (pre-index), LDP (post-index)
  act (insts.Pair base rt rn rt2 imm7) m h = act_pair m h base rt rn rt2 imm7
  -- ADR, ADRP
  act (insts.PcRelative base rd immhi immlo) m h =
      Next (result m rd (if base == 0 then moved 21 1 (immhi * 4 + immlo) m.pc else moved 21 4096 (immhi * 4 + immlo) (page m.pc))) h
  -- B, BL
  act (insts.Branch base imm26) m h = Next (linked m (base == 1) (moved 26 4 imm26 m.pc)) h
  -- B.cond
  act (insts.BranchConditional base condition imm19) m h = Next (branch_if m (holds condition m.nzcv) imm19) h
  -- CBZ, CBNZ
  act (insts.CompareAndBranch base rt imm19) m h =
      Next (branch_if m (same_bool (base / 2 == 0) (operand m (width base) rt == 0)) imm19) h
  -- the target is read before x30 is written
  -- BR, BLR, RET
  act (insts.BranchRegister base rn) m h = Next (linked m (base == 1) (reg m rn)) h
  -- CSEL, and CSINC, which adds 1 to the second
  act (insts.ConditionalSelect base rd rn condition rm) m h =
      Next (result m rd (if holds condition m.nzcv then operand m (width base) rn
      else low (width base) (operand m (width base) rm + base / 2))) h

-- Each row of the table, from a machine of words.
use Rattle.std.proofs.Common.{◌≡◌, ◌<◌, ◌≤◌, ℕ, zero, suc, ◌+◌, ◌-◌, ◌*◌, ◌/◌, ◌%◌, ◌^◌, ◌==◌, ◌&&◌, not, Bool, true, false, cond, Option, Some, None, refl, arith}
use Rattle.std.proofs.Common.{nat_lt, nat_le, if◌then◌else◌, IsTrue}
use Rattle.std.proofs.lemmas.Bool.Decides.{nat_tests}
use Rattle.std.proofs.lemmas.Nat.{mod_below}
use Rattle.std.specs.Option.{option_and_then}
use Rattle.a64_code.specs.declared.inst.Inst.{Inst}
use Rattle.a64_code.specs.declared.inst.Inst.TheVariants as insts
use Rattle.a64_code.specs.Words.{width, InRange, instruction}
use Rattle.a64_meaning.specs.Numbers.{added, low, Sum, extended, inverted, plus, minus, shifted, logical, multiplied, long_product, high_product, quotient, bit_field, moved_wide, moved, holds, same_bool}
use Rattle.a64_meaning.specs.Machine.{Machine, Bytes, Ground, Goal, Next, Loads, Helper, Stub, BadCode, BadAccess, segment, offset, reg, reg_or_sp, set_reg, set_reg_or_sp, set_flags, go_to, following, on}
use Rattle.a64_meaning.specs.Access.{plain_load, Found, Number, Cell, Nothing, found, take_found, is_found, is_writable}
use Rattle.a64_meaning.specs.Effects.{act, operand, shifted_operand, immediate, result, sets_flags, sum_result, sum_result_or_sp, scaled, indexed, pair_moved, above, branch_if, linked, load_number, load_signed, store_number}
use Rattle.a64_meaning.specs.Step.{step, fetched, run_fetched}
use Rattle.a64_meaning.specs.Whole.{HasWords, HasBytes, KeepsWords}
use Rattle.a64_meaning.proofs.Bounds.{word, width_few, chosen, low_below, flags_below, extended_below, inverted_below, shifted_below, logical_below, by_width}
use Rattle.a64_meaning.proofs.Bounds.{multiplied_below, long_below, high_below, quotient_below, bit_field_below}
use Rattle.a64_meaning.proofs.WordSteps.{reg_word, reg_or_sp_word, set_words, set_or_sp_words, flag_words, going_words, on_words, result_words, either_words, InFound, Small, plain_loaded, found_small, taken_words}

-- ---- results

added_words : (m : Machine) → HasWords m → (base rd x y carry : ℕ) → HasWords (sum_result m base rd (added (width base) x y carry))
added_words m w base rd x y carry =
    let p : low (width base) (x + y + carry) < 2 ^ 64 = word (width base) (low (width base) (x + y + carry)) (width_few base) (low_below (width base) (x + y + carry)) in
    either_words (sets_flags base) _ _ (result_words (set_flags m (added (width base) x y carry).flags) (flag_words m w _ (flags_below _ _ _ _)) rd _ p) (result_words m w rd _ p)

added_or_sp_words : (m : Machine) → HasWords m → (base rd x y carry : ℕ) → HasWords (sum_result_or_sp m base rd (added (width base) x y carry))
added_or_sp_words m w base rd x y carry =
    let p : low (width base) (x + y + carry) < 2 ^ 64 = word (width base) (low (width base) (x + y + carry)) (width_few base) (low_below (width base) (x + y + carry)) in
    either_words (sets_flags base) _ _ (result_words (set_flags m (added (width base) x y carry).flags) (flag_words m w _ (flags_below _ _ _ _)) rd _ p)
    (on_words (set_reg_or_sp m rd (low (width base) (x + y + carry))) (set_or_sp_words m w rd _ p))

-- a result of the width of its base
narrow : (m : Machine) → HasWords m → (base rd n : ℕ) → n < 2 ^ width base → HasWords (result m rd n)
narrow m w base rd n small = result_words m w rd n (word (width base) n (width_few base) small)

both_true : (c d : Bool) → (c && d) ≡ true → (c ≡ true) × (d ≡ true)
both_true true d e = (refl, e)
both_true false d e = absurd (let no : false ≡ true = e in cc)

below : (a k : ℕ) → nat_lt a k ≡ true → a < k
below a k e = grind (arith, nat_tests)

amount_small : (base kind n amount : ℕ) → amount < width base → shifted (width base) kind (low (width base) n) amount < 2 ^ width base
amount_small base kind n amount few = shifted_below (width base) kind (low (width base) n) amount few (low_below (width base) n)

-- ---- MOVN, MOVZ, MOVK

part_small : (bits imm16 hw : ℕ) → imm16 < 2 ^ 16 → hw < bits / 16 → bits ≤ 64 → (imm16 * 2 ^ (16 * hw) < 2 ^ 64)
part_small bits imm16 zero small place few = omega (arith, small)
part_small bits imm16 (suc zero) small place few = omega (arith, small)
part_small bits imm16 (suc (suc zero)) small place few = omega (arith, small)
part_small bits imm16 (suc (suc (suc zero))) small place few = omega (arith, small)
part_small bits imm16 (suc (suc (suc (suc hw)))) small place few = absurd (omega (arith, place, few))

kept_small : (bits n imm16 hw : ℕ) → n < 2 ^ 64 → imm16 < 2 ^ 16 → hw < bits / 16 → bits ≤ 64
    → n % 2 ^ (16 * hw) + imm16 * 2 ^ (16 * hw) + n / 2 ^ (16 * hw + 16) * 2 ^ (16 * hw + 16) < 2 ^ 64
kept_small bits n imm16 zero all small place few = omega (arith, all, small)
kept_small bits n imm16 (suc zero) all small place few = omega (arith, all, small)
kept_small bits n imm16 (suc (suc zero)) all small place few = omega (arith, all, small)
kept_small bits n imm16 (suc (suc (suc zero))) all small place few = omega (arith, all, small)
kept_small bits n imm16 (suc (suc (suc (suc hw)))) all small place few = absurd (omega (arith, place, few))

moved_wide_small : (base kind n imm16 hw : ℕ) → n < 2 ^ 64 → imm16 < 2 ^ 16 → hw < width base / 16 → moved_wide (width base) kind n imm16 hw < 2 ^ 64
unfolding moved_wide
moved_wide_small base kind n imm16 hw all small place =
    chosen (2 ^ 64) (kind == 0) _ _ (word (width base) (inverted (width base) (imm16 * 2 ^ (16 * hw))) (width_few base) (inverted_below (width base) (imm16 * 2 ^ (16 * hw))))
    (chosen (2 ^ 64) (kind == 1) _ _ (part_small (width base) imm16 hw small place (width_few base)) (kept_small (width base) n imm16 hw all small place (width_few base)))

-- ---- the rows

by_four : (P : ℕ → Type 0) → P 0 → P 1 → P 2 → P 3 → (n : ℕ) → n < 4 → P n
by_four P a b c d zero few = a
by_four P a b c d (suc zero) few = b
by_four P a b c d (suc (suc zero)) few = c
by_four P a b c d (suc (suc (suc zero))) few = d
by_four P a b c d (suc (suc (suc (suc n)))) few = absurd (omega (arith, few))

size_few : (base : ℕ) → base < 4 → 8 * 2 ^ base ≤ 64
size_few = by_four (λ n. 8 * 2 ^ n ≤ 64) (omega arith) (omega arith) (omega arith) (omega arith)

signed_few : (base : ℕ) → base < 3 → 8 * 2 ^ base ≤ 32
signed_few zero few = omega arith
signed_few (suc zero) few = omega arith
signed_few (suc (suc zero)) few = omega arith
signed_few (suc (suc (suc n))) few = absurd (omega (arith, few))

either_goal : {H : Type 0} (c : Bool) (x y : Goal H) → KeepsWords x → KeepsWords y → KeepsWords (if c then x else y)
either_goal true x y p q = p
either_goal false x y p q = q

module _ {H : Type 0} (b : Bytes H) (g : Ground) (bytes : HasBytes b g) where
  number : (m : Machine) → HasWords m → (h : H) (base rt a : ℕ) → base < 4 → KeepsWords (load_number b g m h (2 ^ base) rt a)
  unfolding KeepsWords
  number m w h base rt a few =
      taken_words b g bytes a (2 ^ base) (found b g h (2 ^ base) a) (λ n. Next (result m rt n) h) (found_small b g bytes h (2 ^ base) a)
      (λ n small. result_words m w rt n (word (8 * 2 ^ base) n (size_few base few) small))

  signed : (m : Machine) → HasWords m → (h : H) (size bits rt a : ℕ) → 8 * size ≤ bits → bits ≤ 64 → KeepsWords (load_signed b g m h size bits rt a)
  unfolding KeepsWords
  signed m w h size bits rt a few most =
      taken_words b g bytes a size (found b g h size a) (λ n. Next (result m rt (extended (8 * size) bits n)) h) (found_small b g bytes h size a)
      (λ n small. result_words m w rt (extended (8 * size) bits n) (word bits (extended (8 * size) bits n) most (extended_below (8 * size) bits n few small)))

  pair_taken : (p q : ℕ) (f e : Found) (go : ℕ → ℕ → Goal H) → InFound 8 f → InFound 8 e
      → ((n k : ℕ) → n < 2 ^ 64 → k < 2 ^ 64 → KeepsWords (go n k))
      → KeepsWords (if not (is_found b g f) then BadAccess p else if not (is_found b g e) then BadAccess q else take_found b g p f (λ n. take_found b g q e (go n)))
  unfolding KeepsWords InFound
  pair_taken p q Nothing e go s t k = tt
  pair_taken p q (Cell rva) Nothing go s t k = tt
  pair_taken p q (Number n) Nothing go s t k = tt
  pair_taken p q (Cell rva) (Cell two) go s t k = λ n x i y. k n i x y
  pair_taken p q (Cell rva) (Number i) go s t k = λ n x. k n i x t
  pair_taken p q (Number n) (Cell two) go s t k = λ i y. k n i s y
  pair_taken p q (Number n) (Number i) go s t k = k n i s t

  pub acted_words : (inst : Inst) → InRange inst → (m : Machine) → HasWords m → (h : H) → KeepsWords (act b g inst m h)
  unfolding act KeepsWords
  acted_words (insts.AddImmediate base rd rn imm12 sh) r m w h = added_or_sp_words m w base rd _ _ _
  acted_words (insts.SubImmediate base rd rn imm12 sh) r m w h = added_or_sp_words m w base rd _ _ _
  acted_words (insts.AddRegister base rd rn imm6 rm shift) r m w h = added_words m w base rd _ _ _
  acted_words (insts.SubRegister base rd rn imm6 rm shift) r m w h = added_words m w base rd _ _ _
  acted_words (insts.LogicalRegister base rd rn imm6 rm shift) r m w h =
      result_words m w rd _
      (logical_below (base / 2) _ _ (word (width base) _ (width_few base) (low_below (width base) (reg m rn)))
      (word (width base) _ (width_few base) (amount_small base shift (reg m rm) imm6 (below imm6 (width base) r.allowed))))
  acted_words (insts.OrNotRegister base rd rn imm6 rm shift) r m w h =
      result_words m w rd _
      (logical_below 1 _ _ (word (width base) _ (width_few base) (low_below (width base) (reg m rn)))
      (word (width base) _ (width_few base) (inverted_below (width base) (shifted_operand m (width base) rm shift imm6))))
  acted_words (insts.MultiplyAdd base rd rn ra rm) r m w h =
      narrow m w base rd _ (multiplied_below (width base) (base / 2) (operand m (width base) ra) (operand m (width base) rn) (operand m (width base) rm))
  acted_words (insts.MultiplyLong base rd rn rm) r m w h =
      result_words m w rd _ (long_below base (operand m 32 rn) (operand m 32 rm) (low_below 32 (reg m rn)) (low_below 32 (reg m rm)))
  acted_words (insts.MultiplyHigh base rd rn rm) r m w h =
      result_words m w rd _ (high_below base (reg m rn) (reg m rm) (reg_word m w rn) (reg_word m w rm))
  acted_words (insts.Divide base rd rn rm) r m w h =
      narrow m w base rd _
      (quotient_below (width base) (base / 2) (operand m (width base) rn) (operand m (width base) rm)
      (by_width (λ bits. 0 < bits) (omega arith) (omega arith) base) (low_below (width base) (reg m rn)))
  acted_words (insts.ShiftVariable base rd rn rm) r m w h =
      narrow m w base rd _
      (amount_small base (base / 2) (reg m rn) (reg m rm % width base)
      (mod_below (reg m rm) (width base) (by_width (λ bits. 0 < bits) (omega arith) (omega arith) base)))
  acted_words (insts.Bitfield base rd rn imms immr) r m w h =
      let fits = both_true (nat_lt imms (width base)) (nat_lt immr (width base)) r.allowed in
      narrow m w base rd _
      (bit_field_below (width base) (base / 2) immr imms (operand m (width base) rn) (below immr (width base) fits.1) (below imms (width base) fits.0))
  acted_words (insts.MoveWide base rd imm16 hw) r m w h =
      result_words m w rd _
      (moved_wide_small base (base / 2) (operand m (width base) rd) imm16 hw
      (word (width base) _ (width_few base) (low_below (width base) (reg m rd))) r.fields.1.0 (below hw (width base / 16) r.allowed))
  acted_words (insts.StoreImmediate base rt rn imm12) r m w h =
      either_goal (is_writable b g h (2 ^ base) (scaled m rn imm12 (2 ^ base))) _ _ (on_words m w) tt
  acted_words (insts.StoreRegister base rt rn s rm) r m w h =
      either_goal (is_writable b g h (2 ^ base) (indexed m rn rm s (2 ^ base))) _ _ (on_words m w) tt
  acted_words (insts.LoadImmediate base rt rn imm12) r m w h = number m w h base rt (scaled m rn imm12 (2 ^ base)) r.base
  acted_words (insts.LoadRegister base rt rn s rm) r m w h = number m w h base rt (indexed m rn rm s (2 ^ base)) r.base
  acted_words (insts.LoadSignedImmediate64 base rt rn imm12) r m w h =
      signed m w h (2 ^ base) 64 rt (scaled m rn imm12 (2 ^ base)) (let few = signed_few base r.base in omega (arith, few)) (omega arith)
  acted_words (insts.LoadSignedImmediate32 base rt rn imm12) r m w h =
      signed m w h (2 ^ base) 32 rt (scaled m rn imm12 (2 ^ base))
      (signed_few base (let few : base < 2 = r.base in omega (arith, few))) (omega arith)
  acted_words (insts.LoadSignedRegister base rt rn s rm) r m w h = by_base (nat_lt base 3) refl
    where
      by_base : (c : Bool) → nat_lt base 3 ≡ c
          → KeepsWords (if c then load_signed b g m h (2 ^ base) 64 rt (indexed m rn rm s (2 ^ base))
          else load_signed b g m h (2 ^ (base - 3)) 32 rt (indexed m rn rm s (2 ^ (base - 3))))
      by_base true e =
          signed m w h (2 ^ base) 64 rt (indexed m rn rm s (2 ^ base)) (let few = signed_few base (below base 3 e) in omega (arith, few)) (omega arith)
      by_base false e =
          signed m w h (2 ^ (base - 3)) 32 rt (indexed m rn rm s (2 ^ (base - 3)))
          (signed_few (base - 3) (let few : base < 5 = r.base in omega (arith, few))) (omega arith)
  acted_words (insts.Pair base rt rn rt2 imm7) r m w h =
      let to = mod_below (reg_or_sp m rn + extended 7 64 imm7 * 8) (2 ^ 64) (omega arith) in
      either_goal (base == 0) _ _
      (either_goal (not (is_writable b g h 8 (pair_moved m rn imm7))) _ _ tt
      (either_goal (not (is_writable b g h 8 (above (pair_moved m rn imm7)))) _ _ tt
      (on_words (set_reg_or_sp m rn (pair_moved m rn imm7)) (set_or_sp_words m w rn _ to))))
      (pair_taken (reg_or_sp m rn) (above (reg_or_sp m rn)) (found b g h 8 (reg_or_sp m rn)) (found b g h 8 (above (reg_or_sp m rn))) _
      (found_small b g bytes h 8 (reg_or_sp m rn)) (found_small b g bytes h 8 (above (reg_or_sp m rn)))
      (λ n k x y. on_words _ (set_or_sp_words _ (set_words _ (set_words m w rt n x) rt2 k y) rn _ to)))
  acted_words (insts.PcRelative base rd immhi immlo) r m w h =
      result_words m w rd _ (chosen (2 ^ 64) (base == 0) _ _ (mod_below _ (2 ^ 64) (omega arith)) (mod_below _ (2 ^ 64) (omega arith)))
  acted_words (insts.Branch base imm26) r m w h =
      going_words _ (either_words (base == 1) _ _ (set_words m w 30 (following m) (mod_below (m.pc + 4) (2 ^ 64) (omega arith))) w) _
      (mod_below _ (2 ^ 64) (omega arith))
  acted_words (insts.BranchConditional base condition imm19) r m w h =
      going_words m w _
      (chosen (2 ^ 64) (holds condition m.nzcv) _ _ (mod_below _ (2 ^ 64) (omega arith)) (mod_below _ (2 ^ 64) (omega arith)))
  acted_words (insts.CompareAndBranch base rt imm19) r m w h =
      going_words m w _
      (chosen (2 ^ 64) (same_bool (base / 2 == 0) (operand m (width base) rt == 0)) _ _ (mod_below _ (2 ^ 64) (omega arith)) (mod_below _ (2 ^ 64) (omega arith)))
  acted_words (insts.BranchRegister base rn) r m w h =
      going_words _ (either_words (base == 1) _ _ (set_words m w 30 (following m) (mod_below (m.pc + 4) (2 ^ 64) (omega arith))) w) _ (reg_word m w rn)
  acted_words (insts.ConditionalSelect base rd rn condition rm) r m w h =
      narrow m w base rd _
      (chosen (2 ^ width base) (holds condition m.nzcv) _ _ (low_below (width base) (reg m rn)) (low_below (width base) (operand m (width base) rm + base / 2)))

  -- ---- the step

  pub step_words : ((word : ℕ) (inst : Inst) → word < 2 ^ 32 → instruction word ≡ Some inst → InRange inst)
      → (m : Machine) → HasWords m → (h : H) → KeepsWords (step b g m h)
  unfolding step fetched KeepsWords Small
  step_words back m w h =
      either_goal (segment m.pc == 3 && m.pc % 16 == 0) _ _ tt
      (either_goal (segment m.pc == 4 && m.pc % 16 == 0) _ _ tt
      (by_place (segment m.pc == 1 && m.pc % 4 == 0)))
    where
      by_inst : (o : Option Inst) (word : ℕ) → word < 2 ^ 32 → instruction word ≡ o → KeepsWords (run_fetched b g o m h)
      by_inst None word small e = tt
      by_inst (Some inst) word small e = acted_words inst (back word inst small e) m w h

      by_word : (o : Option ℕ) → Small 32 o → KeepsWords (run_fetched b g (option_and_then instruction o) m h)
      by_word None s = tt
      by_word (Some word) s = by_inst (instruction word) word s refl

      by_place : (c : Bool) → KeepsWords (run_fetched b g (if c then option_and_then instruction (plain_load g 4 (offset m.pc)) else None) m h)
      by_place true = by_word (plain_load g 4 (offset m.pc)) (plain_loaded b g bytes 4 (offset m.pc))
      by_place false = tt

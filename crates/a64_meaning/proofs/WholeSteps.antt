-- A step that has loaded a cell goes on.
use Rattle.std.proofs.Common.{ℕ, ◌-◌, ◌%◌, ◌^◌, ◌==◌, ◌&&◌, not, Bool, true, false, Option, Some, None, nat_lt, if◌then◌else◌}
use Rattle.a64_code.specs.declared.inst.Inst.{Inst}
use Rattle.a64_code.specs.declared.inst.Inst.TheVariants as insts
use Rattle.a64_meaning.specs.Machine.{Machine, Bytes, Ground, Goal, Next, Loads, Helper, Stub, BadCode, BadAccess, segment, offset, reg_or_sp}
use Rattle.a64_meaning.specs.Access.{Found, Number, Cell, Nothing, found, take_found, is_found, is_writable}
use Rattle.a64_meaning.specs.Effects.{act, scaled, indexed, pair_moved, above}
use Rattle.a64_meaning.specs.Step.{step, fetched, run_fetched}
use Rattle.a64_meaning.specs.Whole.{GoesOn, Whole}

either : {H : Type 0} (c : Bool) (x y : Goal H) → Whole x → Whole y → Whole (if c then x else y)
either true x y p q = p
either false x y p q = q

goes : {H : Type 0} (x : Goal H) → GoesOn x → Whole x
unfolding GoesOn Whole
goes (Next m h) p = tt
goes (Loads rva go) p = p
goes (Helper n) p = tt
goes (Stub n) p = tt
goes (BadCode address) p = tt
goes (BadAccess address) p = tt

module _ {H : Type 0} (b : Bytes H) (g : Ground) where
  taken : (address : ℕ) (f : Found) (go : ℕ → Goal H) → ((n : ℕ) → GoesOn (go n)) → Whole (take_found b g address f go)
  unfolding Whole
  taken address Nothing go k = tt
  taken address (Cell rva) go k = k
  taken address (Number n) go k = goes (go n) (k n)

  taken_both : (p q : ℕ) (f e : Found) (go : ℕ → ℕ → Goal H) → ((n k : ℕ) → GoesOn (go n k))
      → Whole (if not (is_found b g f) then BadAccess p else if not (is_found b g e) then BadAccess q else take_found b g p f (λ n. take_found b g q e (go n)))
  unfolding Whole GoesOn
  taken_both p q Nothing e go k = tt
  taken_both p q (Cell rva) Nothing go k = tt
  taken_both p q (Number n) Nothing go k = tt
  taken_both p q (Cell rva) (Cell two) go k = k
  taken_both p q (Cell rva) (Number i) go k = λ n. k n i
  taken_both p q (Number n) (Cell two) go k = k n
  taken_both p q (Number n) (Number i) go k = goes (go n i) (k n i)

  acted : (inst : Inst) (m : Machine) (h : H) → Whole (act b g inst m h)
  unfolding act Whole GoesOn
  acted (insts.StoreImmediate base rt rn imm12) m h = either (is_writable b g h (2 ^ base) (scaled m rn imm12 (2 ^ base))) _ _ tt tt
  acted (insts.StoreRegister base rt rn s rm) m h = either (is_writable b g h (2 ^ base) (indexed m rn rm s (2 ^ base))) _ _ tt tt
  acted (insts.LoadImmediate base rt rn imm12) m h =
      taken (scaled m rn imm12 (2 ^ base)) (found b g h (2 ^ base) (scaled m rn imm12 (2 ^ base))) _ (λ n. tt)
  acted (insts.LoadSignedImmediate64 base rt rn imm12) m h =
      taken (scaled m rn imm12 (2 ^ base)) (found b g h (2 ^ base) (scaled m rn imm12 (2 ^ base))) _ (λ n. tt)
  acted (insts.LoadSignedImmediate32 base rt rn imm12) m h =
      taken (scaled m rn imm12 (2 ^ base)) (found b g h (2 ^ base) (scaled m rn imm12 (2 ^ base))) _ (λ n. tt)
  acted (insts.LoadRegister base rt rn s rm) m h =
      taken (indexed m rn rm s (2 ^ base)) (found b g h (2 ^ base) (indexed m rn rm s (2 ^ base))) _ (λ n. tt)
  acted (insts.LoadSignedRegister base rt rn s rm) m h =
      either (nat_lt base 3) _ _
      (taken (indexed m rn rm s (2 ^ base)) (found b g h (2 ^ base) (indexed m rn rm s (2 ^ base))) _ (λ n. tt))
      (taken (indexed m rn rm s (2 ^ (base - 3))) (found b g h (2 ^ (base - 3)) (indexed m rn rm s (2 ^ (base - 3)))) _ (λ n. tt))
  acted (insts.Pair base rt rn rt2 imm7) m h =
      either (base == 0) _ _
      (either (not (is_writable b g h 8 (pair_moved m rn imm7))) _ _ tt
      (either (not (is_writable b g h 8 (above (pair_moved m rn imm7)))) _ _ tt tt))
      (taken_both (reg_or_sp m rn) (above (reg_or_sp m rn)) (found b g h 8 (reg_or_sp m rn)) (found b g h 8 (above (reg_or_sp m rn))) _ (λ n k. tt))
  acted inst m h = tt

  fetched_whole : (o : Option Inst) (m : Machine) (h : H) → Whole (run_fetched b g o m h)
  unfolding Whole
  fetched_whole None m h = tt
  fetched_whole (Some inst) m h = acted inst m h

  pub step_whole : (m : Machine) (h : H) → Whole (step b g m h)
  unfolding step Whole
  step_whole m h =
      either (segment m.pc == 3 && m.pc % 16 == 0) _ _ tt
      (either (segment m.pc == 4 && m.pc % 16 == 0) _ _ tt (fetched_whole (fetched g m.pc) m h))

-- A step from a machine of words goes on with a machine of words.
use Rattle.std.proofs.Common.{◌≡◌, ◌<◌, ◌≤◌, ℕ, zero, suc, ◌+◌, ◌-◌, ◌*◌, ◌/◌, ◌%◌, ◌^◌, ◌==◌, ◌&&◌, ◌||◌, not, Bool, true, false, cond, Option, Some, None, refl, sym, ap, ◌∙◌, subst, arith}
use Rattle.std.proofs.Common.{nat_lt, nat_le, if◌then◌else◌, IsTrue, eqb}
use Rattle.std.specs.Option.{option_map, option_and_then}
use Rattle.std.proofs.lemmas.Bool.Decides.{nat_tests}
use Rattle.std.proofs.lemmas.Nat.{mod_below, pow-add}
use Rattle.std.proofs.Math.Pow.{pow_mono}
use Rattle.a64_code.specs.declared.inst.Inst.{Inst}
use Rattle.a64_code.specs.declared.inst.Inst.TheVariants as insts
use Rattle.a64_code.specs.Words.{width, InRange}
use Rattle.a64_meaning.specs.Numbers.{low, Sum}
use Rattle.a64_meaning.specs.Machine.{Machine, Bytes, Ground, Goal, Next, Loads, Helper, Stub, BadCode, BadAccess, segment, offset, reg, reg_or_sp, upd, set_reg, set_reg_or_sp, set_flags, go_to, following, on, is_data}
use Rattle.a64_meaning.specs.Access.{load, in_cell, is_cell, plain_byte, plain_load, are_there, Found, Number, Cell, Nothing, found, found_plain, take_found}
use Rattle.a64_meaning.specs.Effects.{result}
use Rattle.a64_meaning.specs.Whole.{HasWords, HasBytes, KeepsWords}

-- ---- registers

both_words : (c : Bool) (p q : ℕ) → p < 2 ^ 64 → q < 2 ^ 64 → cond c p q < 2 ^ 64
both_words true p q x y = x
both_words false p q x y = y

pub reg_word : (m : Machine) → HasWords m → (r : ℕ) → reg m r < 2 ^ 64
reg_word m w r = both_words (eqb r 31) 0 (m.x r) (omega arith) (w.x r)

pub reg_or_sp_word : (m : Machine) → HasWords m → (r : ℕ) → reg_or_sp m r < 2 ^ 64
reg_or_sp_word m w r = both_words (eqb r 31) m.sp (m.x r) w.sp (w.x r)

kept : (c : Bool) (x y : ℕ → ℕ) → ((r : ℕ) → x r < 2 ^ 64) → ((r : ℕ) → y r < 2 ^ 64) → (r : ℕ) → cond c x y r < 2 ^ 64
kept true x y p q = p
kept false x y p q = q

pub set_words : (m : Machine) → HasWords m → (r n : ℕ) → n < 2 ^ 64 → HasWords (set_reg m r n)
set_words m w r n small = record {
  x = kept (eqb r 31) m.x (upd m.x r n) w.x (λ k. both_words (eqb k r) n (m.x k) small (w.x k));
  sp = w.sp;
  pc = w.pc;
  nzcv = w.nzcv;
}

pub set_or_sp_words : (m : Machine) → HasWords m → (r n : ℕ) → n < 2 ^ 64 → HasWords (set_reg_or_sp m r n)
set_or_sp_words m w r n small = record {
  x = kept (eqb r 31) m.x (upd m.x r n) w.x (λ k. both_words (eqb k r) n (m.x k) small (w.x k));
  sp = both_words (eqb r 31) n m.sp small w.sp;
  pc = w.pc;
  nzcv = w.nzcv;
}

pub flag_words : (m : Machine) → HasWords m → (n : ℕ) → n < 16 → HasWords (set_flags m n)
flag_words m w n small = record { x = w.x; sp = w.sp; pc = w.pc; nzcv = small }

pub going_words : (m : Machine) → HasWords m → (n : ℕ) → n < 2 ^ 64 → HasWords (go_to m n)
going_words m w n small = record { x = w.x; sp = w.sp; pc = small; nzcv = w.nzcv }

pub on_words : (m : Machine) → HasWords m → HasWords (on m)
on_words m w = going_words m w (following m) (mod_below (m.pc + 4) (2 ^ 64) (omega arith))

pub result_words : (m : Machine) → HasWords m → (r n : ℕ) → n < 2 ^ 64 → HasWords (result m r n)
result_words m w r n small = on_words (set_reg m r n) (set_words m w r n small)

pub either_words : (c : Bool) (m n : Machine) → HasWords m → HasWords n → HasWords (if c then m else n)
either_words true m n p q = p
either_words false m n p q = q

-- ---- what is loaded

wider : (n : ℕ) → 2 ^ (8 * suc n) ≡ 2 ^ (8 * n) * 256
wider n = let e : 8 * suc n ≡ 8 * n + 8 = omega arith in ap (λ k. 2 ^ k) e ∙ pow-add 2 (8 * n) 8

loaded : (n : ℕ) (byte : ℕ → ℕ) → ((a : ℕ) → byte a < 256) → (a : ℕ) → load n byte a < 2 ^ (8 * n)
unfolding load
loaded zero byte small a = omega arith
loaded (suc n) byte small a = omega (arith, wider n, small a, loaded n byte small (a + 1))

unfoldable pub Small : ℕ → Option ℕ → Type 0
Small k None = Unit {0}
Small k (Some n) = n < 2 ^ k

joined : (n : ℕ) (o p : Option ℕ) → Small 8 o → Small (8 * n) p
    → Small (8 * suc n) (option_and_then (λ low. option_map (λ rest. low + 256 * rest) p) o)
unfolding Small
joined n None p x y = tt
joined n (Some i) None x y = tt
joined n (Some i) (Some k) x y = omega (arith, wider n, x, y)

unfoldable pub InFound : ℕ → Found → Type 0
InFound size Nothing = Unit {0}
InFound size (Cell rva) = size ≡ 8
InFound size (Number n) = n < 2 ^ (8 * size)

module _ {H : Type 0} (b : Bytes H) (g : Ground) (bytes : HasBytes b g) where
  plain_small : (rva : ℕ) → Small 8 (plain_byte g rva)
  unfolding Small
  plain_small rva = by_cell (in_cell g.cells rva)
    where
      by_byte : (o : Option ℕ) → g.byte rva ≡ o → Small 8 o
      by_byte None e = tt
      by_byte (Some n) e = bytes.image rva n e

      by_cell : (c : Bool) → Small 8 (if c then None else g.byte rva)
      by_cell true = tt
      by_cell false = by_byte (g.byte rva) refl

  pub plain_loaded : (n rva : ℕ) → Small (8 * n) (plain_load g n rva)
  unfolding plain_load Small
  plain_loaded zero rva = omega arith
  plain_loaded (suc n) rva = joined n (plain_byte g rva) (plain_load g n (rva + 1)) (plain_small rva) (plain_loaded n (rva + 1))

  pub found_small : (h : H) (size a : ℕ) → InFound size (found b g h size a)
  unfolding found InFound Small
  found_small h size a = by_segment (segment a == 1)
    where
      by_plain : (o : Option ℕ) → Small (8 * size) o → InFound size (found_plain o)
      by_plain None s = tt
      by_plain (Some n) s = s

      by_cell : (c d : Bool) → (size == 8) ≡ c
          → InFound size (if c && d then Cell (offset a) else found_plain (plain_load g size (offset a)))
      by_cell true true e = grind (arith, nat_tests)
      by_cell true false e = by_plain (plain_load g size (offset a)) (plain_loaded size (offset a))
      by_cell false d e = by_plain (plain_load g size (offset a)) (plain_loaded size (offset a))

      by_data : (c : Bool) → InFound size (if c then Number (load size (b.byte h) a) else Nothing)
      by_data true = loaded size (b.byte h) (bytes.memory h) a
      by_data false = tt

      by_segment : (c : Bool)
          → InFound size (if c then (if size == 8 && is_cell g.cells (offset a) then Cell (offset a) else found_plain (plain_load g size (offset a)))
          else (if is_data (segment a) && are_there (b.size h (segment a)) (offset a) size then Number (load size (b.byte h) a) else Nothing))
      by_segment true = by_cell (size == 8) (is_cell g.cells (offset a)) refl
      by_segment false = by_data (is_data (segment a) && are_there (b.size h (segment a)) (offset a) size)

  pub taken_words : (a size : ℕ) (f : Found) (go : ℕ → Goal H) → InFound size f
      → ((n : ℕ) → n < 2 ^ (8 * size) → KeepsWords (go n)) → KeepsWords (take_found b g a f go)
  unfolding KeepsWords InFound
  taken_words a size Nothing go s k = tt
  taken_words a size (Cell rva) go s k = λ n small. k n (subst (λ i. n < 2 ^ (8 * i)) (sym s) small)
  taken_words a size (Number n) go s k = k n s

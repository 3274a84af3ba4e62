-- An instruction that is read has bytes, and ends in the code.
use Rattle.std.proofs.Common.{◌≡◌, ℕ, ◌+◌, ◌*◌, ◌<◌, ◌≤◌, Bool, true, false, cond, List, length, drop, Option, Some}
use Rattle.std.proofs.Common.{None, Ok, refl, subst, arith, IfSome, pos}
use Rattle.std.specs.Prelude.{nat_le, nat_lt}
use Rattle.std.specs.Option.{option_map, option_and_then}
use Rattle.std.proofs.lemmas.Bool.Decides.{nat_tests}
use Rattle.std.proofs.lemmas.List.FromFn.{length-map-range_with_len}
use Rattle.rtr_bytes.specs.Field.{field_at}
use Rattle.byteorder.specs.Endian.{little_number, twos_complement}
use Rattle.cil_decode.specs.declared.opcode.Operand.{Operand}
use Rattle.cil_decode.specs.declared.opcode.Operand.TheVariants as operands
use Rattle.cil_decode.specs.declared.instr.Arg.{Arg}
use Rattle.cil_decode.specs.declared.instr.Arg.TheVariants as args
use Rattle.cil_decode.specs.declared.instr.Instr.{Instr}
use Rattle.cil_decode.specs.Opcodes.{operand_of}
use Rattle.cil_decode.specs.Instructions.{form_in, form_size, instr, instr_at, instr_size, operand_at, operand_size}
use Rattle.cil_decode.specs.Instructions.{signed_at, switch_at, switch_target, target, with_arg, with_form}
use Rattle.cil_decode.specs.Instructions.{with_operand}

-- what holds of both sides of a test
either_way : {X : Type 0} (P : X → Type 0) (b : Bool) (x y : X) → (b ≡ true → P x) → (b ≡ false → P y) → P (cond b x y)
either_way P true x y here there = here refl
either_way P false x y here there = there refl

-- an operand ends in the code
abbrev Ends : List ℕ → ℕ → Operand → Option Arg → Type 0
Ends code at operand arg = IfSome arg (λ a. at + operand_size operand a ≤ length code)

number_ends : (code : List ℕ) (at n : ℕ) (f : ℕ → Arg) → IfSome (option_map f (field_at n code at)) (λ a. at + n ≤ length code)
number_ends code at n f =
    let P : Option ℕ → Type 0 = λ o. IfSome (option_map f o) (λ a. at + n ≤ length code) in
    either_way P (nat_le (at + n) (length code)) (Some (little_number n (drop at code))) None (λ t. grind (arith, nat_tests)) (λ _. tt)

signed_ends : (code : List ℕ) (at n : ℕ) → IfSome (option_map args.Num (signed_at code at n)) (λ a. at + n ≤ length code)
signed_ends code at n =
    let P : Option ℕ → Type 0 = λ o. IfSome (option_map args.Num (option_map (twos_complement n) o)) (λ a. at + n ≤ length code) in
    either_way P (nat_le (at + n) (length code)) (Some (little_number n (drop at code))) None (λ t. grind (arith, nat_tests)) (λ _. tt)

switch_ends : (code : List ℕ) (at count : ℕ) → Ends code at operands.Targets (switch_at code at count)
switch_ends code at count =
    let P : Option Arg → Type 0 = Ends code at operands.Targets in
    let n = length-map-range_with_len (switch_target code at count) 0 count in
    either_way P (nat_le (at + 4 + 4 * count) (length code)) _ None (λ t. grind (arith, nat_tests, n)) (λ _. tt)

switch_operand_ends : (code : List ℕ) (at : ℕ) (count : Option ℕ)
    → Ends code at operands.Targets (option_and_then (switch_at code at) count)
switch_operand_ends code at None = tt
switch_operand_ends code at (Some count) = switch_ends code at count

pub operand_ends : (code : List ℕ) (at : ℕ) (operand : Operand) → at ≤ length code → Ends code at operand (operand_at code at operand)
unfolding operand_at
operand_ends code at operands.Nothing h = omega arith
operand_ends code at operands.UInt8 h = number_ends code at 1 (λ n. args.Num (pos n))
operand_ends code at operands.UInt16 h = number_ends code at 2 (λ n. args.Num (pos n))
operand_ends code at operands.Int8 h = signed_ends code at 1
operand_ends code at operands.Int32 h = signed_ends code at 4
operand_ends code at operands.Int64 h = signed_ends code at 8
operand_ends code at operands.Token h = number_ends code at 4 args.Token
operand_ends code at operands.ShortTarget h = number_ends code at 1 (λ distance. args.Target (target 1 (at + 1) distance))
operand_ends code at operands.Target h = number_ends code at 4 (λ distance. args.Target (target 4 (at + 4) distance))
operand_ends code at operands.Targets h = switch_operand_ends code at (field_at 4 code at)

-- the same of an operand that is there
pub some_ends : (code : List ℕ) (at : ℕ) (operand : Operand) (arg : Arg) → at ≤ length code
    → operand_at code at operand ≡ Some arg → at + operand_size operand arg ≤ length code
some_ends code at operand arg h e = subst (Ends code at operand) e (operand_ends code at operand h)

-- the size of an instruction whose opcode is of the profile
pub size_of : (at form : ℕ) (arg : Arg) (operand : Operand) → operand_of form ≡ Some operand
    → instr_size (instr at form arg) ≡ form_size form + operand_size operand arg
unfolding instr_size
size_of at form arg operand e = rw e refl

-- it is at its offset, and has bytes
pub record IsRead (code : List ℕ) (at : ℕ) (i : Instr) : Type 0 where
  pub at_is : i.at ≡ at
  pub some : 0 < instr_size i

pub some_size : (i : Instr) → 0 < instr_size i
unfolding instr_size
some_size i =
    let P : ℕ → Type 0 = λ n. 0 < n in
    let some : 0 < form_size i.form = either_way P (nat_lt i.form 0x100) 1 2 (λ _. omega arith) (λ _. omega arith) in
    omega arith

with_arg-read : (code : List ℕ) (at form : ℕ) (arg : Option Arg) (i : Instr) → with_arg at form arg ≡ Ok i → IsRead code at i
with_arg-read code at form None i e = absurd (let x : ⊥ = cc in x)
with_arg-read code at form (Some arg) i e =
    let same : instr at form arg ≡ i = cc in
    subst (IsRead code at) same (record { at_is = refl; some = some_size (instr at form arg) })

with_operand-read : (code : List ℕ) (at form : ℕ) (operand : Option Operand) (i : Instr)
    → with_operand code at form operand ≡ Ok i → IsRead code at i
with_operand-read code at form None i e = absurd (let x : ⊥ = cc in x)
with_operand-read code at form (Some operand) i e = with_arg-read code at form (operand_at code (at + form_size form) operand) i e

with_form-read : (code : List ℕ) (at : ℕ) (form : Option ℕ) (i : Instr) → with_form code at form ≡ Ok i → IsRead code at i
with_form-read code at None i e = absurd (let x : ⊥ = cc in x)
with_form-read code at (Some form) i e = with_operand-read code at form (operand_of form) i e

pub is_read : (code : List ℕ) (at : ℕ) (i : Instr) → instr_at code at ≡ Ok i → IsRead code at i
unfolding instr_at
is_read code at i e = with_form-read code at (form_in (drop at code)) i e

pub offset_is : (code : List ℕ) (at : ℕ) (i : Instr) → instr_at code at ≡ Ok i → i.at ≡ at
offset_is code at i e = (is_read code at i e).at_is

-- The bytes of instructions are the code that they were read from.
use Rattle.std.proofs.Common.{◌≡◌, ℕ, zero, suc, ◌+◌, ◌%◌, ◌^◌, ◌<◌, ◌≤◌, Bool, true, false, cond, List, [], ◌∷◌, ◌++◌}
use Rattle.std.proofs.Common.{length, drop, get_or, Option, Some, None, Ok, refl, sym, ap, ◌∙◌, subst, arith}
use Rattle.std.proofs.Common.{append_assoc, append-nil}
use Rattle.std.specs.Prelude.{nat_lt, ◌==◌}
use Rattle.std.proofs.lemmas.Bool.Decides.{nat_tests}
use Rattle.std.proofs.lemmas.List.{drop-drop, drop_all}
use Rattle.cil_decode.specs.declared.opcode.Operand.{Operand}
use Rattle.cil_decode.specs.declared.instr.Arg.{Arg}
use Rattle.cil_decode.specs.declared.instr.Instr.{Instr}
use Rattle.cil_decode.specs.Opcodes.{operand_of}
use Rattle.cil_decode.specs.Bodies.{AreBytes, Follow, IsBody, IsCode, IsDecoded}
use Rattle.cil_decode.specs.Encoding.{arg_bytes, code_bytes, form_bytes, instr_bytes}
use Rattle.cil_decode.specs.Instructions.{fixed_size, form_in, form_size, instr, instr_at, instr_size, operand_at}
use Rattle.cil_decode.specs.Instructions.{operand_size, second_in, with_arg, with_form, with_operand}
use Rattle.cil_decode.proofs.Sizes.{is_read, size_of}
use Rattle.cil_decode.proofs.Followed.{follow_up}
use Rattle.cil_decode.proofs.Fields.{IsSpelled, bytes_from, operand_spelled}

-- ---- an opcode

record IsForm (bytes : List ℕ) (form : ℕ) : Type 0 where
  spelled : bytes ≡ form_bytes form ++ drop (form_size form) bytes
  within : form_size form ≤ length bytes

second_form : (bytes : List ℕ) (form : ℕ) → AreBytes bytes → second_in bytes ≡ Some form → IsForm (0xFE ∷ bytes) form
second_form [] form h e = absurd (let x : ⊥ = cc in x)
second_form (b ∷ bytes) form h e =
    let below : b < 256 = h 0 in
    let same : 0xFE00 + b ≡ form = cc in
    let two : nat_lt form 0x100 ≡ false = grind (arith, nat_tests) in
    let low : form % 0x100 ≡ b = omega arith in
    record { spelled = rw (two, low) refl; within = rw two (omega arith) }

first_form : (b form : ℕ) (bytes : List ℕ) (t : Bool) → AreBytes (b ∷ bytes) → (b == 0xFE) ≡ t
    → cond t (second_in bytes) (Some b) ≡ Some form → IsForm (b ∷ bytes) form
first_form b form bytes true h test e =
    let same : b ≡ 0xFE = grind (arith, nat_tests) in
    subst (λ n. IsForm (n ∷ bytes) form) (sym same) (second_form bytes form (λ i. h (suc i)) e)
first_form b form bytes false h test e =
    let below : b < 256 = h 0 in
    let same : b ≡ form = cc in
    let one : nat_lt b 0x100 ≡ true = grind (arith, nat_tests) in
    subst (IsForm (b ∷ bytes)) same (record { spelled = rw one refl; within = rw one (omega arith) })

form_is : (bytes : List ℕ) (form : ℕ) → AreBytes bytes → form_in bytes ≡ Some form → IsForm bytes form
form_is [] form h e = absurd (let x : ⊥ = cc in x)
form_is (b ∷ bytes) form h e = first_form b form bytes (b == 0xFE) h refl e

-- ---- an instruction

-- the parts of one that was read
record Parts (code : List ℕ) (at : ℕ) (i : Instr) : Type 0 where
  form : ℕ
  operand : Operand
  arg : Arg
  whole : instr at form arg ≡ i
  form_is : form_in (drop at code) ≡ Some form
  operand_is : operand_of form ≡ Some operand
  arg_is : operand_at code (at + form_size form) operand ≡ Some arg

with_arg-parts : (code : List ℕ) (at form : ℕ) (operand : Operand) (arg : Option Arg) (i : Instr)
    → form_in (drop at code) ≡ Some form → operand_of form ≡ Some operand
    → operand_at code (at + form_size form) operand ≡ arg → with_arg at form arg ≡ Ok i → Parts code at i
with_arg-parts code at form operand None i f o a e = absurd (let x : ⊥ = cc in x)
with_arg-parts code at form operand (Some arg) i f o a e = record {
  form = form;
  operand = operand;
  arg = arg;
  whole = cc;
  form_is = f;
  operand_is = o;
  arg_is = a;
}

with_operand-parts : (code : List ℕ) (at form : ℕ) (operand : Option Operand) (i : Instr)
    → form_in (drop at code) ≡ Some form → operand_of form ≡ operand → with_operand code at form operand ≡ Ok i → Parts code at i
with_operand-parts code at form None i f o e = absurd (let x : ⊥ = cc in x)
with_operand-parts code at form (Some operand) i f o e =
    with_arg-parts code at form operand (operand_at code (at + form_size form) operand) i f o refl e

with_form-parts : (code : List ℕ) (at : ℕ) (form : Option ℕ) (i : Instr) → form_in (drop at code) ≡ form
    → with_form code at form ≡ Ok i → Parts code at i
with_form-parts code at None i f e = absurd (let x : ⊥ = cc in x)
with_form-parts code at (Some form) i f e = with_operand-parts code at form (operand_of form) i f refl e

parts : (code : List ℕ) (at : ℕ) (i : Instr) → instr_at code at ≡ Ok i → Parts code at i
unfolding instr_at
parts code at i e = with_form-parts code at (form_in (drop at code)) i refl e

bytes_of : (at form : ℕ) (arg : Arg) (operand : Operand) → operand_of form ≡ Some operand
    → instr_bytes (instr at form arg)
    ≡ form_bytes form ++ arg_bytes (fixed_size operand) (at + form_size form + operand_size operand arg) arg
unfolding instr_bytes
bytes_of at form arg operand e =
    let size = size_of at form arg operand e in
    rw e (ap (λ n. form_bytes form ++ arg_bytes (fixed_size operand) n arg) (omega (arith, size)))

spelled : (code : List ℕ) (at : ℕ) (i : Instr) → AreBytes code → length code ≤ 2 ^ 31 → at ≤ length code
    → instr_at code at ≡ Ok i → drop at code ≡ instr_bytes i ++ drop (at + instr_size i) code
spelled code at i h small within e =
    let p = parts code at i e in
    let form = form_is (drop at code) p.form (bytes_from code at h) p.form_is in
    let size = size_of at p.form p.arg p.operand p.operand_is in
    let end = at + form_size p.form + operand_size p.operand p.arg in
    let operand : IsSpelled code (at + form_size p.form) p.operand p.arg =
    operand_spelled code (at + form_size p.form) p.operand p.arg h small p.arg_is in
    let bytes = arg_bytes (fixed_size p.operand) end p.arg in
    let P : Instr → Type 0 = λ j. drop at code ≡ instr_bytes j ++ drop (at + instr_size j) code in
    let last : drop end code ≡ drop (at + instr_size (instr at p.form p.arg)) code = ap (λ n. drop n code) (omega (arith, size)) in
    subst P p.whole (
    form.spelled
    ∙ ap (λ xs. form_bytes p.form ++ xs) (drop-drop (form_size p.form) at code ∙ operand)
    ∙ sym (append_assoc (form_bytes p.form) bytes (drop end code))
    ∙ ap (λ xs. xs ++ drop end code) (sym (bytes_of at p.form p.arg p.operand p.operand_is))
    ∙ ap (λ xs. instr_bytes (instr at p.form p.arg) ++ xs) last
    )

-- ---- the code

follow_spelled : (code : List ℕ) (at n : ℕ) (is : List Instr) → AreBytes code → length code ≤ 2 ^ 31 → n ≤ length code
    → Follow code at is n → drop at code ≡ code_bytes is ++ drop n code
follow_spelled code at n [] h small within e = ap (λ m. drop m code) e
follow_spelled code at n (i ∷ is) h small within (read, rest) =
    let later = follow_up code (at + instr_size i) n is rest in
    spelled code at i h small (omega arith) read
    ∙ ap (λ xs. instr_bytes i ++ xs) (follow_spelled code (at + instr_size i) n is h small within rest)
    ∙ sym (append_assoc (instr_bytes i) (code_bytes is) (drop n code))

code_is_bytes : (code : List ℕ) (list : List Instr) → AreBytes code → length code ≤ 2 ^ 31 → IsCode code list → code ≡ code_bytes list
code_is_bytes code list h small c =
    follow_spelled code 0 (length code) list h small (omega arith) c.follow
    ∙ ap (λ xs. code_bytes list ++ xs) (drop_all (length code) code (omega arith))
    ∙ append-nil (code_bytes list)

-- two codes of some instructions are equally long
same_end : (c d : List ℕ) (at m n : ℕ) (is : List Instr) → Follow c at is m → Follow d at is n → m ≡ n
same_end c d at m n [] e f = sym e ∙ f
same_end c d at m n (i ∷ is) (r, f) (s, g) = same_end c d (at + instr_size i) m n is f g

-- ---- what is written

ends_within : (code : List ℕ) (at n : ℕ) (is : List Instr) → Follow code at is n → (k : ℕ) (d : Instr) → k < length is
    → (get_or is k d).at + instr_size (get_or is k d) ≤ n
ends_within code at n [] f k d h = absurd (let x : ⊥ = omega arith in x)
ends_within code at n (i ∷ is) (read, rest) zero d h =
    let first = is_read code at i read in
    let later = follow_up code (at + instr_size i) n is rest in
    omega (arith, first.at_is, later)
ends_within code at n (i ∷ is) (read, rest) (suc k) d h = ends_within code (at + instr_size i) n is rest k d (omega arith)

pub ends_small : (list : List Instr) → IsDecoded list → (k : ℕ) (d : Instr) → k < length list
    → (get_or list k d).at + instr_size (get_or list k d) ≤ 2 ^ 31
ends_small list c k d h =
    let within = ends_within c.code 0 (length c.code) list c.body.code_is.follow k d h in
    let small = c.small in
    omega (arith, within, small)

pub encoded : (list : List Instr) (out : List ℕ) → IsDecoded list → out ≡ code_bytes list → IsBody out list
encoded list out c e = subst (λ code. IsBody code list) (code_is_bytes c.code list c.bytes c.small c.body.code_is ∙ sym e) c.body

pub only_encoded : (list : List Instr) (out : List ℕ) → IsDecoded list → out ≡ code_bytes list → (other : List ℕ)
    → AreBytes other → IsBody other list → out ≡ other
only_encoded list out c e other h body =
    let same = same_end c.code other 0 (length c.code) (length other) list c.body.code_is.follow body.code_is.follow in
    let small = c.small in
    e ∙ sym (code_is_bytes other list h (omega (arith, same, small)) body.code_is)

-- An operand is spelled by the bytes that it was read from.
use Rattle.std.proofs.Common.{◌≡◌, ℕ, zero, suc, ◌+◌, ◌*◌, ◌%◌, ◌^◌, ◌-◌, ◌<◌, ◌≤◌, Bool, true, false, cond, List, ◌++◌}
use Rattle.std.proofs.Common.{length, map, take, drop, Option, Some, None, refl, sym, ap, ◌∙◌, subst, arith, ℤ, pos}
use Rattle.std.specs.Prelude.{nat_le, nat_lt, unwrap_or, ◌-ℤ◌}
use Rattle.std.proofs.Math.Nat.{mod-eq_of_lt}
use Rattle.std.specs.Option.{option_map, option_and_then}
use Rattle.std.specs.List.{range_with_len}
use Rattle.std.specs.Int.{w64, cast_unsigned}
use Rattle.std.proofs.lemmas.Int.{ints, of_z-to_z, to_z_pos}
use Rattle.std.proofs.lemmas.Bool.Decides.{nat_tests}
use Rattle.std.proofs.lemmas.List.{drop-drop, get_or-drop, length-drop, take-append-drop}
use Rattle.std.proofs.lemmas.List.FromFn.{length-map-range_with_len}
use Rattle.rtr_bytes.specs.Field.{field_at, u32_of}
use Rattle.byteorder.specs.Endian.{little_bytes, little_number, twos_complement}
use Rattle.byteorder.specs.Numbers.{little_from-lt}
use Rattle.cil_decode.specs.declared.opcode.Operand.{Operand}
use Rattle.cil_decode.specs.declared.opcode.Operand.TheVariants as operands
use Rattle.cil_decode.specs.declared.instr.Arg.{Arg}
use Rattle.cil_decode.specs.declared.instr.Arg.TheVariants as args
use Rattle.cil_decode.specs.Bodies.{AreBytes}
use Rattle.cil_decode.specs.Encoding.{arg_bytes, distance, distances}
use Rattle.cil_decode.specs.Instructions.{fixed_size, operand_at, operand_size, signed_at, switch_at, switch_target, target}
use Rattle.cil_decode.proofs.Numbers.{bytes_of_number, low_bytes}

pub bytes_from : (code : List ℕ) (at : ℕ) → AreBytes code → AreBytes (drop at code)
bytes_from code at h = λ i. subst (λ b. b < 256) (sym (get_or-drop at code i 0)) (h (at + i))

-- ---- one field

-- a number is at an offset, in so many bytes
record IsField (n : ℕ) (code : List ℕ) (at v : ℕ) : Type 0 where
  within : at + n ≤ length code
  bytes : drop at code ≡ little_bytes n v ++ drop (at + n) code
  below : v < 256 ^ n

field_here : (n : ℕ) (code : List ℕ) (at v : ℕ) → AreBytes code → at + n ≤ length code
    → little_number n (drop at code) ≡ v → IsField n code at v
field_here n code at v h within is =
    let rest = drop at code in
    let few : n ≤ length rest = omega (arith, length-drop at code) in
    let read : take n rest ≡ little_bytes n v = sym (bytes_of_number n rest (bytes_from code at h) few) ∙ ap (little_bytes n) is in
    record {
      within = within;
      bytes = sym (take-append-drop n rest) ∙ ap (λ xs. xs ++ drop n rest) read ∙ ap (λ xs. little_bytes n v ++ xs) (drop-drop n at code);
      below = subst (λ m. m < 256 ^ n) is (little_from-lt 0 n rest (bytes_from code at h));
    }

field_if : (n : ℕ) (code : List ℕ) (at v : ℕ) (t : Bool) → AreBytes code → nat_le (at + n) (length code) ≡ t
    → cond t (Some (little_number n (drop at code))) None ≡ Some v → IsField n code at v
field_if n code at v true h test e = field_here n code at v h (grind (arith, nat_tests)) (cc)
field_if n code at v false h test e = absurd (let x : ⊥ = cc in x)

field_is : (n : ℕ) (code : List ℕ) (at v : ℕ) → AreBytes code → field_at n code at ≡ Some v → IsField n code at v
field_is n code at v h e = field_if n code at v (nat_le (at + n) (length code)) h refl e

-- an operand that a field's number makes
record IsMade (n : ℕ) (code : List ℕ) (at : ℕ) (f : ℕ → Arg) (arg : Arg) : Type 0 where
  v : ℕ
  made : f v ≡ arg
  field : IsField n code at v

made_of : (n : ℕ) (code : List ℕ) (at : ℕ) (f : ℕ → Arg) (arg : Arg) (o : Option ℕ) → AreBytes code
    → field_at n code at ≡ o → option_map f o ≡ Some arg → IsMade n code at f arg
made_of n code at f arg None h is e = absurd (let x : ⊥ = cc in x)
made_of n code at f arg (Some v) h is e = record { v = v; made = cc; field = field_is n code at v h is }

made : (n : ℕ) (code : List ℕ) (at : ℕ) (f : ℕ → Arg) (arg : Arg) → AreBytes code
    → option_map f (field_at n code at) ≡ Some arg → IsMade n code at f arg
made n code at f arg h e = made_of n code at f arg (field_at n code at) h refl e

mapped_twice : (f : ℕ → ℤ) (g : ℤ → Arg) (o : Option ℕ) → option_map g (option_map f o) ≡ option_map (λ n. g (f n)) o
mapped_twice f g None = refl
mapped_twice f g (Some n) = refl

-- ---- one operand

-- the bytes from an offset on are an operand and what follows it
abbrev pub IsSpelled : List ℕ → ℕ → Operand → Arg → Type 0
IsSpelled code at operand arg =
    drop at code ≡ arg_bytes (fixed_size operand) (at + operand_size operand arg) arg ++ drop (at + operand_size operand arg) code

-- other numbers with the same low bytes are spelled alike
alike : (n : ℕ) (code : List ℕ) (at v w : ℕ) → IsField n code at v → w % 256 ^ n ≡ v → drop at code ≡ little_bytes n w ++ drop (at + n) code
alike n code at v w f e = f.bytes ∙ ap (λ xs. xs ++ drop (at + n) code) (sym (low_bytes n w v e))

-- the low bytes of a number that is read
plain : (n v : ℕ) → v < 2 ^ 32 → v < 256 ^ n → cast_unsigned w64 (pos v) % 256 ^ n ≡ v
plain n v small below =
    let same : cast_unsigned w64 (pos v) ≡ v = ap (cast_unsigned w64) (sym (to_z_pos w64 v (omega arith)))
    ∙ of_z-to_z w64 v (omega arith) in
    ap (λ m. m % 256 ^ n) same ∙ mod-eq_of_lt below

low1 : (v : ℕ) (t : Bool) → nat_lt v 128 ≡ t → v < 256 → cast_unsigned w64 (cond t (pos v) (pos v -ℤ pos 256)) % 256 ≡ v
low1 v true test h = plain 1 v (omega arith) h
low1 v false test h =
    let high : 128 ≤ v = grind (arith, nat_tests) in
    let same : cast_unsigned w64 (pos v -ℤ pos 256) ≡ v + (2 ^ 64 - 256) = omega (arith, ints) in
    ap (λ m. m % 256) same ∙ omega arith

low4 : (v : ℕ) (t : Bool) → nat_lt v (2 ^ 31) ≡ t → v < 2 ^ 32 → cast_unsigned w64 (cond t (pos v) (pos v -ℤ pos (2 ^ 32))) % 2 ^ 32 ≡ v
low4 v true test h = plain 4 v h h
low4 v false test h =
    let high : 2 ^ 31 ≤ v = grind (arith, nat_tests) in
    let same : cast_unsigned w64 (pos v -ℤ pos (2 ^ 32)) ≡ v + (2 ^ 64 - 2 ^ 32) = omega (arith, ints) in
    ap (λ m. m % 2 ^ 32) same ∙ omega arith

low8 : (v : ℕ) (t : Bool) → nat_lt v (2 ^ 63) ≡ t → v < 2 ^ 64 → cast_unsigned w64 (cond t (pos v) (pos v -ℤ pos (2 ^ 64))) % 2 ^ 64 ≡ v
low8 v true test h =
    let low : v < 2 ^ 63 = grind (arith, nat_tests) in
    let same : cast_unsigned w64 (pos v) ≡ v = ap (cast_unsigned w64) (sym (to_z_pos w64 v low)) ∙ of_z-to_z w64 v h in
    ap (λ m. m % 2 ^ 64) same ∙ mod-eq_of_lt h
low8 v false test h =
    let high : 2 ^ 63 ≤ v = grind (arith, nat_tests) in
    let same : cast_unsigned w64 (pos v -ℤ pos (2 ^ 64)) ≡ v = omega (arith, ints) in
    ap (λ m. m % 2 ^ 64) same ∙ mod-eq_of_lt h

signed1 : (v : ℕ) → v < 256 ^ 1 → cast_unsigned w64 (twos_complement 1 v) % 256 ^ 1 ≡ v
signed1 v h = low1 v (nat_lt v 128) refl h

signed4 : (v : ℕ) → v < 256 ^ 4 → cast_unsigned w64 (twos_complement 4 v) % 256 ^ 4 ≡ v
signed4 v h = low4 v (nat_lt v (2 ^ 31)) refl h

signed8 : (v : ℕ) → v < 256 ^ 8 → cast_unsigned w64 (twos_complement 8 v) % 256 ^ 8 ≡ v
signed8 v h = low8 v (nat_lt v (2 ^ 63)) refl h

-- the distance of a target that is read
back : (next d : ℕ) → next ≤ 2 ^ 32 → d < 2 ^ 32 → distance next ((next + d) % 2 ^ 32) ≡ d
back next d h below = omega arith

short_back : (next v : ℕ) (t : Bool) → next ≤ 2 ^ 32 → v < 256 → distance next ((next + cond t v (v + (2 ^ 32 - 256))) % 2 ^ 32) % 256 ≡ v
short_back next v true h below = ap (λ m. m % 256) (back next v h (omega arith)) ∙ omega arith
short_back next v false h below = ap (λ m. m % 256) (back next (v + (2 ^ 32 - 256)) h (omega arith)) ∙ omega arith

short_distance : (next v : ℕ) → next ≤ 2 ^ 32 → v < 256 ^ 1 → distance next (target 1 next v) % 256 ^ 1 ≡ v
short_distance next v h below = short_back next v (nat_lt v 128) h below

far_back : (next v : ℕ) (t : Bool) → next ≤ 2 ^ 32 → v < 2 ^ 32 → distance next ((next + cond t v (v + 0)) % 2 ^ 32) % 2 ^ 32 ≡ v
far_back next v true h below = ap (λ m. m % 2 ^ 32) (back next v h below) ∙ omega arith
far_back next v false h below = ap (λ m. m % 2 ^ 32) (back next (v + 0) h (omega arith)) ∙ omega arith

far_distance : (next v : ℕ) → next ≤ 2 ^ 32 → v < 256 ^ 4 → distance next (target 4 next v) % 256 ^ 4 ≡ v
far_distance next v h below = far_back next v (nat_lt v (2 ^ 31)) h below

signed_spelled : (n : ℕ) (code : List ℕ) (at : ℕ) (arg : Arg) → AreBytes code
    → ((v : ℕ) → v < 256 ^ n → cast_unsigned w64 (twos_complement n v) % 256 ^ n ≡ v)
    → option_map args.Num (signed_at code at n) ≡ Some arg → drop at code ≡ arg_bytes n (at + n) arg ++ drop (at + n) code
signed_spelled n code at arg h low e =
    let m =
    made n code at (λ v. args.Num (twos_complement n v)) arg h
    (sym (mapped_twice (twos_complement n) args.Num (field_at n code at)) ∙ e) in
    let P : Arg → Type 0 = λ a. drop at code ≡ arg_bytes n (at + n) a ++ drop (at + n) code in
    subst P m.made (alike n code at m.v (cast_unsigned w64 (twos_complement n m.v)) m.field (low m.v m.field.below))

-- ---- the targets of a switch

word_if : (t : Bool) (x : ℕ) → t ≡ true → unwrap_or (cond t (Some x) None) 0 ≡ x
word_if true x e = refl
word_if false x e = absurd (let y : ⊥ = cc in y)

u32_is : (code : List ℕ) (p : ℕ) → p + 4 ≤ length code → u32_of code p ≡ little_number 4 (drop p code)
u32_is code p within = word_if (nat_le (p + 4) (length code)) (little_number 4 (drop p code)) (grind (arith, nat_tests))

switch_spelled : (code : List ℕ) (at count s k : ℕ) → AreBytes code → length code ≤ 2 ^ 31
    → at + 4 + 4 * count ≤ length code → s + k ≤ count
    → drop (at + 4 + 4 * s) code
    ≡ distances (at + 4 + 4 * count) (map (switch_target code at count) (range_with_len s k)) ++ drop (at + 4 + 4 * (s + k)) code
switch_spelled code at count s zero h small within most = ap (λ n. drop (at + 4 + 4 * n) code) (omega arith)
switch_spelled code at count s (suc k) h small within most =
    let next = at + 4 + 4 * count in
    let p = at + 4 + 4 * s in
    let v = u32_of code p in
    let f = switch_target code at count in
    let word = little_bytes 4 (distance next (f s)) in
    let field : IsField 4 code p v = field_here 4 code p v h (omega arith) (sym (u32_is code p (omega arith))) in
    let first : drop p code ≡ word ++ drop (p + 4) code =
    alike 4 code p v (distance next (f s)) field (far_distance next v (omega arith) field.below) in
    let moved : drop (p + 4) code ≡ drop (at + 4 + 4 * (s + 1)) code = ap (λ n. drop n code) (omega arith) in
    let rest = switch_spelled code at count (s + 1) k h small within (omega arith) in
    let ends : drop (at + 4 + 4 * (s + 1 + k)) code ≡ drop (at + 4 + 4 * (s + suc k)) code = ap (λ n. drop n code) (omega arith) in
    first ∙ ap (λ xs. word ++ xs) (moved ∙ rest ∙ ap (λ xs. distances next (map f (range_with_len (s + 1) k)) ++ xs) ends)

targets_spelled : (code : List ℕ) (at count : ℕ) → AreBytes code → length code ≤ 2 ^ 31 → at + 4 + 4 * count ≤ length code
    → drop (at + 4) code ≡ distances (at + (4 + 4 * count)) (map (switch_target code at count) (range_with_len 0 count))
    ++ drop (at + (4 + 4 * count)) code
targets_spelled code at count h small within =
    let list = map (switch_target code at count) (range_with_len 0 count) in
    let begins : drop (at + 4) code ≡ drop (at + 4 + 4 * 0) code = ap (λ n. drop n code) (omega arith) in
    let all = begins ∙ switch_spelled code at count 0 count h small within (omega arith) in
    let P : ℕ → Type 0 = λ n. drop (at + 4) code ≡ distances (at + 4 + 4 * count) list ++ drop n code in
    let Q : ℕ → Type 0 = λ n. drop (at + 4) code ≡ distances n list ++ drop n code in
    let end : at + 4 + 4 * (0 + count) ≡ at + 4 + 4 * count = omega arith in
    let far : at + 4 + 4 * count ≡ at + (4 + 4 * count) = omega arith in
    subst Q far (subst P end all)

switch_if : (code : List ℕ) (at count : ℕ) (arg : Arg) (t : Bool) → AreBytes code → length code ≤ 2 ^ 31
    → IsField 4 code at count → nat_le (at + 4 + 4 * count) (length code) ≡ t
    → cond t (Some (args.Targets (map (switch_target code at count) (range_with_len 0 count)))) None ≡ Some arg
    → IsSpelled code at operands.Targets arg
switch_if code at count arg false h small field test e = absurd (let x : ⊥ = cc in x)
switch_if code at count arg true h small field test e =
    let list = map (switch_target code at count) (range_with_len 0 count) in
    let within : at + 4 + 4 * count ≤ length code = grind (arith, nat_tests) in
    let same : args.Targets list ≡ arg = cc in
    let many : length list ≡ count = length-map-range_with_len (switch_target code at count) 0 count in
    let rest = targets_spelled code at count h small within in
    let P : ℕ → Type 0 = λ k. drop at code ≡ (little_bytes 4 k ++ distances (at + (4 + 4 * k)) list) ++ drop (at + (4 + 4 * k)) code in
    let whole : P count = field.bytes ∙ ap (λ xs. little_bytes 4 count ++ xs) rest in
    subst (IsSpelled code at operands.Targets) same (subst P (sym many) whole)

switch_of : (code : List ℕ) (at : ℕ) (arg : Arg) (o : Option ℕ) → AreBytes code → length code ≤ 2 ^ 31
    → field_at 4 code at ≡ o → option_and_then (switch_at code at) o ≡ Some arg → IsSpelled code at operands.Targets arg
switch_of code at arg None h small is e = absurd (let x : ⊥ = cc in x)
switch_of code at arg (Some count) h small is e =
    switch_if code at count arg (nat_le (at + 4 + 4 * count) (length code)) h small (field_is 4 code at count h is) refl e

-- ---- every operand

pub operand_spelled : (code : List ℕ) (at : ℕ) (operand : Operand) (arg : Arg) → AreBytes code → length code ≤ 2 ^ 31
    → operand_at code at operand ≡ Some arg → IsSpelled code at operand arg
unfolding operand_at
operand_spelled code at operands.Nothing arg h small e =
    let same : args.Nothing ≡ arg = cc in
    let here : drop at code ≡ drop (at + 0) code = ap (λ n. drop n code) (omega arith) in
    subst (IsSpelled code at operands.Nothing) same here
operand_spelled code at operands.UInt8 arg h small e =
    let m = made 1 code at (λ n. args.Num (pos n)) arg h e in
    subst (IsSpelled code at operands.UInt8) m.made
    (alike 1 code at m.v (cast_unsigned w64 (pos m.v)) m.field (plain 1 m.v (omega (arith, m.field.below)) m.field.below))
operand_spelled code at operands.UInt16 arg h small e =
    let m = made 2 code at (λ n. args.Num (pos n)) arg h e in
    subst (IsSpelled code at operands.UInt16) m.made
    (alike 2 code at m.v (cast_unsigned w64 (pos m.v)) m.field (plain 2 m.v (omega (arith, m.field.below)) m.field.below))
operand_spelled code at operands.Int8 arg h small e = signed_spelled 1 code at arg h signed1 e
operand_spelled code at operands.Int32 arg h small e = signed_spelled 4 code at arg h signed4 e
operand_spelled code at operands.Int64 arg h small e = signed_spelled 8 code at arg h signed8 e
operand_spelled code at operands.Token arg h small e =
    let m = made 4 code at args.Token arg h e in
    subst (IsSpelled code at operands.Token) m.made m.field.bytes
operand_spelled code at operands.ShortTarget arg h small e =
    let m = made 1 code at (λ d. args.Target (target 1 (at + 1) d)) arg h e in
    subst (IsSpelled code at operands.ShortTarget) m.made
    (alike 1 code at m.v (distance (at + 1) (target 1 (at + 1) m.v)) m.field
    (short_distance (at + 1) m.v (omega (arith, m.field.within)) m.field.below))
operand_spelled code at operands.Target arg h small e =
    let m = made 4 code at (λ d. args.Target (target 4 (at + 4) d)) arg h e in
    subst (IsSpelled code at operands.Target) m.made
    (alike 4 code at m.v (distance (at + 4) (target 4 (at + 4) m.v)) m.field
    (far_distance (at + 4) m.v (omega (arith, m.field.within)) m.field.below))
operand_spelled code at operands.Targets arg h small e = switch_of code at arg (field_at 4 code at) h small refl e

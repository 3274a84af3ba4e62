-- Straight code, led through the definitions: a sum, a call through a cell, a field.
use Rattle.std.proofs.Common.{◌≡◌, ◌<◌, ◌≤◌, ℕ, zero, suc, ◌+◌, ◌*◌, ◌/◌, ◌%◌, ◌^◌, ◌==◌, ◌&&◌, Bool, true, false, List, [], ◌∷◌, Option, Some, None, refl, sym, ap, ◌∙◌, subst, arith, nat_le, le-leb, ◌||◌, cond, eqb, if◌then◌else◌}
use Rattle.std.proofs.lemmas.Bool.Decides.{nat_tests}
use Rattle.a64_code.specs.declared.inst.Inst.{Inst}
use Rattle.a64_code.specs.declared.inst.Inst.TheVariants as insts
use Rattle.a64_code.specs.Words.{instruction}
use Rattle.a64_meaning.specs.Machine.{Machine, Bytes, Ground, Goal, Next, image_address, at_segment, is_data, on, set_reg}
use Rattle.a64_meaning.specs.Numbers.{low, shifted}
use Rattle.a64_meaning.specs.Access.{plain_load, is_cell, found, load}
use Rattle.a64_meaning.specs.Effects.{act}
use Rattle.a64_meaning.specs.Step.{step, fetched}
use Rattle.a64_meaning.specs.Walk.{then_goal, walk, LeadsTo, HasCode}

module _ {H : Type 0} (b : Bytes H) (g : Ground) where
  -- a step at a word of the image
  pub step_at : (m : Machine) (h : H) (rva word : ℕ) (inst : Inst) → m.pc ≡ image_address rva → rva % 4 ≡ 0 → rva < 2 ^ 32
      → plain_load g 4 rva ≡ Some word → instruction word ≡ Some inst → step b g m h ≡ act b g inst m h
  unfolding step fetched
  step_at m h rva word inst at four small code is =
      let first : m.pc / 2 ^ 32 ≡ 1 = omega (arith, at) in
      let of_four : m.pc % 4 ≡ 0 = omega (arith, at) in
      let there : m.pc % 2 ^ 32 ≡ rva = omega (arith, at) in
      rw first (rw of_four (rw there (rw code (rw is refl))))

  -- and what straight code from there leads to
  pub walk_at : (answers : ℕ → ℕ → Type 0) (Q : Machine → H → Type 0) (n : ℕ) (m : Machine) (h : H) (rva word : ℕ) (inst : Inst)
      → m.pc ≡ image_address rva → rva % 4 ≡ 0 → rva < 2 ^ 32 → plain_load g 4 rva ≡ Some word → instruction word ≡ Some inst
      → LeadsTo answers Q (then_goal (act b g inst m h) (walk b g n)) → LeadsTo answers Q (walk b g (suc n) m h)
  unfolding walk
  walk_at answers Q n m h rva word inst at four small code is leads = rw (step_at m h rva word inst at four small code is) leads

  pub adds : (answers : ℕ → ℕ → Type 0) (m : Machine) (h : H) (rva : ℕ) → m.pc ≡ image_address rva → rva % 4 ≡ 0 → rva + 8 ≤ 2 ^ 32
      → HasCode g rva (0x0B010000 ∷ 0xD65F03C0 ∷ [])
      → LeadsTo answers (λ n k. (n.x 0 ≡ (m.x 0 + m.x 1) % 2 ^ 32) × (n.pc ≡ m.x 30) × (n.sp ≡ m.sp) × (k ≡ h)) (walk b g 2 m h)
  unfolding LeadsTo HasCode act instruction Rattle.a64_meaning.specs.Numbers.shifted walk
  adds answers m h rva at four small code =
      let next : (m.pc + 4) % 2 ^ 64 ≡ image_address (rva + 4) = omega (arith, at) in
      let sum : ((m.x 0 % 2 ^ 32) + ((m.x 1 % 2 ^ 32) * 1) % 2 ^ 32 + 0) % 2 ^ 32 ≡ (m.x 0 + m.x 1) % 2 ^ 32 = omega arith in
      walk_at answers (λ n k. (n.x 0 ≡ (m.x 0 + m.x 1) % 2 ^ 32) × (n.pc ≡ m.x 30) × (n.sp ≡ m.sp) × (k ≡ h)) 1 m h rva 0x0B010000 (insts.AddRegister 0 0 0 0 1 0) at four (omega (arith, small)) code.0 refl
      (walk_at answers (λ n k. (n.x 0 ≡ (m.x 0 + m.x 1) % 2 ^ 32) × (n.pc ≡ m.x 30) × (n.sp ≡ m.sp) × (k ≡ h)) 0
      (on (set_reg m 0 ((low 32 (m.x 0) + shifted 32 0 (low 32 (m.x 1)) 0 + 0) % 2 ^ 32))) h (rva + 4) 0xD65F03C0 (insts.BranchRegister 2 30) next (omega (arith, four)) (omega (arith, small)) code.1.0 refl
      (sum, refl, refl, refl))

  -- ldr x12, [x11]; blr x12
  pub calls : (answers : ℕ → ℕ → Type 0) (m : Machine) (h : H) (rva cell : ℕ) → m.pc ≡ image_address rva → rva % 4 ≡ 0 → rva + 8 < 2 ^ 32
      → HasCode g rva (0xF940016C ∷ 0xD63F0180 ∷ []) → m.x 11 ≡ image_address cell → cell < 2 ^ 32 → is_cell g.cells cell ≡ true
      → LeadsTo answers (λ n k. answers cell n.pc × (n.x 30 ≡ image_address (rva + 8)) × (n.x 0 ≡ m.x 0) × (n.x 1 ≡ m.x 1) × (n.x 11 ≡ m.x 11) × (n.sp ≡ m.sp) × (k ≡ h)) (walk b g 2 m h)
  unfolding LeadsTo HasCode act instruction walk found
  calls answers m h rva cell at four small code base below is =
      let next : (m.pc + 4) % 2 ^ 64 ≡ image_address (rva + 4) = omega (arith, at) in
      let back : ((m.pc + 4) % 2 ^ 64 + 4) % 2 ^ 64 ≡ image_address (rva + 8) = omega (arith, at) in
      let same : (m.x 11 + 0) % 2 ^ 64 / 2 ^ 32 ≡ 1 = omega (arith, base) in
      let there : (m.x 11 + 0) % 2 ^ 64 % 2 ^ 32 ≡ cell = omega (arith, base) in
      walk_at answers (λ n k. answers cell n.pc × (n.x 30 ≡ image_address (rva + 8)) × (n.x 0 ≡ m.x 0) × (n.x 1 ≡ m.x 1) × (n.x 11 ≡ m.x 11) × (n.sp ≡ m.sp) × (k ≡ h)) 1 m h rva 0xF940016C (insts.LoadImmediate 3 12 11 0) at four (omega (arith, small)) code.0 refl
      (rw same (rw there (rw is (λ target answered.
      walk_at answers (λ n k. answers cell n.pc × (n.x 30 ≡ image_address (rva + 8)) × (n.x 0 ≡ m.x 0) × (n.x 1 ≡ m.x 1) × (n.x 11 ≡ m.x 11) × (n.sp ≡ m.sp) × (k ≡ h)) 0 (on (set_reg m 12 target)) h (rva + 4) 0xD63F0180 (insts.BranchRegister 1 12) next (omega (arith, four)) (omega (arith, small)) code.1.0 refl
      (answered, back, refl, refl, refl, refl, refl)))))

  -- ldr w1, [x0, #8], of an object of 12 bytes or more
  pub reads : (answers : ℕ → ℕ → Type 0) (m : Machine) (h : H) (rva object : ℕ) → m.pc ≡ image_address rva → rva % 4 ≡ 0 → rva < 2 ^ 32
      → HasCode g rva (0xB9400801 ∷ []) → m.x 0 ≡ at_segment object 0 → 16 ≤ object → object < 2 ^ 32 → 12 ≤ b.size h object
      → LeadsTo answers (λ n k. (n.x 1 ≡ load 4 (b.byte h) (at_segment object 8)) × (n.pc ≡ (m.pc + 4) % 2 ^ 64) × (n.x 0 ≡ m.x 0) × (k ≡ h)) (walk b g 1 m h)
  unfolding LeadsTo HasCode act instruction walk found
  reads answers m h rva object at four small code base low high large =
      let there : (m.x 0 + 8) % 2 ^ 64 ≡ at_segment object 8 = omega (arith, base, high) in
      let number : at_segment object 8 / 2 ^ 32 ≡ object = omega arith in
      let place : at_segment object 8 % 2 ^ 32 ≡ 8 = omega arith in
      let image : (object == 1) ≡ false = grind (arith, nat_tests) in
      let kept : is_data object ≡ true = at_object object low in
      let inside : nat_le 12 (b.size h object) ≡ true = le-leb 12 (b.size h object) large in
      walk_at answers (λ n k. (n.x 1 ≡ load 4 (b.byte h) (at_segment object 8)) × (n.pc ≡ (m.pc + 4) % 2 ^ 64) × (n.x 0 ≡ m.x 0) × (k ≡ h)) 0 m h rva 0xB9400801 (insts.LoadImmediate 2 1 0 2) at four small code.0 refl
      (rw there (rw number (rw place (rw image (rw kept (rw inside (refl, refl, refl, refl)))))))
    where
      at_object : (n : ℕ) → 16 ≤ n → is_data n ≡ true
      at_object n p = rw (le-leb 16 n p) (by_tests (n == 2) (n == 6))
        where
          by_tests : (c d : Bool) → (c || d || true) ≡ true
          by_tests true d = refl
          by_tests false true = refl
          by_tests false false = refl

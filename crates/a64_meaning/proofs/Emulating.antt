-- A step as an emulator of the architecture makes it: a word with registers, SP, flags and the program counter before, and those
-- and 56 bytes of the stack after. scripts/emulate-steps writes the steps.
use Rattle.std.proofs.Common.{◌≡◌, Some, None, refl, ℕ, ◌+◌, ◌-◌, ◌*◌, ◌/◌, ◌%◌, ◌^◌, List, [], ◌∷◌}
use Rattle.std.specs.Prelude.{slice_index_or, map, if◌then◌else◌, nat_lt, nat_le, ◌&&◌, ◌==◌, cond}
use Rattle.a64_meaning.specs.Machine.{Machine, Ground, Goal, Next}
use Rattle.a64_meaning.specs.Access.{load}
use Rattle.a64_meaning.specs.Step.{step}
use Rattle.a64_meaning.specs.Flat.{Flat, flat}

pub record Before : Type 0 where
  pub word : ℕ
  pub x : List ℕ
  pub sp : ℕ
  pub nzcv : ℕ
  pub pc : ℕ
  pub window : ℕ

abbrev pub b : ℕ → List ℕ → ℕ → ℕ → ℕ → ℕ → Before
b word x sp nzcv pc window = record { word = word; x = x; sp = sp; nzcv = nzcv; pc = pc; window = window }

-- x0 to x7 and x30 by their places
abbrev pub place : ℕ → ℕ
place r = if r == 30 then 8 else r

abbrev pub machine : Before → Machine
machine t = record { x = λ r. slice_index_or t.x (place r) 0; sp = t.sp; pc = t.pc; nzcv = t.nzcv }

abbrev pub byte_from : ℕ → ℕ → ℕ → ℕ
byte_from word at a = word / 256 ^ (a - at) % 256

abbrev pub ground : Before → Ground
ground t = record {
  byte = λ a. if nat_le (t.pc % 2 ^ 32) a && nat_lt a (t.pc % 2 ^ 32 + 4) then Some (byte_from t.word (t.pc % 2 ^ 32) a) else None;
  cells = [];
}

abbrev pub memory : Flat
memory = record { sizes = λ n. if n == 2 then 0x200000 else 0; bytes = λ a. (a * 37 + a / 256 * 11 + 5) % 256 }

abbrev pub left : Before → Goal Flat → List ℕ
left t (Next m h) = m.x 0 ∷ m.x 1 ∷ m.x 2 ∷ m.x 3 ∷ m.x 4 ∷ m.x 5 ∷ m.x 6 ∷ m.x 7 ∷ m.x 30 ∷ m.sp ∷ m.pc ∷ m.nzcv ∷ load 56 h.bytes t.window ∷ []
left t g = []

abbrev pub ran : Before → List ℕ
ran t = left t (step flat (ground t) (machine t) memory)

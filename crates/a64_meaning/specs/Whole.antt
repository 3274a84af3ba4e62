-- What holds of a step: words stay words, and a step that has loaded a cell goes on.
use Rattle.std.specs.Prelude.{◌≡◌, ◌<◌, ◌^◌, ℕ, Option, Some}
use Rattle.a64_meaning.specs.Machine.{Machine, Bytes, Ground, Goal, Next, Loads, Helper, Stub, BadCode, BadAccess}

-- ---- a step that has loaded a cell goes on

unfoldable pub GoesOn : {H : Type 0} → Goal H → Type 0
GoesOn (Next m h) = Unit {0}
GoesOn (Loads rva go) = (n : ℕ) → GoesOn (go n)
GoesOn (Helper n) = ⊥
GoesOn (Stub n) = ⊥
GoesOn (BadCode address) = ⊥
GoesOn (BadAccess address) = ⊥

unfoldable pub Whole : {H : Type 0} → Goal H → Type 0
Whole (Next m h) = Unit {0}
Whole (Loads rva go) = (n : ℕ) → GoesOn (go n)
Whole (Helper n) = Unit {0}
Whole (Stub n) = Unit {0}
Whole (BadCode address) = Unit {0}
Whole (BadAccess address) = Unit {0}

-- ---- words stay words

-- registers, SP and the program counter have 64 bits, and there are four flags
pub record HasWords (m : Machine) : Type 0 where
  pub x : (r : ℕ) → m.x r < 2 ^ 64
  pub sp : m.sp < 2 ^ 64
  pub pc : m.pc < 2 ^ 64
  pub nzcv : m.nzcv < 16

-- a byte of memory or of the image is below 256
pub record HasBytes {H : Type 0} (b : Bytes H) (g : Ground) : Type 0 where
  pub memory : (h : H) (address : ℕ) → b.byte h address < 256
  pub image : (rva n : ℕ) → g.byte rva ≡ Some n → n < 256

-- the machine that a step goes on with, whatever words the cells answer
unfoldable pub KeepsWords : {H : Type 0} → Goal H → Type 0
KeepsWords (Next m h) = HasWords m
KeepsWords (Loads rva go) = (n : ℕ) → n < 2 ^ 64 → KeepsWords (go n)
KeepsWords (Helper n) = Unit {0}
KeepsWords (Stub n) = Unit {0}
KeepsWords (BadCode address) = Unit {0}
KeepsWords (BadAccess address) = Unit {0}

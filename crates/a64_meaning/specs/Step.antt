-- One step of the machine: what is at the program counter, and what it does.
use Rattle.std.specs.Prelude.{◌≡◌, ℕ, ◌/◌, ◌%◌, ◌==◌, ◌&&◌, Option, Some, None, if◌then◌else◌}
use Rattle.std.specs.Option.{option_and_then}
use Rattle.a64_code.specs.declared.inst.Inst.{Inst}
use Rattle.a64_code.specs.Words.{instruction}
use Rattle.a64_meaning.specs.Machine.{Machine, Bytes, Ground, Goal, Next, Loads, Helper, Stub, BadCode, BadAccess, segment, offset}
use Rattle.a64_meaning.specs.Access.{plain_load}
use Rattle.a64_meaning.specs.Effects.{act}

-- the instruction at an address: a multiple of 4 in the image, with four bytes there outside cells
unfoldable pub fetched : Ground → ℕ → Option Inst
fetched g pc =
    if segment pc == 1 && pc % 4 == 0 then option_and_then instruction (plain_load g 4 (offset pc)) else None

module _ {H : Type 0} (b : Bytes H) (g : Ground) where
  abbrev pub run_fetched : Option Inst → Machine → H → Goal H
  run_fetched None m h = BadCode m.pc
  run_fetched (Some inst) m h = act b g inst m h

  -- a helper, or a stub, at each multiple of 16 of their segments
  unfoldable pub step : Machine → H → Goal H
  step m h =
      if segment m.pc == 3 && m.pc % 16 == 0 then Helper (offset m.pc / 16)
      else if segment m.pc == 4 && m.pc % 16 == 0 then Stub (offset m.pc / 16)
      else run_fetched (fetched g m.pc) m h

-- ---- what a step leads to, by the words that a port answers. P is the port's state; `load p rva n q` says that a load of the
-- cell at an RVA leads from p to q and answers n.

-- how a step leaves the machine
pub data Exit : Type 0 where
  Went : Exit
  ToHelper ToStub : (n : ℕ) → Exit
  ByCode ByAccess : (address : ℕ) → Exit

-- the exit, and the machine, the memory and the port after it
pub record After (H P : Type 0) : Type 0 where
  pub exit : Exit
  pub machine : Machine
  pub memory : H
  pub port : P

module _ {H P : Type 0} (loads : P → ℕ → ℕ → P → Type 0) where
  pub Leads : Machine → H → Goal H → P → After H P → Type 0
  Leads m h (Next n k) p a = (a ≡ record { exit = Went; machine = n; memory = k; port = p })
  Leads m h (Loads rva go) p a = (n : ℕ) × (q : P) × loads p rva n q × Leads m h (go n) q a
  Leads m h (Helper n) p a = (a ≡ record { exit = ToHelper n; machine = m; memory = h; port = p })
  Leads m h (Stub n) p a = (a ≡ record { exit = ToStub n; machine = m; memory = h; port = p })
  Leads m h (BadCode c) p a = (a ≡ record { exit = ByCode c; machine = m; memory = h; port = p })
  Leads m h (BadAccess c) p a = (a ≡ record { exit = ByAccess c; machine = m; memory = h; port = p })

  -- the public step's clause: from the machine, the memory and the port before to those after
  abbrev pub Steps : Bytes H → Ground → Machine → H → P → After H P → Type 0
  Steps b g m h p a = Leads m h (step b g m h) p a

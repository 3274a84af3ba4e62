use Rattle.std.proofs.Common.{ℕ, List, ◌≤◌, ◌-◌, length}
use Rattle.cil_decode.specs.declared.instr.Instr.{Instr}
use Rattle.cil_decode.specs.Bodies.{Follow}
use Rattle.cil_decode.proofs.body.read_all.Given as goal

pub record Kept (code : List ℕ) (at : ℕ) (list : List Instr) : Type 0 where
  pub within : at ≤ length code
  pub follow : Follow code 0 list at

abbrev pub invariant-instructions : goal.invariant-instructions
invariant-instructions l = Kept l.code l.at l.list.items

abbrev pub decreases-instructions : goal.decreases-instructions
decreases-instructions l = length l.code - l.at

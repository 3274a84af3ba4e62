use Rattle.std.proofs.Common.{◌≡◌, ℕ, Bool, List, length, take}
use Rattle.cil_decode.specs.declared.instr.Instr.{Instr}
use Rattle.cil_decode.specs.Bodies.{Marks}
use Rattle.cil_decode.proofs.starts.Starts.of.Given as goal

pub record Kept (marks : List Bool) (len : ℕ) (list : List Instr) (i : ℕ) : Type 0 where
  pub whole : length marks ≡ len
  pub marked : Marks marks (take i list)

abbrev pub invariant-loop-instr : goal.invariant-loop-instr
invariant-loop-instr l = Kept l.marks.items l.len l.list l.instr-index

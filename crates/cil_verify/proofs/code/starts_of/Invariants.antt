use Rattle.std.proofs.Common.{take}
use Rattle.cil_decode.specs.Bodies.{Marks}
use Rattle.cil_verify.proofs.code.starts_of.Given as goal

abbrev pub invariant-loop-instr : goal.invariant-loop-instr
invariant-loop-instr l = Marks l.marks.items (take l.instr-index l.instrs)

use Rattle.std.proofs.Common.{◌≡◌, ◌++◌, take}
use Rattle.cil_decode.specs.Encoding.{code_bytes}
use Rattle.cil_decode.proofs.encode.put_all.Given as goal

abbrev pub invariant-loop-instr : goal.invariant-loop-instr
invariant-loop-instr l = l.out.items ≡ l.initial.out.items ++ code_bytes (take l.instr-index l.list)

use Rattle.std.proofs.Common.{◌≡◌, drop}
use Rattle.cil_decode.specs.Bodies.{first_unlinked_of}
use Rattle.cil_decode.proofs.body.check_targets.Given as goal

abbrev pub invariant-loop-instr : goal.invariant-loop-instr
invariant-loop-instr l = first_unlinked_of l.list (drop l.instr-index l.list) ≡ first_unlinked_of l.list l.list

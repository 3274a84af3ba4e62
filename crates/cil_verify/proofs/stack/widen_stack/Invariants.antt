use Rattle.type_world.specs.Loading.{world_of}
use Rattle.cil_verify.proofs.Widened.{Widens}
use Rattle.cil_verify.proofs.stack.widen_stack.Given as goal

abbrev pub invariant-loop-i : goal.invariant-loop-i
invariant-loop-i l = Widens (world_of l.world) l.initial.stack l.stack l.other l.i l.changed

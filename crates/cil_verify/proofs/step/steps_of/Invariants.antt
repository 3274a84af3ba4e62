use Rattle.std.proofs.Common.{◌≡◌, take}
use Rattle.cil_verify.proofs.step.steps_of.Given as goal

abbrev pub invariant-loop-k : goal.invariant-loop-k
invariant-loop-k l = l.steps.items ≡ take l.k l.instrs

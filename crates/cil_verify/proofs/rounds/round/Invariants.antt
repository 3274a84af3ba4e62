use Rattle.std.proofs.Common.{◌≡◌, false, drop, fold}
use Rattle.cil_verify.specs.Subjects.{visited}
use Rattle.cil_verify.proofs.rounds.round.Given as goal

abbrev pub invariant-loop-step : goal.invariant-loop-step
invariant-loop-step l = record {
  round :
      fold (visited l.code l.last) l.stacks (drop l.step-index l.code.instrs)
      ≡ fold (visited l.code l.last) l.initial.stacks l.code.instrs;
  same : l.changed ≡ false → l.stacks ≡ l.initial.stacks;
}

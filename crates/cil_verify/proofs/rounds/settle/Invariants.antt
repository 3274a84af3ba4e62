use Rattle.std.proofs.Common.{◌≡◌, ◌-◌}
use Rattle.cil_verify.specs.Subjects.{rounds_of, settled_in, settled_of}
use Rattle.cil_verify.proofs.rounds.settle.Given as goal

abbrev pub invariant-loop-done : goal.invariant-loop-done
invariant-loop-done l =
    settled_in l.code l.last (rounds_of l.code - l.done) l.stacks ≡ settled_of l.code l.last

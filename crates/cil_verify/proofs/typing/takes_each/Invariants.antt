use Rattle.std.proofs.Common.{◌≡◌, drop}
use Rattle.std.specs.List.{list_all}
use Rattle.cil_verify.specs.Flows.{stack_after}
use Rattle.cil_verify.specs.Subjects.{takes_in}
use Rattle.cil_verify.proofs.typing.takes_each.Given as goal

abbrev pub invariant-loop-at : goal.invariant-loop-at
invariant-loop-at l =
    list_all (takes_in l.code l.stacks (stack_after l.leaves l.before)) (drop l.at-index l.to)
    ≡ list_all (takes_in l.code l.stacks (stack_after l.leaves l.before)) l.to

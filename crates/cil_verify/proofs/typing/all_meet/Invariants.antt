use Rattle.std.proofs.Common.{◌≡◌, drop}
use Rattle.std.specs.List.{list_all}
use Rattle.cil_verify.specs.Subjects.{meets_in}
use Rattle.cil_verify.proofs.typing.all_meet.Given as goal

abbrev pub invariant-loop-step : goal.invariant-loop-step
invariant-loop-step l =
    list_all (meets_in l.code l.last l.stacks) (drop l.step-index l.code.instrs)
    ≡ list_all (meets_in l.code l.last l.stacks) l.code.instrs

use Rattle.std.proofs.Common.{◌≡◌, ◌<◌, true, length, get_or, ap, ◌∙◌, subst}
use Rattle.std.specs.Prelude.{IfNone}
use Rattle.cil_verify.specs.Subjects.{too_deep}
use Rattle.cil_verify.proofs.Depth.{deep_round}
use Rattle.cil_verify.proofs.rounds.round.Goals as goal

pub returns-in-None-clause-deep : goal.returns-in-None-clause-deep
returns-in-None-clause-deep c =
    let s = c.args.code.now in
    let i = c.step-item.result in
    let deep : too_deep s c.args.last c.loop-step.stacks i ≡ true =
    subst (λ o. IfNone o (too_deep s c.args.last c.loop-step.stacks i ≡ true)) c.in-None.is c.in_ok-visit.ensures.deep in
    let within : c.loop-step.step-index < length s.instrs =
    subst (λ n. c.loop-step.step-index < n) (ap length c.steps-step-items.ensures) c.loop-step-test.true in
    deep_round s c.args.last c.args.stacks.now c.loop-step.stacks c.loop-step.step-index i
    (c.step-item.is ∙ ap (λ l. get_or l c.loop-step.step-index i) c.steps-step-items.ensures) within c.loop-step.invariant.round deep

use Rattle.std.proofs.Common.{None, arith}
use Rattle.std.proofs.lemmas.List.{take_more_same}
use Rattle.type_world.proofs.TypeRefs.{same_all}
use Rattle.type_world.proofs.references.are_equal.Goals as goal

pub loop-index-preserved : goal.loop-index-preserved
loop-index-preserved c =
    let below = c.loop-index-test.true in
    let long = c.if-answers-others.false in
    take_more_same c.args.answers.now c.args.others.now c.loop-index.index None below (omega (arith, below, long)) c.loop-index.invariant
    (c.is_answer.ensures c.if-not-is_answer.false)

pub returns : goal.returns
returns c =
    λ t. same_all c.args.answers.now c.args.others.now c.loop-index.index (omega (arith, c.if-answers-others.false))
    (omega (arith, c.loop-index-test.false)) c.loop-index.invariant

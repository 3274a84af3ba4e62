use Rattle.std.proofs.Common.{◌∙◌, sym, arith}
use Rattle.r2rdump.proofs.Trimmed.{trimmed-take_zero, trimmed-take_other, trimmed-take_none}
use Rattle.r2rdump.proofs.text.without_padding.Goals as goal
use Rattle.r2rdump.proofs.text.without_padding.Goals.{then-loop-len-test+else-name-len-eq0, else-loop-len-test}

pub loop-len-preserved : goal.loop-len-preserved
loop-len-preserved c = (
  omega arith,
  trimmed-take_zero c.args.name.now c.loop-len.len c.loop-len-test.true c.loop-len.invariant.0 c.if-name-len-eq0.true
      ∙ c.loop-len.invariant.1,
)

pub returns : goal.returns
returns c =
    elim c.loop-len-test.branch [
      | then-loop-len-test+else-name-len-eq0 w ↦ sym (trimmed-take_other c.args.name.now c.loop-len.len w.loop-len-test.true
          c.loop-len.invariant.0 w.if-name-len-eq0.false) ∙ c.loop-len.invariant.1
      | else-loop-len-test w ↦ sym (trimmed-take_none c.args.name.now c.loop-len.len (omega arith)) ∙ c.loop-len.invariant.1
    ]

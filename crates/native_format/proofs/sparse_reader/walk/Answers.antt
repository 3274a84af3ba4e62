use Rattle.native_format.specs.Sparse.{path, weights}
use Rattle.native_format.proofs.SparseLaws.{by_step, last_step, weight_some}
use Rattle.native_format.proofs.sparse_reader.walk.Goals as goal

pub step-requires-clause-some : goal.step-requires-clause-some
step-requires-clause-some c = weight_some c.loop-weight.weight-index c.loop-weight-test.true

pub returns-in-Ok-Content : goal.returns-in-Ok-Content
returns-in-Ok-Content c =
    by_step c.args.bytes.now c.args.low c.loop-weight.weight-index c.loop-weight.at _
    (path c.args.bytes.now c.args.low weights c.args.block) c.loop-weight-test.true
    (rw c.in-Ok-Content.field-0-is at c.in-Ok-Content.ensures) c.loop-weight.invariant

pub returns-in-Ok-Absent : goal.returns-in-Ok-Absent
returns-in-Ok-Absent c =
    by_step c.args.bytes.now c.args.low c.loop-weight.weight-index c.loop-weight.at _
    (path c.args.bytes.now c.args.low weights c.args.block) c.loop-weight-test.true
    (rw c.in-Ok-Absent.field-0-is at c.in-Ok-Absent.ensures) c.loop-weight.invariant

pub returns-in-Err : goal.returns-in-Err
returns-in-Err c =
    by_step c.args.bytes.now c.args.low c.loop-weight.weight-index c.loop-weight.at _
    (path c.args.bytes.now c.args.low weights c.args.block) c.loop-weight-test.true c.in-Err.ensures c.loop-weight.invariant

pub loop-weight-preserved : goal.loop-weight-preserved
loop-weight-preserved c =
    by_step c.args.bytes.now c.args.low c.loop-weight.weight-index c.loop-weight.at _
    (path c.args.bytes.now c.args.low weights c.args.block) c.loop-weight-test.true
    (rw c.in-Ok-Child.field-0-is at c.in-Ok-Child.ensures) c.loop-weight.invariant

pub returns : goal.returns
returns c =
    last_step c.args.bytes.now c.args.low c.loop-weight.weight-index c.loop-weight.at
    (path c.args.bytes.now c.args.low weights c.args.block) c.loop-weight-test.false c.loop-weight.invariant

use Rattle.std.proofs.Common.{sym, arith}
use Rattle.type_world.proofs.Counts.{no_rows, one_more}
use Rattle.type_world.proofs.numbers.rows_of.Goals as goal

pub loop-assembly-init : goal.loop-assembly-init
loop-assembly-init c = (sym (no_rows c.args.assemblies.now c.args.table), omega arith)

pub loop-assembly-preserved : goal.loop-assembly-preserved
loop-assembly-preserved c =
    let more =
    one_more c.args.assemblies.now c.loop-assembly.assembly-index c.assembly-item.result c.args.table
    c.loop-assembly-test.true c.assembly-item.is in
    let so_far = c.loop-assembly.invariant.0 in
    let few = c.loop-assembly.invariant.1 in
    let rows = c.rows-rows.ensures.rows in
    let small = c.rows-rows.ensures.few in
    (omega (arith, more, so_far, rows), omega (arith, few, small))

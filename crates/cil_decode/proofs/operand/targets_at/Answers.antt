use Rattle.std.proofs.Common.{arith}
use Rattle.std.proofs.lemmas.Grind.{common_steps}
use Rattle.std.proofs.lemmas.List.FromFn.{map-range_with_len_more}
use Rattle.cil_decode.specs.Instructions.{switch_target}
use Rattle.cil_decode.proofs.operand.targets_at.Goals as goal

pub loop-i-preserved : goal.loop-i-preserved
loop-i-preserved c =
    let more = map-range_with_len_more (switch_target c.args.code.now c.args.at c.args.count) 0 c.loop-i.i c.loop-i.i (omega arith) in
    grind (arith, common_steps, more)

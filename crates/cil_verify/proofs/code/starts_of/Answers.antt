use Rattle.cil_verify.proofs.Marked.{marks_more}
use Rattle.cil_verify.proofs.code.starts_of.Goals as goal

pub loop-instr-preserved : goal.loop-instr-preserved
loop-instr-preserved c =
    marks_more c.loop-instr.marks.items c.make_room.new.marks.items c.args.instrs.now c.loop-instr.instr-index c.instr-item.result
    c.loop-instr-test.true c.instr-item.is c.make_room.ensures.same (c.in_ok-make_room.ensures).room c.loop-instr.invariant

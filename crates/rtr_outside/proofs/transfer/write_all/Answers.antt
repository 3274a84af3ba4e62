use Rattle.rtr_outside.proofs.TransferLemmas.{written_more}
use Rattle.rtr_outside.proofs.transfer.write_all.Goals as goal

pub loop-rest-preserved : goal.loop-rest-preserved
loop-rest-preserved g c =
    written_more _ _ _ _ _ c.in_ok-taken.taken c.loop-rest.invariant (rw c.in_ok-taken.ensures.some.0 at c.write.ensures.bytes)

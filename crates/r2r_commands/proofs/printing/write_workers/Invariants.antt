use Rattle.std.proofs.Common.{◌≤◌, take}
use Rattle.rtr_outside.specs.Sink.{Appends}
use Rattle.r2r_commands.specs.Printing.{states_text}
use Rattle.r2r_commands.proofs.printing.write_workers.Given as goal

abbrev pub invariant-loop-worker : goal.invariant-loop-worker
invariant-loop-worker g l =
    let sink = g.S.Sink in
    record {
      came : Appends (states_text l.ret (take l.worker-index l.workers)) (sink.written l.fn.out) (sink.written l.out);
      never_falls : sink.faults l.fn.out ≤ sink.faults l.out;
    }

use Rattle.std.proofs.Common.{◌≡◌, ◌≤◌, ◌-◌, length, take, drop}
use Rattle.rtr_outside.specs.Sink.{Appends}
use Rattle.rtr_outside.proofs.sink.write_all.Given as goal

abbrev pub invariant-loop-rest : goal.invariant-loop-rest
invariant-loop-rest g l =
    let sink = g.S.Sink in
    let taken = length l.text - length l.rest in
    record {
      shorter : length l.rest ≤ length l.text;
      -- the rest is what was not taken, and what was taken came to the sink
      left : l.rest ≡ drop taken l.text;
      came : Appends (take taken l.text) (sink.written l.fn.out) (sink.written l.out);
      never_falls : sink.faults l.fn.out ≤ sink.faults l.out;
    }

abbrev pub decreases-loop-rest : goal.decreases-loop-rest
decreases-loop-rest g l = length l.rest

use Rattle.std.proofs.Common.{◌≤◌, take}
use Rattle.std.specs.List.{flat_map}
use Rattle.rtr_outside.specs.Sink.{Appends}
use Rattle.r2r_commands.proofs.printing.write_pieces.Given as goal

abbrev pub invariant-loop-piece : goal.invariant-loop-piece
invariant-loop-piece g l =
    let sink = g.S.Sink in
    record {
      came : Appends (flat_map (λ piece. piece.now) (take l.piece-index l.pieces)) (sink.written l.fn.out) (sink.written l.out);
      never_falls : sink.faults l.fn.out ≤ sink.faults l.out;
    }

use Rattle.std.proofs.Common.{◌<◌, ℕ, List, [], Bor, length, arith}
use Rattle.std.proofs.lemmas.Result.{err_from_is_err_and}
use Rattle.r2r_commands.proofs.Pieces.{stops}
use Rattle.r2r_commands.proofs.printing.write_pieces.Goals as goal

pub returns-in_err-write_all-clause-written : goal.returns-in_err-write_all-clause-written
returns-in_err-write_all-clause-written g c =
    let sink = g.S.Sink in
    let p = err_from_is_err_and c.from_residual.result c.from_residual.ensures.1 in
    let none : Bor (List ℕ) = record { ref_ptr = (0, 0); now = [] } in
    let i = c.loop-piece.piece-index in
    let here : i < length c.args.pieces.now = omega arith in
    let kept = c.loop-piece.invariant in
    rw p.1 (stops sink.written sink.faults (λ (piece : Bor (List ℕ)). piece.now) c.args.pieces.now i none here c.args.out.now
    c.loop-piece.out c.write_all.new.out kept.came kept.never_falls
    (c.in_err-write_all.ensures.failed, c.in_err-write_all.ensures.front))

use Rattle.std.proofs.Common.{◌<◌, length, subst, arith}
use Rattle.std.proofs.lemmas.Result.{err_from_is_err_and}
use Rattle.rtr_runner.specs.Workers.{WorkerState}
use Rattle.r2r_commands.specs.Outside.{CutsShort}
use Rattle.r2r_commands.specs.Printing.{state_text}
use Rattle.r2r_commands.proofs.Pieces.{stops}
use Rattle.r2r_commands.proofs.printing.write_workers.Goals as goal

pub returns-in_err-write_worker-clause-written : goal.returns-in_err-write_worker-clause-written
returns-in_err-write_worker-clause-written g c =
    let sink = g.S.Sink in
    let p = err_from_is_err_and c.from_residual.result c.from_residual.ensures.1 in
    let i = c.loop-worker.worker-index in
    let item = c.worker-item.result in
    let here : i < length c.args.workers.now = omega arith in
    let kept = c.loop-worker.invariant in
    let short = subst (λ (w : WorkerState). CutsShort sink.written sink.faults (state_text c.args.ret w) c.loop-worker.out
    c.write_worker.new.out) c.worker-item.is c.in_err-write_worker.ensures.written in
    rw p.1 (stops sink.written sink.faults (state_text c.args.ret) c.args.workers.now i item here c.args.out.now
    c.loop-worker.out c.write_worker.new.out kept.came kept.never_falls short)

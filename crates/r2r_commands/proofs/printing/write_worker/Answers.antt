use Rattle.std.proofs.Common.{ℕ, List, [], ◌++◌, sym, ap, subst, ◌∙◌}
use Rattle.std.specs.Prelude.{decimal}
use Rattle.std.proofs.lemmas.Result.{err_from_is_err_and}
use Rattle.r2r_commands.specs.Outside.{CutsShort}
use Rattle.r2r_commands.specs.Printing.{IsWritten}
use Rattle.r2r_commands.specs.RunText.{ending_line}
use Rattle.r2r_commands.proofs.Lines.{worker_pieces}
use Rattle.r2r_commands.proofs.Pieces.{cut, joined}
use Rattle.r2r_commands.proofs.printing.write_worker.Goals as goal

pub returns-in_err-write_pieces-clause-written : goal.returns-in_err-write_pieces-clause-written
returns-in_err-write_pieces-clause-written g c =
    let sink = g.S.Sink in
    let p = err_from_is_err_and c.from_residual.result c.from_residual.ensures.1 in
    let a = c.as_bytes.result.now in
    let n = c.as_bytes-number.result.now in
    let b = c.as_bytes-2.result.now in
    let o = c.output.result.now in
    let number = c.as_bytes-number.ensures.value ∙ c.format.ensures.text ∙ ap decimal c.number.ensures in
    let text = worker_pieces c.args.ret c.args.worker.now c.in-Some.ending a n b o c.in-Some.ensures c.as_bytes.ensures.value number
    c.as_bytes-2.ensures.value c.output.ensures in
    rw p.1 (subst (λ (t : List ℕ). CutsShort sink.written sink.faults t c.args.out.now c.write_pieces.new.out) (sym text)
    (cut sink.written sink.faults (a ++ (n ++ (b ++ (o ++ [])))) (ending_line c.args.ret c.in-Some.ending) c.args.out.now
    c.write_pieces.new.out c.in_err-write_pieces.ensures.written))

pub returns-clause-written : goal.returns-clause-written
returns-clause-written g c =
    let sink = g.S.Sink in
    let a = c.as_bytes.result.now in
    let n = c.as_bytes-number.result.now in
    let b = c.as_bytes-2.result.now in
    let o = c.output.result.now in
    let number = c.as_bytes-number.ensures.value ∙ c.format.ensures.text ∙ ap decimal c.number.ensures in
    let text = worker_pieces c.args.ret c.args.worker.now c.in-Some.ending a n b o c.in-Some.ensures c.as_bytes.ensures.value number
    c.as_bytes-2.ensures.value c.output.ensures in
    subst (λ (t : List ℕ). IsWritten sink.written sink.faults t c.args.out.now c.write_ending.new.out c.write_ending.result) (sym text)
    (joined sink.written sink.faults (a ++ (n ++ (b ++ (o ++ [])))) (ending_line c.args.ret c.in-Some.ending) c.args.out.now
    c.write_pieces.new.out c.write_ending.new.out c.write_ending.result c.in_ok-write_pieces.ensures.written
    c.in_ok-write_pieces.ensures.never_falls c.write_ending.ensures.written)

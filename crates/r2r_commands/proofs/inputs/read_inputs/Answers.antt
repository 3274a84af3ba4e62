use Rattle.std.proofs.Common.{ℕ, get_or, List, [], Bor, Option, Err, map, vec_items, ◌∙◌, subst, arith}
use Rattle.std.proofs.lemmas.Result.{err_from_is_err_and}
use Rattle.rtr_outside.specs.Files.{Contents}
use Rattle.r2r_commands.specs.Inputs.{IsInputAnswer}
use Rattle.r2r_commands.specs.Reading.{IsRead}
use Rattle.r2r_commands.proofs.InOrder.{reached_at, read_at, stop_at, texts, texts_most}
use Rattle.r2r_commands.proofs.inputs.read_inputs.Goals as goal

pub returns-in_err-bytes-clause-read : goal.returns-in_err-bytes-clause-read
returns-in_err-bytes-clause-read g c =
    let files = g.F.Files in
    let names = c.args.names.now in
    let i = c.loop-name.name-index in
    let kept = c.loop-name.invariant in
    let p = err_from_is_err_and c.from_residual.result c.from_residual.ensures.1 in
    let none : Bor (List ℕ) = record { ref_ptr = (0, 0); now = [] } in
    let answer = subst (λ (contents : Option Contents). IsInputAnswer contents (files.failed_calls c.loop-name.files)
    (files.failed_calls c.read_input.new.files) (get_or names i none).now (Err c.in_err-bytes.field-0.0)) kept.contents
    c.in_err-bytes.ensures.read in
    rw (p.1, p.2) (stop_at (files.contents c.args.files.now) (texts names) (get_or names i none).now
    (reached_at (files.contents c.args.files.now) names i none (map vec_items c.loop-name.inputs.items) (omega arith)
    kept.read) (texts_most names kept.most)
    (files.failed_calls c.args.files.now) (files.failed_calls c.loop-name.files) (files.failed_calls c.read_input.new.files)
    c.in_err-bytes.field-0.0 kept.failed answer)

pub loop-name-preserved : goal.loop-name-preserved
loop-name-preserved g c =
    let files = g.F.Files in
    let kept = c.loop-name.invariant in
    let answer = c.in_ok-bytes.ensures.read in
    let none : Bor (List ℕ) = record { ref_ptr = (0, 0); now = [] } in
    let one =
    subst (λ (contents : Option Contents). IsRead contents (get_or c.args.names.now c.loop-name.name-index none).now
    c.in_ok-bytes.bytes.items) kept.contents answer.1 in
    record {
      most = kept.most;
      failed = answer.0 ∙ kept.failed;
      contents = c.in_ok-bytes.ensures.contents ∙ kept.contents;
      read = read_at (files.contents c.args.files.now) c.args.names.now c.loop-name.name-index none c.loop-name.inputs.items
          c.push.new.self.items c.in_ok-bytes.bytes (omega arith) c.in_ok-push.ensures.items kept.read one;
    }

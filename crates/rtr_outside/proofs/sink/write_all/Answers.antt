use Rattle.std.proofs.Common.{◌≡◌, ◌+◌, ◌-◌, ◌∙◌, ℕ, length, take, drop, sym, ap, subst, arith}
use Rattle.std.proofs.lemmas.List.{drop-drop}
use Rattle.rtr_outside.specs.Sink.{Appends}
use Rattle.rtr_outside.proofs.Written.{appends_more}
use Rattle.rtr_outside.proofs.sink.write_all.Goals as goal

pub loop-rest-preserved : goal.loop-rest-preserved
loop-rest-preserved g c =
    let sink = g.S.Sink in
    let text = c.args.text.now in
    let n = length text - length c.loop-rest.rest.now in
    let k = c.in_ok-taken.taken in
    let next = c.split_at.result.1.now in
    let count : length text - length next ≡ n + k = omega (arith, c.split_at.ensures.back_len, c.loop-rest.invariant.shorter) in
    let piece = subst (λ (r : _). Appends (take k r) (sink.written c.loop-rest.out) (sink.written c.write.new.self))
    c.loop-rest.invariant.left c.in_ok-taken.ensures.taken in
    record {
      shorter = omega (arith, c.split_at.ensures.back_len, c.loop-rest.invariant.shorter);
      left = c.split_at.ensures.back ∙ ap (drop k) c.loop-rest.invariant.left ∙ drop-drop k n text
          ∙ ap (λ (m : ℕ). drop m text) (sym count);
      came = subst (λ (m : ℕ). Appends (take m text) (sink.written c.args.out.now) (sink.written c.write.new.self)) (sym count)
          (appends_more text n k (sink.written c.args.out.now) (sink.written c.loop-rest.out) (sink.written c.write.new.self)
          c.loop-rest.invariant.came piece);
      never_falls = omega (arith, c.loop-rest.invariant.never_falls, c.in_ok-taken.ensures.never_falls);
    }

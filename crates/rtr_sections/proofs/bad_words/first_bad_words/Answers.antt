use Rattle.std.proofs.Common.{◌≡◌, ◌-◌, suc, subst, arith}
use Rattle.std.proofs.lemmas.List.{length-append}
use Rattle.rtr_sections.specs.BadWords.{IsFirstBad}
use Rattle.rtr_sections.proofs.BadWords.{pushed}
use Rattle.rtr_sections.proofs.bad_words.first_bad_words.Goals as goal

pub loop-i-preserved : goal.loop-i-preserved
loop-i-preserved c =
    let bytes = c.args.file.now in
    let end = c.args.range.end in
    let first = c.first_at-first.result in
    let i = c.loop-i.i in
    let here : end - 1 - i ≡ end - suc i = omega arith in
    record {
      count = rw (c.in_ok-push.ensures.items, length-append) (omega arith);
      firsts =
          rw c.in_ok-push.ensures.items
          (pushed bytes c.loop-i.firsts.items end first i c.loop-i.invariant.count c.loop-i.invariant.firsts
          (subst (λ p. IsFirstBad bytes end p first) here c.first_at-first.ensures));
    }

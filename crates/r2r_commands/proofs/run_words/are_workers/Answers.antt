use Rattle.std.proofs.Common.{ℕ, List, ap, codes, length, map, string_bytes, refl, sym, ◌∙◌, arith}
use Rattle.r2r_commands.specs.RunWords.{items, values}
use Rattle.r2r_commands.specs.ParsedWords.{item_meaning}
use Rattle.r2r_commands.proofs.EachOf.{enough, not_valid, too_many, valid_more}
use Rattle.r2r_commands.proofs.ItemsAt.{values_one}
use Rattle.r2r_commands.proofs.run_words.are_workers.Goals as goal

pub returns-then-workers-eq-MOST_WORKERS : goal.returns-then-workers-eq-MOST_WORKERS
returns-then-workers-eq-MOST_WORKERS c =
    let one = values_one (codes "--worker") _ _ (item_meaning c.in-Some.item) c.in-Some.ensures.0 (sym c.eq.ensures ∙ c.if-eq.true) in
    let count = c.loop-item.invariant.count in
    let more = ap length one in
    sym (too_many (values (codes "--worker") (items (map string_bytes c.args.words.now))) (omega (arith, count, more)))

pub returns-then-not-are_arguments : goal.returns-then-not-are_arguments
returns-then-not-are_arguments c =
    let one = values_one (codes "--worker") _ _ (item_meaning c.in-Some.item) c.in-Some.ensures.0 (sym c.eq.ensures ∙ c.if-eq.true) in
    sym (not_valid (values (codes "--worker") (items (map string_bytes c.args.words.now))) _ _ c.in-Some.item.value.now one
    (sym c.are_arguments.ensures ∙ c.if-not-are_arguments.true) c.loop-item.invariant.valid)

pub loop-item-preserved-else-not-are_arguments : goal.loop-item-preserved-else-not-are_arguments
loop-item-preserved-else-not-are_arguments c =
    let one = values_one (codes "--worker") _ _ (item_meaning c.in-Some.item) c.in-Some.ensures.0 (sym c.eq.ensures ∙ c.if-eq.true) in
    let count = c.loop-item.invariant.count in
    let more = ap length one in
    record {
      most = omega arith;
      count = omega (arith, count, more);
      valid =
          sym (valid_more _ _ c.in-Some.item.value.now one (sym c.are_arguments.ensures ∙ c.if-not-are_arguments.false))
          ∙ c.loop-item.invariant.valid;
    }

pub returns : goal.returns
returns c =
    let kept = c.loop-item.invariant in
    let none = ap (λ (words : List (List ℕ)). values (codes "--worker") (items words)) c.in_default.ensures in
    let count = kept.count in
    let zero = ap length none in
    sym (enough (values (codes "--worker") (items (map string_bytes c.args.words.now))) (omega (arith, count, zero, kept.most))
    (sym kept.valid ∙ rw none refl))

use Rattle.std.proofs.Common.{ℕ, ℤ, List, [], ◌∷◌, ◌++◌, Vec, IsSome, ap, codes, map, option_map, subst, sym, vec_items, ◌∙◌}
use Rattle.std.specs.Global.{Global}
use Rattle.std.proofs.lemmas.List.{map-append}
use Rattle.r2r_commands.specs.RunWords.{arguments_of, each_of}
use Rattle.r2r_commands.specs.ParsedWords.{item_meaning}
use Rattle.r2r_commands.proofs.EachOf.{grown, valid_rest}
use Rattle.r2r_commands.proofs.ItemsAt.{values_one, values_other}
use Rattle.r2r_commands.proofs.run_words.given_workers.Goals as goal

pub loop-item-preserved-in_ok-push : goal.loop-item-preserved-in_ok-push
loop-item-preserved-in_ok-push c =
    let one = values_one (codes "--worker") _ _ (item_meaning c.in-Some.item) c.in-Some.ensures.0 (sym c.eq.ensures ∙ c.if-eq.true) in
    let so_far = c.loop-item.workers.items in
    let worker = c.in_ok-arguments.field-0 in
    let pushed = ap (λ (workers : List (Vec ℤ Global)). map vec_items workers) c.in_ok-push.ensures.items
    ∙ map-append vec_items so_far (worker ∷ []) in
    record {
      valid = valid_rest arguments_of _ _ c.in-Some.item.value.now one c.loop-item.invariant.valid;
      all = grown arguments_of (map vec_items so_far) (map vec_items c.push.new.self.items) _ _ _ c.in-Some.item.value.now worker.items
          c.loop-item.invariant.all one c.in_ok-arguments.ensures pushed;
    }

pub loop-item-preserved : goal.loop-item-preserved
loop-item-preserved c =
    let other = values_other (codes "--worker") _ _ (item_meaning c.in-Some.item) c.in-Some.ensures.0 (sym c.eq.ensures ∙ c.if-eq.false) in
    record {
      valid = subst (λ (given : List (List ℕ)). IsSome (each_of arguments_of given)) other c.loop-item.invariant.valid;
      all = c.loop-item.invariant.all
          ∙ ap (λ (given : List (List ℕ)). option_map (λ (more : List (List ℤ)). map vec_items c.loop-item.workers.items ++ more)
          (each_of arguments_of given)) other;
    }

use Rattle.std.proofs.Common.{◌≡◌, ℕ, ◌+◌, ◌-◌, ◌<◌, ◌≤◌, ◌++◌, ◌∷◌, [], length, map, nat_eq, refl, sym, ap, ◌∙◌, arith}
use Rattle.std.specs.List.{range_with_len}
use Rattle.std.specs.Map.{lookup}
use Rattle.std.proofs.lemmas.List.{get_or_read_under}
use Rattle.std.proofs.lemmas.List.FromFn.{map-range_with_len_more}
use Rattle.indexmap.specs.IndexMap.{get}
use Rattle.type_world.specs.RowIndex.{key_of, row_after, row_with}
use Rattle.type_world.proofs.RowSearch.{next_is, nothing_after, one_more}
use Rattle.type_world.proofs.row_index.RowIndex.of.Goals as goal

pub loop-after-init : goal.loop-after-init
loop-after-init c = record {
  firsts = λ key. ap (λ es. lookup (nat_eq key) es) c.new-first.ensures.empty
      ∙ nothing_after c.args.keys.items key (length c.args.keys.items + 1 - 0) (omega arith);
  nexts = c.new-next.ensures.items;
}

pub loop-after-preserved : goal.loop-after-preserved
loop-after-preserved c =
    let keys = c.args.keys.items in
    let after = c.loop-after.after in
    let below = c.loop-after-test.true in
    let own = c.index-key.result.now in
    let long : c.len-rows.result ≡ length c.args.keys.items = omega (arith, c.len-rows.ensures, c.args.keys.ok.0) in
    let row = c.len-rows.result - c.loop-after.after in
    let here : c.len-rows.result - c.loop-after.after ≤ length c.args.keys.items = omega (arith, long) in
    let next : length c.args.keys.items + 1 - c.loop-after.after ≡ c.len-rows.result - c.loop-after.after + 1 = omega (arith, long, below) in
    let last : c.len-rows.result - c.loop-after.after ≡ length c.args.keys.items + 1 - (c.loop-after.after + 1) = omega (arith, long, below) in
    let place : c.len-rows.result - c.loop-after.after ≡ length c.args.keys.items - c.loop-after.after = omega (arith, long) in
    let inside : c.len-rows.result - c.loop-after.after - 1 < length c.args.keys.items = omega (arith, long, below) in
    let is : c.index-key.result.now ≡ key_of c.args.keys.items (c.len-rows.result - c.loop-after.after) =
    get_or_read_under keys (row - 1) (length keys) own 0 c.index-key.ensures inside refl in
    let so_far : (q : ℕ) → get nat_eq c.loop-after.first q ≡ row_with c.args.keys.items q (c.len-rows.result - c.loop-after.after + 1) =
    λ q. c.loop-after.invariant.firsts q ∙ ap (row_with keys q) next in
    let answer : ℕ → ℕ = λ j. row_after c.args.keys.items (length c.args.keys.items - j) in
    let later_is : c.unwrap_or.result ≡ row_after c.args.keys.items (length c.args.keys.items - c.loop-after.after) =
    next_is keys row own c.unwrap_or.result c.in_ok-later.later is (c.in_ok-later.ensures.old ∙ so_far own) c.unwrap_or.ensures
    ∙ ap (row_after keys) place in
    record {
      firsts = λ key. one_more keys row own (λ q. get nat_eq c.loop-after.first q) (λ q. get nat_eq c.insert.new.self q) here is
          c.in_ok-later.ensures.updates.0 so_far key ∙ ap (row_with keys key) last;
      nexts =
          c.in_ok-push.ensures.items
          ∙ ap (λ xs. xs ++ c.unwrap_or.result ∷ []) c.loop-after.invariant.nexts
          ∙ ap (λ n. map answer (range_with_len 0 after) ++ n ∷ []) later_is
          ∙ sym (map-range_with_len_more answer 0 after after (omega arith));
    }

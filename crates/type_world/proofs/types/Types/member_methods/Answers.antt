use Rattle.std.proofs.Common.{◌+◌, ◌++◌, ◌∷◌, [], map, sym, ap, arith, ◌∙◌}
use Rattle.std.proofs.lemmas.List.FromFn.{map-range_with_len_more}
use Rattle.std.specs.List.{range_with_len}
use Rattle.type_world.specs.Loading.{world_of}
use Rattle.type_world.specs.Members.{member_method}
use Rattle.type_world.proofs.types.Types.member_methods.Goals as goal

pub loop-index-preserved : goal.loop-index-preserved
loop-index-preserved c =
    let answer = member_method (world_of c.args.self.now) c.args.asm in
    c.in_ok-push.ensures.items
    ∙ ap (λ xs. xs ++ c.member_method.result ∷ []) c.loop-index.invariant
    ∙ ap (λ of. map answer (range_with_len 1 c.loop-index.index) ++ of ∷ []) c.member_method.ensures
    ∙ sym (map-range_with_len_more answer 1 c.loop-index.index (c.loop-index.index + 1) (omega arith))

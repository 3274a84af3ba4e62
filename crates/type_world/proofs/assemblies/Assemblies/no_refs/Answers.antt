use Rattle.std.proofs.Common.{◌+◌, ◌++◌, ◌∷◌, [], None, map, sym, ap, arith, ◌∙◌}
use Rattle.std.proofs.lemmas.List.FromFn.{map-range_with_len_more}
use Rattle.std.specs.List.{range_with_len}
use Rattle.type_world.specs.Loading.{world_of}
use Rattle.type_world.specs.Resolution.{resolve_ref_within}
use Rattle.type_world.proofs.TypeRefs.{nothing_within}
use Rattle.type_world.proofs.assemblies.Assemblies.no_refs.Goals as goal

pub loop-index-preserved : goal.loop-index-preserved
loop-index-preserved c =
    let answer = resolve_ref_within 0 (world_of c.args.self.now) c.args.asm in
    c.in_ok-push.ensures.items
    ∙ ap (λ xs. xs ++ None ∷ []) c.loop-index.invariant
    ∙ ap (λ of. map answer (range_with_len 1 c.loop-index.index) ++ of ∷ [])
    (nothing_within (world_of c.args.self.now) c.args.asm (c.loop-index.index + 1))
    ∙ sym (map-range_with_len_more answer 1 c.loop-index.index (c.loop-index.index + 1) (omega arith))

use Rattle.std.proofs.Common.{◌≡◌, ◌++◌, ◌∷◌, [], length, map, sym, ap, arith, ◌∙◌}
use Rattle.std.proofs.lemmas.List.FromFn.{map-range_with_len_more}
use Rattle.std.specs.List.{range_with_len}
use Rattle.type_world.specs.Kept.{kept_of}
use Rattle.type_world.specs.Loading.{world_of}
use Rattle.type_world.proofs.Names.{count_is}
use Rattle.type_world.proofs.resolved.resolve_all.Goals as goal

pub loop-asm-preserved : goal.loop-asm-preserved
loop-asm-preserved c =
    let answer = kept_of (world_of c.args.assemblies.now) in
    c.in_ok-push.ensures.items
    ∙ ap (λ xs. xs ++ c.in_ok-of.field-0 ∷ []) c.loop-asm.invariant
    ∙ ap (λ k. map answer (range_with_len 0 c.loop-asm.asm) ++ k ∷ []) c.in_ok-of.ensures
    ∙ sym (map-range_with_len_more answer 0 c.loop-asm.asm c.loop-asm.asm (omega arith))

pub returns : goal.returns
returns c =
    let count = c.count-asm-end.ensures.count in
    let same = count_is c.args.assemblies.now in
    let past = c.loop-asm-test.false in
    let last : c.loop-asm.asm ≡ length (world_of c.args.assemblies.now) = omega (arith, count, same, past) in
    c.loop-asm.invariant ∙ ap (λ n. map (kept_of (world_of c.args.assemblies.now)) (range_with_len 0 n)) last

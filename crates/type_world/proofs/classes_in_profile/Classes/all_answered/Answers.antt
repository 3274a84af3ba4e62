use Rattle.std.proofs.Common.{◌≡◌, ◌++◌, ◌∷◌, [], length, map, sym, ap, arith, ◌∙◌}
use Rattle.std.proofs.lemmas.List.FromFn.{map-range_with_len_more}
use Rattle.std.specs.List.{range_with_len}
use Rattle.type_world.specs.Loading.{world_of}
use Rattle.type_world.specs.Profiled.{answers_of}
use Rattle.type_world.proofs.Names.{count_is}
use Rattle.type_world.proofs.classes_in_profile.Classes.all_answered.Goals as goal

pub loop-asm-preserved : goal.loop-asm-preserved
loop-asm-preserved c =
    let answer = answers_of (world_of c.args.self.now) in
    c.in_ok-push.ensures.items
    ∙ ap (λ xs. xs ++ c.in_ok-of.field-0 ∷ []) c.loop-asm.invariant
    ∙ ap (λ k. map answer (range_with_len 0 c.loop-asm.asm) ++ k ∷ []) c.in_ok-of.ensures
    ∙ sym (map-range_with_len_more answer 0 c.loop-asm.asm c.loop-asm.asm (omega arith))

pub returns : goal.returns
returns c =
    let count = c.count-asm-end.ensures.count in
    let same = count_is c.args.self.now in
    let past = c.loop-asm-test.false in
    let read : length c.assemblies.result.now ≡ length c.args.self.now = ap length (c.assemblies.ensures ∙ c.types.ensures) in
    let last : c.loop-asm.asm ≡ length (world_of c.args.self.now) = omega (arith, count, same, past, read) in
    c.loop-asm.invariant ∙ ap (λ n. map (answers_of (world_of c.args.self.now)) (range_with_len 0 n)) last

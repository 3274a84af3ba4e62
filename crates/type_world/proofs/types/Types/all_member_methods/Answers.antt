use Rattle.std.proofs.Common.{◌≡◌, ◌++◌, ◌∷◌, [], length, map, sym, ap, arith, ◌∙◌}
use Rattle.std.proofs.lemmas.List.FromFn.{map-range_with_len_more}
use Rattle.std.specs.List.{range_with_len}
use Rattle.type_world.specs.KeptMethods.{member_methods_of}
use Rattle.type_world.specs.Loading.{world_of}
use Rattle.type_world.proofs.Names.{count_is}
use Rattle.type_world.proofs.types.Types.all_member_methods.Goals as goal

pub loop-asm-preserved : goal.loop-asm-preserved
loop-asm-preserved c =
    let answer = member_methods_of (world_of c.args.self.now) in
    c.in_ok-push.ensures.items
    ∙ ap (λ xs. xs ++ c.in_ok-member_methods.field-0 ∷ []) c.loop-asm.invariant
    ∙ ap (λ k. map answer (range_with_len 0 c.loop-asm.asm) ++ k ∷ []) c.in_ok-member_methods.ensures
    ∙ sym (map-range_with_len_more answer 0 c.loop-asm.asm c.loop-asm.asm (omega arith))

pub returns : goal.returns
returns c =
    let count = c.count-asm-end.ensures.count in
    let same = count_is c.args.self.now in
    let files = ap length c.assemblies.ensures in
    let past = c.loop-asm-test.false in
    let last : c.loop-asm.asm ≡ length (world_of c.args.self.now) = omega (arith, count, same, past, files) in
    c.loop-asm.invariant ∙ ap (λ n. map (member_methods_of (world_of c.args.self.now)) (range_with_len 0 n)) last

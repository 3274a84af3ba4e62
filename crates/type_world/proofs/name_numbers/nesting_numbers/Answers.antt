use Rattle.std.proofs.Common.{◌+◌, ◌++◌, ◌∷◌, [], map, sym, ap, arith, ◌∙◌}
use Rattle.std.proofs.lemmas.List.FromFn.{map-range_with_len_more}
use Rattle.std.specs.List.{range_with_len}
use Rattle.cli_assembly.specs.Assemblies.{assembly_of}
use Rattle.type_world.specs.NameNumbers.{number_of_nesting}
use Rattle.type_world.proofs.name_numbers.nesting_numbers.Goals as goal

pub loop-before-preserved : goal.loop-before-preserved
loop-before-preserved c =
    let answer = number_of_nesting (assembly_of c.args.assembly.now) in
    c.in_ok-push.ensures.items
    ∙ ap (λ xs. xs ++ c.number_of_nesting.result ∷ []) c.loop-before.invariant
    ∙ ap (λ n. map answer (range_with_len 1 c.loop-before.before) ++ n ∷ []) c.number_of_nesting.ensures
    ∙ sym (map-range_with_len_more answer 1 c.loop-before.before (c.loop-before.before + 1) (omega arith))

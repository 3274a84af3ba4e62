use Rattle.std.proofs.Common.{◌≡◌, ◌+◌, ◌++◌, ◌∷◌, [], ℕ, map, sym, ap, arith, ◌∙◌}
use Rattle.std.proofs.lemmas.List.FromFn.{map-range_with_len_more}
use Rattle.std.specs.List.{range_with_len}
use Rattle.cli_assembly.specs.Assemblies.{assembly_of}
use Rattle.type_world.specs.NameNumbers.{outermost_by}
use Rattle.type_world.specs.Resolution.{is_nested}
use Rattle.type_world.proofs.OtherNames.{nested_mark}
use Rattle.type_world.proofs.name_numbers.outermost_numbers.Goals as goal

pub loop-before-preserved : goal.loop-before-preserved
loop-before-preserved c =
    let a = assembly_of c.args.assembly.now in
    let answer : ℕ → ℕ = λ row. outermost_by (is_nested a row) a row in
    let rows = c.rows-before-end.ensures.rows in
    let below = c.loop-before-test.true in
    let row = c.loop-before.before + 1 in
    let nested : c.is_marked.result ≡ is_nested a row =
    c.is_marked.ensures ∙ nested_mark a row c.as_slice-marks.result.now (c.as_slice-marks.ensures.value ∙ c.in_ok-nested.ensures) (omega (arith, rows, below)) in
    c.in_ok-push.ensures.items
    ∙ ap (λ xs. xs ++ c.number_of_type.result ∷ []) c.loop-before.invariant
    ∙ ap (λ n. map answer (range_with_len 1 c.loop-before.before) ++ n ∷ []) (c.number_of_type.ensures ∙ ap (λ b. outermost_by b a row) nested)
    ∙ sym (map-range_with_len_more answer 1 c.loop-before.before (c.loop-before.before + 1) (omega arith))

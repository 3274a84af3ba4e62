use Rattle.std.proofs.Common.{ℕ, ◌≡◌, ◌+◌, ◌++◌, ◌∷◌, [], map, sym, ap, arith, ◌∙◌}
use Rattle.std.proofs.lemmas.List.FromFn.{map-range_with_len_more}
use Rattle.std.specs.List.{range_with_len}
use Rattle.metadata.specs.declared.schema.Table.TheVariants as tables
use Rattle.cli_assembly.specs.Assemblies.{row_count}
use Rattle.type_world.specs.Loading.{world_of}
use Rattle.type_world.specs.Members.{method_id}
use Rattle.type_world.specs.Profile.{profile_shape}
use Rattle.type_world.specs.Profiled.{answers_of}
use Rattle.type_world.specs.World.{assembly_in}
use Rattle.type_world.proofs.classes_in_profile.Classes.shapes_in_profile.Goals as goal

pub loop-index-preserved : goal.loop-index-preserved
loop-index-preserved c =
    let answer = λ (row : ℕ). profile_shape (world_of c.args.self.now) (method_id c.args.asm row) in
    c.in_ok-push.ensures.items
    ∙ ap (λ xs. xs ++ c.in_ok-profile_shape.field-0 ∷ []) c.loop-index.invariant
    ∙ ap (λ k. map answer (range_with_len 1 c.loop-index.index) ++ k ∷ [])
    (c.in_ok-profile_shape.ensures
    ∙ ap (λ files. profile_shape (world_of files) (method_id c.args.asm (c.loop-index.index + 1))) c.types-types.ensures)
    ∙ sym (map-range_with_len_more answer 1 c.loop-index.index (c.loop-index.index + 1) (omega arith))

pub returns : goal.returns
unfolding answers_of
returns c =
    let rows = c.rows_at-index-end.ensures.rows in
    let same =
    ap (λ files. row_count (assembly_in (world_of files) c.args.asm) tables.MethodDef) (c.assemblies.ensures ∙ c.types-types.ensures) in
    let past = c.loop-index-test.false in
    let last : c.loop-index.index ≡ row_count (assembly_in (world_of c.args.self.now) c.args.asm) tables.MethodDef =
    omega (arith, rows, same, past) in
    let answer = λ (row : ℕ). profile_shape (world_of c.args.self.now) (method_id c.args.asm row) in
    c.loop-index.invariant ∙ ap (λ n. map answer (range_with_len 1 n)) last

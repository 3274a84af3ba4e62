use Rattle.std.proofs.Common.{ℕ, ◌≡◌, ◌+◌, ◌++◌, ◌∷◌, [], map, sym, ap, arith, is_some, ◌∙◌}
use Rattle.std.proofs.lemmas.List.FromFn.{map-range_with_len_more}
use Rattle.std.specs.List.{range_with_len}
use Rattle.metadata.specs.declared.schema.Table.TheVariants as tables
use Rattle.cli_assembly.specs.Assemblies.{row_count}
use Rattle.type_world.specs.Loading.{world_of}
use Rattle.type_world.specs.Members.{method_id}
use Rattle.type_world.specs.Profiled.{answers_of, generic_in, profile_locals}
use Rattle.type_world.specs.World.{assembly_in}
use Rattle.type_world.proofs.ProfileKept.{kept_row_shape}
use Rattle.type_world.proofs.RowMarks.{generic_mark}
use Rattle.type_world.proofs.classes_in_profile.Classes.locals_in_profile.Goals as goal

pub profile_locals-requires : goal.profile_locals-requires
profile_locals-requires c =
    let rows = c.rows_at-index-end.ensures.rows in
    let same =
    ap (λ files. row_count (assembly_in (world_of files) c.args.asm) tables.MethodDef)
    (c.assemblies-assemblies.ensures ∙ c.types.ensures) in
    let below = c.loop-index-test.true in
    record {
      shaped = c.has_shape.ensures
          ∙ ap is_some (kept_row_shape (world_of c.args.self.now) c.args.asm c.loop-index.index c.args.shapes.now
          (omega (arith, rows, same, below)) c.requires);
      generic = c.is_marked-is_generic.ensures
          ∙ generic_mark (world_of c.args.self.now) c.args.asm tables.MethodDef (c.loop-index.index + 1) c.as_slice-generic_rows.result.now
          (c.as_slice-generic_rows.ensures.value
          ∙ c.in_ok-generic.ensures
          ∙ ap (λ files. generic_in (world_of files) c.args.asm tables.MethodDef) (c.assemblies-assemblies.ensures ∙ c.types.ensures))
          (omega (arith, rows, same, below));
    }

pub loop-index-preserved : goal.loop-index-preserved
loop-index-preserved c =
    let answer = λ (row : ℕ). profile_locals (world_of c.args.self.now) (method_id c.args.asm row) in
    c.in_ok-push.ensures.items
    ∙ ap (λ xs. xs ++ c.in_ok-profile_locals.field-0 ∷ []) c.loop-index.invariant
    ∙ ap (λ k. map answer (range_with_len 1 c.loop-index.index) ++ k ∷ []) c.in_ok-profile_locals.ensures
    ∙ sym (map-range_with_len_more answer 1 c.loop-index.index (c.loop-index.index + 1) (omega arith))

pub returns : goal.returns
unfolding answers_of
returns c =
    let rows = c.rows_at-index-end.ensures.rows in
    let same =
    ap (λ files. row_count (assembly_in (world_of files) c.args.asm) tables.MethodDef)
    (c.assemblies-assemblies.ensures ∙ c.types.ensures) in
    let past = c.loop-index-test.false in
    let last : c.loop-index.index ≡ row_count (assembly_in (world_of c.args.self.now) c.args.asm) tables.MethodDef =
    omega (arith, rows, same, past) in
    let answer = λ (row : ℕ). profile_locals (world_of c.args.self.now) (method_id c.args.asm row) in
    c.loop-index.invariant ∙ ap (λ n. map answer (range_with_len 1 n)) last

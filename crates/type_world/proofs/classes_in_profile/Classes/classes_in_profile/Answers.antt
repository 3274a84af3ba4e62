use Rattle.std.proofs.Common.{ℕ, ◌≡◌, ◌+◌, ◌++◌, ◌∷◌, [], map, sym, ap, arith, ◌∙◌}
use Rattle.std.proofs.lemmas.List.FromFn.{map-range_with_len_more}
use Rattle.std.specs.List.{range_with_len}
use Rattle.metadata.specs.declared.schema.Table.TheVariants as tables
use Rattle.cli_assembly.specs.Assemblies.{row_count}
use Rattle.type_world.specs.declared.identity.TypeId.TheVariants as types
use Rattle.type_world.specs.Loading.{world_of}
use Rattle.type_world.specs.Profile.{type_in_profile}
use Rattle.type_world.specs.Profiled.{answers_of}
use Rattle.type_world.specs.World.{assembly_in}
use Rattle.type_world.proofs.classes_in_profile.Classes.classes_in_profile.Goals as goal

pub loop-row-preserved : goal.loop-row-preserved
loop-row-preserved c =
    let answer = λ (row : ℕ). type_in_profile (world_of c.args.self.now) (types.Class c.args.asm row) in
    c.in_ok-push.ensures.items
    ∙ ap (λ xs. xs ++ c.type_in_profile.result ∷ []) c.loop-row.invariant
    ∙ ap (λ of. map answer (range_with_len 0 c.loop-row.row) ++ of ∷ []) c.type_in_profile.ensures
    ∙ sym (map-range_with_len_more answer 0 c.loop-row.row c.loop-row.row (omega arith))

pub returns : goal.returns
unfolding answers_of
returns c =
    let rows = c.rows_at-rows.ensures.rows in
    let same = ap (λ files. row_count (assembly_in (world_of files) c.args.asm) tables.TypeDef) (c.assemblies.ensures ∙ c.types.ensures) in
    let past = c.loop-row-test.false in
    let last : c.loop-row.row ≡ row_count (assembly_in (world_of c.args.self.now) c.args.asm) tables.TypeDef + 1 =
    omega (arith, rows, same, past) in
    let answer = λ (row : ℕ). type_in_profile (world_of c.args.self.now) (types.Class c.args.asm row) in
    c.loop-row.invariant ∙ ap (λ n. map answer (range_with_len 0 n)) last

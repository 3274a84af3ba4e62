use Rattle.std.proofs.Common.{◌≡◌, ◌+◌, ◌++◌, ◌∷◌, [], map, sym, ap, arith, ◌∙◌}
use Rattle.std.proofs.lemmas.List.FromFn.{map-range_with_len_more}
use Rattle.std.specs.List.{range_with_len}
use Rattle.metadata.specs.declared.schema.Table.TheVariants as tables
use Rattle.cli_assembly.specs.Assemblies.{row_count}
use Rattle.type_world.specs.Loading.{world_of}
use Rattle.type_world.specs.Profile.{is_value_base}
use Rattle.type_world.specs.Profiled.{facts, facts_of, generic_in, overriding_in}
use Rattle.type_world.specs.World.{assembly_in}
use Rattle.type_world.proofs.RowMarks.{facts_are, made_facts, plain_by_marks}
use Rattle.type_world.proofs.types.Types.class_facts.Goals as goal

pub loop-row-preserved : goal.loop-row-preserved
loop-row-preserved c =
    let world = world_of c.args.self.now in
    let answer = facts world c.args.asm in
    let rows = c.rows_at-rows.ensures.rows in
    let read = c.assemblies-assemblies.ensures in
    let same = ap (λ files. row_count (assembly_in (world_of files) c.args.asm) tables.TypeDef) read in
    let below = c.loop-row-test.true in
    let plain =
    c.is_plain_by-plain.ensures
    ∙ plain_by_marks world c.args.asm c.loop-row.row c.as_slice-generic_rows.result.now c.as_slice-overriding_rows.result.now
    c.is_marked-is_generic.result c.is_marked-is_overriding.result
    (c.as_slice-generic_rows.ensures.value
    ∙ c.in_ok-generic.ensures ∙ ap (λ files. generic_in (world_of files) c.args.asm tables.TypeDef) read)
    (c.as_slice-overriding_rows.ensures.value ∙ c.in_ok-overriding.ensures ∙ ap (λ files. overriding_in (world_of files) c.args.asm) read)
    c.is_marked-is_generic.ensures c.is_marked-is_overriding.ensures (omega (arith, rows, same, below)) in
    let value =
    c.is_value_base-value_base.ensures ∙ ap (λ files. is_value_base (world_of files) c.args.asm c.loop-row.row) read in
    c.in_ok-push.ensures.items
    ∙ ap (λ xs. xs ++ made_facts c.is_plain_by-plain.result c.is_value_base-value_base.result ∷ []) c.loop-row.invariant
    ∙ ap (λ of. map answer (range_with_len 0 c.loop-row.row) ++ of ∷ [])
    (facts_are world c.args.asm c.loop-row.row c.is_plain_by-plain.result c.is_value_base-value_base.result plain value)
    ∙ sym (map-range_with_len_more answer 0 c.loop-row.row c.loop-row.row (omega arith))

pub returns : goal.returns
unfolding facts_of
returns c =
    let rows = c.rows_at-rows.ensures.rows in
    let same = ap (λ files. row_count (assembly_in (world_of files) c.args.asm) tables.TypeDef) c.assemblies-assemblies.ensures in
    let past = c.loop-row-test.false in
    let last : c.loop-row.row ≡ row_count (assembly_in (world_of c.args.self.now) c.args.asm) tables.TypeDef + 1 =
    omega (arith, rows, same, past) in
    c.from_vec.ensures
    ∙ c.loop-row.invariant ∙ ap (λ n. map (facts (world_of c.args.self.now) c.args.asm) (range_with_len 0 n)) last

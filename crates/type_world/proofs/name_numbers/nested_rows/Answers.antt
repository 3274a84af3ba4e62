use Rattle.std.proofs.Common.{◌≡◌, ◌==◌, ap, arith}
use Rattle.metadata.specs.declared.schema.Table.TheVariants as tables
use Rattle.cli_assembly.specs.Assemblies.{assembly_of, row_count}
use Rattle.type_world.proofs.OtherNames.{nested_are, nested_by}
use Rattle.type_world.proofs.RowMarks.{go_on}
use Rattle.type_world.proofs.name_numbers.nested_rows.Goals as goal

pub loop-before-preserved : goal.loop-before-preserved
loop-before-preserved c =
    let a = assembly_of c.args.assembly.now in
    let both =
    go_on c.loop-before.marks.items c.mark_at.new.marks c.deref_mut.result.now c.loop-before.marks.len
    (row_count a tables.TypeDef) c.loop-before.before (nested_by a)
    (λ k. c.column-nested.result == k) c.deref_mut.ensures.value c.mark_at.auto.marks c.loop-before.marks.ok.0
    c.loop-before.invariant.long c.loop-before.invariant.marks c.mark_at.ensures
    (λ k l. ap (λ r. r == k) c.column-nested.ensures) in
    record { marks = both.0; long = both.1 }

pub returns : goal.returns
returns c =
    let rows = c.rows-before-end.ensures.rows in
    let past = c.loop-before-test.false in
    let last : c.loop-before.before ≡ row_count (assembly_of c.args.assembly.now) tables.NestedClass = omega (arith, rows, past) in
    nested_are (assembly_of c.args.assembly.now) c.loop-before.marks.items c.loop-before.before
    c.loop-before.invariant.marks c.loop-before.invariant.long last

use Rattle.std.proofs.Common.{◌≡◌, ◌==◌, ap, arith}
use Rattle.metadata.specs.declared.schema.Table.TheVariants as tables
use Rattle.cli_assembly.specs.Assemblies.{row_count}
use Rattle.type_world.specs.Loading.{world_of}
use Rattle.type_world.specs.World.{assembly_in}
use Rattle.type_world.proofs.RowMarks.{go_on, overridden, overriding_are}
use Rattle.type_world.proofs.assemblies.Assemblies.overriding_rows.Goals as goal

pub loop-before-preserved : goal.loop-before-preserved
loop-before-preserved c =
    let world = world_of c.args.self.now in
    let both =
    go_on c.loop-before.marks.items c.mark_at.new.marks c.deref_mut.result.now c.loop-before.marks.len
    (row_count (assembly_in world c.args.asm) tables.TypeDef) c.loop-before.before (overridden world c.args.asm)
    (λ k. c.column_at-class.result == k) c.deref_mut.ensures.value c.mark_at.auto.marks c.loop-before.marks.ok.0
    c.loop-before.invariant.long c.loop-before.invariant.marks c.mark_at.ensures
    (λ k l. ap (λ r. r == k) c.column_at-class.ensures) in
    record { marks = both.0; long = both.1 }

pub returns : goal.returns
returns c =
    let rows = c.rows_at-before-end.ensures.rows in
    let past = c.loop-before-test.false in
    let last : c.loop-before.before ≡ row_count (assembly_in (world_of c.args.self.now) c.args.asm) tables.MethodImpl =
    omega (arith, rows, past) in
    overriding_are (world_of c.args.self.now) c.args.asm c.loop-before.marks.items c.loop-before.before
    c.loop-before.invariant.marks c.loop-before.invariant.long last

use Rattle.std.proofs.Common.{◌≡◌, arith}
use Rattle.metadata.specs.declared.schema.Table.TheVariants as tables
use Rattle.cli_assembly.specs.Assemblies.{row_count}
use Rattle.type_world.specs.Loading.{world_of}
use Rattle.type_world.specs.Profiled.{is_row}
use Rattle.type_world.specs.World.{assembly_in}
use Rattle.type_world.proofs.RowMarks.{generics_are, go_on, owners}
use Rattle.type_world.proofs.assemblies.Assemblies.generic_rows.Goals as goal

pub loop-before-preserved : goal.loop-before-preserved
loop-before-preserved c =
    let world = world_of c.args.self.now in
    let rows = c.rows_at.ensures.rows in
    let few = c.rows_at.ensures.few in
    let both =
    go_on c.loop-before.marks.items c.mark.new.marks c.deref_mut.result.now c.loop-before.marks.len
    (row_count (assembly_in world c.args.asm) c.args.table) c.loop-before.before (owners world c.args.asm c.args.table)
    (is_row c.owner_row.result) c.deref_mut.ensures.value c.mark.auto.marks c.loop-before.marks.ok.0 c.loop-before.invariant.long
    c.loop-before.invariant.marks c.mark.ensures (λ k l. c.owner_row.ensures k (omega (arith, rows, few, l))) in
    record { marks = both.0; long = both.1 }

pub returns : goal.returns
returns c =
    let rows = c.rows_at-before-end.ensures.rows in
    let past = c.loop-before-test.false in
    let last : c.loop-before.before ≡ row_count (assembly_in (world_of c.args.self.now) c.args.asm) tables.GenericParam =
    omega (arith, rows, past) in
    generics_are (world_of c.args.self.now) c.args.asm c.args.table c.loop-before.marks.items c.loop-before.before
    c.loop-before.invariant.marks c.loop-before.invariant.long last

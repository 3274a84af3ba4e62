use Rattle.std.proofs.Common.{sym, ◌∙◌, arith}
use Rattle.metadata.specs.declared.schema.Table.TheVariants as tables
use Rattle.cli_assembly.specs.Assemblies.{row_count}
use Rattle.type_world.specs.Loading.{world_of}
use Rattle.type_world.specs.Profile.{is_owner}
use Rattle.type_world.specs.World.{assembly_in, column_in}
use Rattle.type_world.proofs.TypeNames.{row_not_any}
use Rattle.type_world.proofs.assemblies.Assemblies.is_generic.Goals as goal

pub loop-before-preserved : goal.loop-before-preserved
loop-before-preserved c =
    let rows = c.rows_at-before-end.ensures.rows in
    let below = c.loop-before-test.true in
    let world = world_of c.args.self.now in
    c.loop-before.invariant
    ∙ row_not_any (λ param. is_owner world c.args.asm c.args.table c.args.row (column_in world c.args.asm tables.GenericParam param 2))
    c.loop-before.before (row_count (assembly_in world c.args.asm) tables.GenericParam) (omega (arith, rows, below))
    (sym c.is_owner.ensures ∙ c.if-is_owner.false)

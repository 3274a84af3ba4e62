use Rattle.std.proofs.Common.{sym, ◌∙◌, arith}
use Rattle.std.specs.Str.{bytes_eq}
use Rattle.metadata.specs.declared.schema.Table.TheVariants as tables
use Rattle.cli_assembly.specs.Assemblies.{row_count}
use Rattle.type_world.specs.Loading.{world_of}
use Rattle.type_world.specs.World.{assembly_in}
use Rattle.type_world.specs.Entries.{full_name}
use Rattle.type_world.proofs.FullNames.{row_passed}
use Rattle.type_world.proofs.assemblies.Assemblies.class_named.Goals as goal

pub loop-before-preserved : goal.loop-before-preserved
loop-before-preserved c =
    let rows = c.rows_at-before-end.ensures.rows in
    let below = c.loop-before-test.true in
    c.loop-before.invariant
    ∙ row_passed (λ row. bytes_eq c.args.name.now (full_name (assembly_in (world_of c.args.self.now) 0) row)) c.loop-before.before
    (row_count (assembly_in (world_of c.args.self.now) 0) tables.TypeDef) (omega (arith, rows, below))
    (sym c.is_class_named.ensures ∙ c.if-is_class_named.false)

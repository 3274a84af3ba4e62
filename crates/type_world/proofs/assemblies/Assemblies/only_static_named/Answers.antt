use Rattle.std.proofs.Common.{sym, ◌∙◌}
use Rattle.cli_assembly.specs.Assemblies.{rows_between}
use Rattle.std.proofs.Common.{filter}
use Rattle.type_world.specs.Loading.{world_of}
use Rattle.type_world.specs.Entries.{is_static_named}
use Rattle.type_world.proofs.assemblies.Assemblies.only_static_named.Goals.{else-is_static_named, then-is_static_named+else-is_some}
use Rattle.type_world.proofs.FullNames.{row_kept, row_left}
use Rattle.type_world.proofs.assemblies.Assemblies.only_static_named.Goals as goal

pub loop-row-preserved : goal.loop-row-preserved
loop-row-preserved c =
    let p = is_static_named (world_of c.args.self.now) c.args.name.now in
    let all = filter p (rows_between c.args.rows.start c.args.rows.end) in
    elim c.if-is_static_named.branch [
      | then-is_static_named+else-is_some w ↦
          row_kept p c.loop-row.only c.if-is_static_named.only all c.loop-row.row c.args.rows.end c.loop-row-test.true c.loop-row.invariant
          (sym c.is_static_named.ensures ∙ w.if-is_static_named.true) (sym w.is_some.ensures ∙ w.if-is_some.false) w.only-is
      | else-is_static_named w ↦
          row_left p c.loop-row.only c.if-is_static_named.only all c.loop-row.row c.args.rows.end c.loop-row-test.true c.loop-row.invariant
          (sym c.is_static_named.ensures ∙ w.if-is_static_named.false) w.only-is
    ]

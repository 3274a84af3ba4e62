use Rattle.std.proofs.Common.{sym, ◌∙◌}
use Rattle.type_world.specs.Loading.{world_of}
use Rattle.type_world.specs.MethodRefs.{is_wanted}
use Rattle.type_world.proofs.Names.{rest_of}
use Rattle.type_world.proofs.types.Types.first_method.Goals as goal

pub loop-row-preserved : goal.loop-row-preserved
loop-row-preserved c =
    c.loop-row.invariant
    ∙ rest_of (is_wanted (world_of c.args.self.now) c.args.wanted.now c.args.asm)
    c.loop-row.row c.args.rows.end c.loop-row-test.true (sym c.is_method.ensures ∙ c.if-is_method.false)

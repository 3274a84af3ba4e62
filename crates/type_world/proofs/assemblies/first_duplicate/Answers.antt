use Rattle.std.proofs.Common.{sym, ◌∙◌, length}
use Rattle.type_world.specs.Loading.{world_of}
use Rattle.type_world.proofs.Names.{from_start, pair_later}
use Rattle.type_world.proofs.assemblies.first_duplicate.Goals as goal

pub loop-j-init : goal.loop-j-init
loop-j-init c = from_start c.args.assemblies.now

pub loop-j-preserved : goal.loop-j-preserved
loop-j-preserved c =
    c.loop-j.invariant ∙ pair_later (world_of c.args.assemblies.now) c.loop-j.j (length c.args.assemblies.now) c.loop-j-test.true
    (sym c.earlier_name.ensures.first ∙ c.in_default.is)

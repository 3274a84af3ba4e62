use Rattle.std.proofs.Common.{sym, ◌∙◌}
use Rattle.std.specs.Str.{bytes_eq}
use Rattle.type_world.specs.Loading.{world_of}
use Rattle.type_world.specs.World.{name_in}
use Rattle.type_world.proofs.Names.{rest_of}
use Rattle.type_world.proofs.assemblies.earlier_name.Goals as goal

pub loop-i-preserved : goal.loop-i-preserved
loop-i-preserved c =
    c.loop-i.invariant ∙ rest_of
    (λ i. bytes_eq (name_in (world_of c.args.assemblies.now) c.args.j) (name_in (world_of c.args.assemblies.now) i)) c.loop-i.i c.args.j
    c.loop-i-test.true (sym c.have_one_name.ensures ∙ c.if-have_one_name.false)

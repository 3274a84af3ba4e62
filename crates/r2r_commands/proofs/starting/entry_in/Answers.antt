use Rattle.type_world.specs.Loading.{world_of}
use Rattle.r2r_commands.proofs.Rows.{named_found, point_found}
use Rattle.r2r_commands.proofs.starting.entry_in.Goals as goal

pub returns-in-None-clause-row : goal.returns-in-None-clause-row
returns-in-None-clause-row c = point_found (world_of c.args.world.now) c.entry_point.result c.entry_point.ensures

pub returns-in-Some-clause-row : goal.returns-in-Some-clause-row
returns-in-Some-clause-row c =
    named_found (world_of c.args.world.now) c.in-Some.named.type_name.now c.in-Some.named.method.now c.entry_named.result
    c.entry_named.ensures

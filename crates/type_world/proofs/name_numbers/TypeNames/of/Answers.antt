use Rattle.std.proofs.Common.{length, ap, arith}
use Rattle.cli_assembly.specs.Assemblies.{assembly_of}
use Rattle.type_world.proofs.OtherNames.{nestings_long, outermost_long}
use Rattle.type_world.proofs.name_numbers.TypeNames.of.Goals as goal

pub of-requires : goal.of-requires
of-requires c =
    let long = outermost_long (assembly_of c.args.assembly.now) in
    let same = ap length c.in_ok-outermost_numbers.ensures in
    let rows = c.rows.ensures.rows in
    let few = c.rows.ensures.few in
    record { few = omega (arith, long, same, rows, few) }

pub of-requires-2 : goal.of-requires-2
of-requires-2 c =
    let long = nestings_long (assembly_of c.args.assembly.now) in
    let same = ap length c.in_ok-nesting_numbers.ensures in
    let rows = c.rows-2.ensures.rows in
    let few = c.rows-2.ensures.few in
    record { few = omega (arith, long, same, rows, few) }

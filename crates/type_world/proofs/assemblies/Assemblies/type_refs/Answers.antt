use Rattle.std.proofs.Common.{sym, ap, ◌∙◌, arith}
use Rattle.metadata.specs.declared.schema.Table.TheVariants as tables
use Rattle.cli_assembly.specs.Assemblies.{row_count}
use Rattle.type_world.specs.Loading.{world_of}
use Rattle.type_world.specs.World.{assembly_in}
use Rattle.type_world.proofs.TypeRefs.{last_round, next_round, round}
use Rattle.type_world.proofs.assemblies.Assemblies.type_refs.Goals as goal

pub returns-then-are_equal : goal.returns-then-are_equal
returns-then-are_equal c =
    let world = world_of c.args.self.now in
    let rows = c.rows_at-round-end.ensures.rows in
    let below = c.loop-round-test.true in
    last_round world c.args.asm c.loop-round.refs.items c.in_ok-next.next.items c.loop-round.round
    (row_count (assembly_in world c.args.asm) tables.TypeRef) c.loop-round.invariant
    (c.in_ok-next.ensures ∙ ap (round world c.args.asm) c.deref.ensures.value)
    (sym c.as_slice.ensures.value ∙ c.are_equal.ensures c.if-are_equal.true ∙ c.as_slice-in-loop-round.ensures.value)
    (omega (arith, rows, below))

pub loop-round-preserved : goal.loop-round-preserved
loop-round-preserved c =
    let world = world_of c.args.self.now in
    next_round world c.args.asm c.loop-round.refs.items c.in_ok-next.next.items c.loop-round.round c.loop-round.invariant
    (c.in_ok-next.ensures ∙ ap (round world c.args.asm) c.deref.ensures.value)

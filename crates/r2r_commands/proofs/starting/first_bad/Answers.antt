use Rattle.std.proofs.Common.{◌<◌, length, map, sym, ap, ◌∙◌, arith, vec_items}
use Rattle.type_world.specs.Entries.{can_start}
use Rattle.type_world.specs.Loading.{world_of}
use Rattle.r2r_commands.specs.Loaded.{first_of}
use Rattle.r2r_commands.proofs.EachFile.{items_at, items_long}
use Rattle.r2r_commands.proofs.Starts.{passed_here, refused_here}
use Rattle.r2r_commands.proofs.starting.first_bad.Goals as goal

pub returns-then-not-can_start : goal.returns-then-not-can_start
returns-then-not-can_start c =
    let world = world_of c.args.world.now in
    let i = c.loop-i.i in
    let one = c.index-workers-i.result in
    let all = c.args.workers.now in
    let h : i < length all = omega arith in
    let long : i < length (map vec_items all) = omega (arith, h, items_long all) in
    let starts = ap (can_start world c.args.entry) (sym c.as_slice.ensures.value) ∙ sym c.can_start.ensures
    ∙ c.if-not-can_start.true in
    sym (c.loop-i.invariant
    ∙ refused_here world c.args.entry (map vec_items all) i one.items long (items_at all i one h c.index-workers-i.is) starts)

pub loop-i-preserved : goal.loop-i-preserved
loop-i-preserved c =
    let world = world_of c.args.world.now in
    let i = c.loop-i.i in
    let one = c.index-workers-i.result in
    let all = c.args.workers.now in
    let h : i < length all = omega arith in
    let long : i < length (map vec_items all) = omega (arith, h, items_long all) in
    let starts = ap (can_start world c.args.entry) (sym c.as_slice.ensures.value) ∙ sym c.can_start.ensures
    ∙ c.if-not-can_start.false in
    c.loop-i.invariant
    ∙ ap first_of (passed_here world c.args.entry (map vec_items all) i one.items long (items_at all i one h c.index-workers-i.is) starts)

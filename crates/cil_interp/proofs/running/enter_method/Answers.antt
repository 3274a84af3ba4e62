use Rattle.std.proofs.Common.{◌≡◌, ◌≤◌, ◌+◌, length, sym, ap, ◌∙◌, arith, subst, refl, rules}
use Rattle.type_world.specs.World.{World}
use Rattle.type_world.specs.Loading.{world_of}
use Rattle.cil_interp.specs.Frames.{ended}
use Rattle.cil_interp.proofs.Entering.{goes_with, is_absent, known_body, no_ticks, room_begun, room_written, too_deep, waiting_count}
use Rattle.cil_interp.proofs.Entries.{written_size}
use Rattle.cil_interp.proofs.Stepping.{no_profile}
use Rattle.cil_interp.proofs.WorldRows.{world_count}
use Rattle.cil_interp.proofs.running.enter_method.Goals as goal

pub returns-then-not-tick-clause-entered : goal.returns-then-not-tick-clause-entered
returns-then-not-tick-clause-entered c = λ output begun.
    no_ticks (world_of c.args.world.now) _ c.args.target _ output c.args.meter.now.ticks_left begun (c.if-not-tick.ensures.none refl).0

pub returns-then-meter-ge-FRAMES-clause-entered : goal.returns-then-meter-ge-FRAMES-clause-entered
returns-then-meter-ge-FRAMES-clause-entered c = λ output begun.
    let taken = c.if-not-tick.ensures.taken (search rules) in
    let deep = c.if-meter-ge-FRAMES.true in
    let same = taken.1 in
    let depth = c.requires.depth in
    let count = waiting_count (world_of c.args.world.now) c.args.stack.now c.args.words.now in
    too_deep (world_of c.args.world.now) _ c.args.target _ output c.args.meter.now.ticks_left begun c.tick.new.meter.ticks_left
    taken.0 c.requires.row (omega (arith, deep, same, depth, count))

pub returns-in-None-clause-entered : goal.returns-in-None-clause-entered
returns-in-None-clause-entered c = λ output begun.
    let taken = c.if-not-tick.ensures.taken (search rules) in
    let low = c.if-meter-ge-FRAMES.false in
    let same = taken.1 in
    let depth = c.requires.depth in
    let waiting = waiting_count (world_of c.args.world.now) c.args.stack.now c.args.words.now in
    let count = world_count c.args.world.now in
    let is = c.count-count.ensures.count in
    let few = c.count-count.ensures.few in
    is_absent (world_of c.args.world.now) _ c.args.target _ output c.args.meter.now.ticks_left begun c.tick.new.meter.ticks_left
    taken.0 c.requires.row (omega (arith, low, same, depth, waiting))
    (no_profile (world_of c.args.world.now) c.args.target
    (c.in-None.ensures.exact (world_of c.args.world.now) (omega (arith, count, is, few)) c.requires.table))
    ∙ ap (λ e. ended begun output e) (sym c.absent.ensures)

pub write-requires : goal.write-requires
write-requires c =
    let taken = c.if-not-tick.ensures.taken (search rules) in
    let low = c.if-meter-ge-FRAMES.false in
    let same = taken.1 in
    let depth = c.requires.depth in
    let count = world_count c.args.world.now in
    let is = c.count-count.ensures.count in
    let few = c.count-count.ensures.few in
    let world = world_of c.args.world.now in
    let laws = c.codes_are_instructions.ensures.whole in
    let rules_ = c.typings_meet_their_rules.ensures in
    let small : length world ≤ 64 = omega (arith, count, is, few) in
    let k = known_body laws rules_ world small c.args.target c.in-Some.body.now (c.in-Some.ensures.exact world small c.requires.table) in
    let room = room_written laws rules_ world small c.args.target c.in-Some.body.now k c.args.stack.now c.requires.waits c.requires.result
    c.args.arguments.now c.args.words.now c.requires.arguments c.requires.size (omega (arith, low, same, depth)) in
    let base = c.base_after-base.ensures in
    omega (arith, room, base)

pub begin-begun-requires-clause-room : goal.begin-begun-requires-clause-room
begin-begun-requires-clause-room c =
    let taken = c.if-not-tick.ensures.taken (search rules) in
    let low = c.if-meter-ge-FRAMES.false in
    let same = taken.1 in
    let depth = c.requires.depth in
    let count = world_count c.args.world.now in
    let is = c.count-count.ensures.count in
    let few = c.count-count.ensures.few in
    let world = world_of c.args.world.now in
    let laws = c.codes_are_instructions.ensures.whole in
    let rules_ = c.typings_meet_their_rules.ensures in
    let small : length world ≤ 64 = omega (arith, count, is, few) in
    let k = known_body laws rules_ world small c.args.target c.in-Some.body.now (c.in-Some.ensures.exact world small c.requires.table) in
    let room = room_begun laws rules_ world small c.args.target c.in-Some.body.now k c.args.stack.now c.requires.waits c.requires.result
    c.args.arguments.now c.args.words.now c.requires.arguments c.requires.size (omega (arith, low, same, depth)) c.write.new.words
    (ap length c.write.ensures ∙ written_size c.args.arguments.now c.args.words.now c.base_after-base.result) in
    let base = c.base_after-base.ensures in
    omega (arith, room, base)

pub returns-in-Some-clause-entered : goal.returns-in-Some-clause-entered
returns-in-Some-clause-entered c = λ output begun.
    let taken = c.if-not-tick.ensures.taken (search rules) in
    let low = c.if-meter-ge-FRAMES.false in
    let same = taken.1 in
    let depth = c.requires.depth in
    let count = world_count c.args.world.now in
    let is = c.count-count.ensures.count in
    let few = c.count-count.ensures.few in
    let world = world_of c.args.world.now in
    let laws = c.codes_are_instructions.ensures.whole in
    let rules_ = c.typings_meet_their_rules.ensures in
    let small : length world ≤ 64 = omega (arith, count, is, few) in
    let k = known_body laws rules_ world small c.args.target c.in-Some.body.now (c.in-Some.ensures.exact world small c.requires.table) in
    goes_with laws rules_ world small c.args.target c.in-Some.body.now k c.args.stack.now c.requires.waits c.requires.result
    c.args.arguments.now c.args.words.now c.requires.arguments c.requires.size (omega (arith, low, same, depth))
    c.base_after-base.result c.base_after-base.ensures c.write.new.words c.write.ensures c.begin-begun.result
    c.begin-begun.new.words c.push.new.self
    c.begin-begun.ensures.activation c.begin-begun.ensures.words c.push.ensures c.requires.row output c.args.meter.now.ticks_left
    c.tick.new.meter.ticks_left begun taken.0

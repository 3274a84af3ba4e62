use Rattle.std.proofs.Common.{◌≡◌, ◌≤◌, ◌<◌, length, sym, ap, ◌∙◌, arith, subst}
use Rattle.type_world.specs.World.{World}
use Rattle.type_world.specs.Loading.{world_of}
use Rattle.cil_interp.proofs.Giving.{end_room, gives_to, place_low}
use Rattle.cil_interp.proofs.WorldRows.{world_count}
use Rattle.cil_interp.proofs.running.give_last.Goals as goal

pub give_to-requires-clause-place : goal.give_to-requires-clause-place
give_to-requires-clause-place c =
    let count = world_count c.args._world.now in
    let is = c.count-count.ensures.count in
    let few = c.count-count.ensures.few in
    let low =
    place_low c.codes_are_instructions.ensures.whole c.typings_meet_their_rules.ensures (world_of c.args._world.now)
    (omega (arith, count, is, few))
    c.in-Some.a c.pop.new.self c.args.stack.now c.in-Some.ensures.taken c.requires.waits in
    omega (arith, low)

pub give_to-requires-clause-room : goal.give_to-requires-clause-room
give_to-requires-clause-room c =
    let count = world_count c.args._world.now in
    let is = c.count-count.ensures.count in
    let few = c.count-count.ensures.few in
    let frames = c.in-Some.ensures.few in
    let size = c.requires.size in
    end_room c.codes_are_instructions.ensures.whole c.typings_meet_their_rules.ensures (world_of c.args._world.now)
    (omega (arith, count, is, few))
    c.in-Some.a c.pop.new.self c.args.stack.now c.in-Some.ensures.taken c.requires.waits (length c.args.words.now) frames size

pub returns-in-Some-clause-given : goal.returns-in-Some-clause-given
returns-in-Some-clause-given c =
    let count = world_count c.args._world.now in
    let is = c.count-count.ensures.count in
    let few = c.count-count.ensures.few in
    let frames = c.in-Some.ensures.few in
    let size = c.requires.size in
    λ output ticks begun.
    gives_to c.codes_are_instructions.ensures.whole c.typings_meet_their_rules.ensures (world_of c.args._world.now)
    (omega (arith, count, is, few))
    c.in-Some.a c.pop.new.self c.args.stack.now c.in-Some.ensures.taken c.requires.waits c.args.words.now frames size c.args.word
    c.give_to.new.a c.give_to.new.words c.push.new.self c.give_to.ensures.activation c.give_to.ensures.words
    c.push.ensures output ticks begun

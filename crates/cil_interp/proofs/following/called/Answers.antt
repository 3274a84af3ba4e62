use Rattle.std.proofs.Common.{◌≡◌, ◌≤◌, length, sym, ap, ◌∙◌, arith, subst}
use Rattle.type_world.specs.World.{World}
use Rattle.type_world.specs.Loading.{world_of}
use Rattle.cil_interp.specs.Frames.{AreSome, GivesTo, PassesAll, Waits, frames_are, outgoing}
use Rattle.cil_interp.proofs.Calls.{called_asm, called_row, called_void, few_passed, goes_called, is_row}
use Rattle.cil_interp.proofs.WorldRows.{world_count}
use Rattle.cil_interp.proofs.following.called.Goals as goal

pub copied-count-requires-clause-few : goal.copied-count-requires-clause-few
copied-count-requires-clause-few c =
    let count = world_count c.args.world.now in
    let is = c.count-count.ensures.count in
    let few = c.count-count.ensures.few in
    let k = c.requires.called in
    few_passed (world_of c.args.world.now) (omega (arith, count, is, few)) (frames_are c.args.stack.now c.args.words.now) c.args.target
    (outgoing (frames_are c.args.stack.now c.args.words.now)) c.args.memory.now k.0 k.1 k.2 k.3

pub called_built_in-requires-clause-first : goal.called_built_in-requires-clause-first
called_built_in-requires-clause-first c =
    let count = world_count c.args.world.now in
    let is = c.count-count.ensures.count in
    let few = c.count-count.ensures.few in
    let k = c.requires.called in
    (called_row (world_of c.args.world.now) (omega (arith, count, is, few)) (frames_are c.args.stack.now c.args.words.now) c.args.target
    (outgoing (frames_are c.args.stack.now c.args.words.now)) c.args.memory.now k.0 k.1 k.2 k.3 c.if-target-eq-BUILT_IN.true).first

pub called_built_in-requires-clause-last : goal.called_built_in-requires-clause-last
called_built_in-requires-clause-last c =
    let count = world_count c.args.world.now in
    let is = c.count-count.ensures.count in
    let few = c.count-count.ensures.few in
    let k = c.requires.called in
    (called_row (world_of c.args.world.now) (omega (arith, count, is, few)) (frames_are c.args.stack.now c.args.words.now) c.args.target
    (outgoing (frames_are c.args.stack.now c.args.words.now)) c.args.memory.now k.0 k.1 k.2 k.3 c.if-target-eq-BUILT_IN.true).last

pub called_built_in-requires-clause-result : goal.called_built_in-requires-clause-result
called_built_in-requires-clause-result c =
    let count = world_count c.args.world.now in
    let is = c.count-count.ensures.count in
    let few = c.count-count.ensures.few in
    let k = c.requires.called in
    called_void (world_of c.args.world.now) (omega (arith, count, is, few)) (frames_are c.args.stack.now c.args.words.now) c.args.target
    (outgoing (frames_are c.args.stack.now c.args.words.now)) c.args.memory.now k.0 k.1 k.2 k.3 c.if-target-eq-BUILT_IN.true

pub called_method-requires-clause-row : goal.called_method-requires-clause-row
called_method-requires-clause-row c =
    let count = world_count c.args.world.now in
    let is = c.count-count.ensures.count in
    let few = c.count-count.ensures.few in
    let k = c.requires.called in
    (let low = called_asm (world_of c.args.world.now) (omega (arith, count, is, few))
    (frames_are c.args.stack.now c.args.words.now) c.args.target
    (outgoing (frames_are c.args.stack.now c.args.words.now)) c.args.memory.now k.0 k.1 k.2 k.3 in
    let other = c.if-target-eq-BUILT_IN.false in omega (arith, low, other))

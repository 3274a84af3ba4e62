use Rattle.std.proofs.Common.{◌≡◌, ◌≤◌, length, sym, ap, ◌∙◌, arith, subst, List}
use Rattle.type_world.specs.World.{World}
use Rattle.type_world.specs.Loading.{world_of}
use Rattle.cil_meaning.specs.State.{no_objects}
use Rattle.cil_meaning.specs.Run.{step}
use Rattle.cil_interp.specs.Means.{Means}
use Rattle.cil_interp.proofs.Comes.{left_is}
use Rattle.cil_interp.proofs.Reached.{end_within}
use Rattle.cil_interp.proofs.Stepping.{codes_of, depth_left, has_body, left_answers, runs_first, runs_low, runs_others, state_first}
use Rattle.cil_interp.proofs.WorldRows.{world_count}
use Rattle.cil_interp.proofs.running.step_last.Goals as goal

pub returns-in_default-body_of : goal.returns-in_default-body_of
returns-in_default-body_of c =
    let count = world_count c.args.world.now in
    let is = c.count-count.ensures.count in
    let few = c.count-count.ensures.few in
    absurd (has_body (world_of c.args.world.now) c.in-Some.a
    (runs_first (world_of c.args.world.now) c.in-Some.a c.pop.new.self c.args.stack.now c.in-Some.ensures.taken c.requires.runs)
    (c.in_default-body_of.ensures.exact (world_of c.args.world.now) (omega (arith, count, is, few)) c.requires.table))

pub advance-effect-requires-clause-world : goal.advance-effect-requires-clause-world
advance-effect-requires-clause-world c =
    let count = world_count c.args.world.now in
    let is = c.count-count.ensures.count in
    let few = c.count-count.ensures.few in
    omega (arith, count, is, few)

pub advance-effect-requires-clause-codes : goal.advance-effect-requires-clause-codes
advance-effect-requires-clause-codes c =
    let count = world_count c.args.world.now in
    let is = c.count-count.ensures.count in
    let few = c.count-count.ensures.few in
    λ k e.
    c.codes-codes.ensures
    ∙ codes_of (world_of c.args.world.now) c.in-Some.a.method c.in-Some-body_of.body.now
    (c.in-Some-body_of.ensures.exact (world_of c.args.world.now) (omega (arith, count, is, few)) c.requires.table) k e

pub returns : goal.returns
returns c =
    let count = world_count c.args.world.now in
    let is = c.count-count.ensures.count in
    let few = c.count-count.ensures.few in
    let world = world_of c.args.world.now in
    let first = runs_first world c.in-Some.a c.pop.new.self c.args.stack.now c.in-Some.ensures.taken c.requires.runs in
    let low = runs_low world c.in-Some.a c.pop.new.self c.args.stack.now c.in-Some.ensures.taken c.requires.runs in
    let others = runs_others world c.in-Some.a c.pop.new.self c.args.stack.now c.in-Some.ensures.taken c.requires.runs in
    let frames = c.in-Some.ensures.few in
    let size = c.requires.size in
    record {
      stepped = λ output begun.
          left_answers world c.advance-effect.result c.advance-effect.new.a c.pop.new.self c.leave.new.stack
          c.advance-effect.new.words output
          c.args.meter.now.ticks_left c.args.meter.now.depth c.leave.new.meter.ticks_left c.leave.result begun _
          c.leave.ensures.frames c.leave.ensures.ticks c.leave.ensures.event
          (left_is world c.in-Some.a c.pop.new.self c.args.words.now output c.args.meter.now.ticks_left
          c.args.meter.now.depth begun others low
          (end_within c.codes_are_instructions.ensures.whole c.typings_meet_their_rules.ensures world
          (omega (arith, count, is, few)) c.in-Some.a
          (length c.args.words.now) first (omega (arith, low, frames, size)))
          c.advance-effect.result c.advance-effect.new.a c.advance-effect.new.words _
          (subst (λ s. Means world c.in-Some.a c.pop.new.self c.args.words.now output c.args.meter.now.ticks_left begun
          c.advance-effect.result
          c.advance-effect.new.a c.advance-effect.new.words (step no_objects world s))
          (sym (state_first world c.in-Some.a c.pop.new.self c.args.stack.now c.in-Some.ensures.taken c.args.words.now output
          c.args.meter.now.ticks_left begun))
          (c.advance-effect.ensures.means c.pop.new.self output c.args.meter.now.ticks_left begun others)));
      depth = λ e.
          c.leave.ensures.depth
          ∙ depth_left c.advance-effect.result c.advance-effect.new.a c.pop.new.self c.args.meter.now.ticks_left c.args.meter.now.depth
          (e ∙ ap length c.in-Some.ensures.taken)
          ∙ ap length (sym c.leave.ensures.frames);
    }

use Rattle.std.proofs.Common.{◌≡◌, ◌≤◌, length, sym, ap, ◌∙◌, arith, subst}
use Rattle.type_world.specs.World.{World}
use Rattle.type_world.specs.Loading.{world_of}
use Rattle.cil_interp.specs.Frames.{left}
use Rattle.cil_interp.specs.Ran.{Takes}
use Rattle.cil_interp.proofs.Arrived.{come_to, takes_left}
use Rattle.cil_interp.proofs.Stepping.{codes_of, depth_left, has_body, runs_first, runs_low, runs_others}
use Rattle.cil_interp.proofs.following.run_last.Goals as goal

pub returns-in_default-body_of-clause-came : goal.returns-in_default-body_of-clause-came
returns-in_default-body_of-clause-came c =
    absurd (has_body (world_of c.args.world.now) c.in-Some.a
    (runs_first (world_of c.args.world.now) c.in-Some.a c.pop.new.self c.args.stack.now c.in-Some.ensures.taken c.requires.runs)
    (c.in_default-body_of.ensures.exact (world_of c.args.world.now) c.requires.world c.requires.table))

pub returns-in_default-body_of-clause-depth : goal.returns-in_default-body_of-clause-depth
returns-in_default-body_of-clause-depth c =
    absurd (has_body (world_of c.args.world.now) c.in-Some.a
    (runs_first (world_of c.args.world.now) c.in-Some.a c.pop.new.self c.args.stack.now c.in-Some.ensures.taken c.requires.runs)
    (c.in_default-body_of.ensures.exact (world_of c.args.world.now) c.requires.world c.requires.table))

pub run_frame-effect-requires-clause-codes : goal.run_frame-effect-requires-clause-codes
run_frame-effect-requires-clause-codes c = λ k e.
    c.codes-codes.ensures
    ∙ codes_of (world_of c.args.world.now) c.in-Some.a.method c.in-Some-body_of.body.now
    (c.in-Some-body_of.ensures.exact (world_of c.args.world.now) c.requires.world c.requires.table) k e

pub returns-clause-came : goal.returns-clause-came
returns-clause-came c =
    let low = runs_low (world_of c.args.world.now) c.in-Some.a c.pop.new.self c.args.stack.now c.in-Some.ensures.taken c.requires.runs in
    let others =
    runs_others (world_of c.args.world.now) c.in-Some.a c.pop.new.self c.args.stack.now c.in-Some.ensures.taken c.requires.runs in
    λ output begun.
    come_to (world_of c.args.world.now) c.in-Some.a c.pop.new.self c.args.stack.now c.in-Some.ensures.taken c.args.words.now output
    c.args.meter.now.ticks_left begun c.run_frame-effect.result c.run_frame-effect.new.a c.run_frame-effect.new.words
    c.run_frame-effect.new.meter.ticks_left others low (c.run_frame-effect.ensures.ran c.pop.new.self output begun others)
    c.run_frame-effect.new.meter.depth c.leave.new.stack c.leave.new.meter.ticks_left c.leave.result c.leave.ensures.frames
    c.leave.ensures.ticks c.leave.ensures.event

pub returns-clause-depth : goal.returns-clause-depth
returns-clause-depth c =
    c.leave.ensures.depth
    ∙ depth_left c.run_frame-effect.result c.run_frame-effect.new.a c.pop.new.self c.run_frame-effect.new.meter.ticks_left
    c.run_frame-effect.new.meter.depth
    (c.run_frame-effect.ensures.depth ∙ c.requires.depth ∙ ap length c.in-Some.ensures.taken)
    ∙ ap length (sym c.leave.ensures.frames)

pub returns-clause-takes : goal.returns-clause-takes
returns-clause-takes c =
    subst (λ e. Takes e c.leave.new.meter.ticks_left c.args.meter.now.ticks_left) (sym c.leave.ensures.event)
    (subst (λ n. Takes (left c.run_frame-effect.result c.run_frame-effect.new.a c.pop.new.self c.run_frame-effect.new.meter.ticks_left
    c.run_frame-effect.new.meter.depth).event n c.args.meter.now.ticks_left) (sym c.leave.ensures.ticks)
    (takes_left c.run_frame-effect.result c.run_frame-effect.new.a c.pop.new.self c.run_frame-effect.new.meter.ticks_left
    c.run_frame-effect.new.meter.depth c.args.meter.now.ticks_left c.run_frame-effect.ensures.leaves c.run_frame-effect.ensures.ticks))

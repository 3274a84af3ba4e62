use Rattle.std.proofs.Common.{◌≡◌, ◌≤◌, [], length, None, Some, sym, ap, ◌∙◌, arith, subst, refl}
use Rattle.type_world.specs.World.{World}
use Rattle.type_world.specs.Loading.{world_of}
use Rattle.cil_interp.specs.Frames.{frames_are}
use Rattle.cil_interp.proofs.Arrived.{ends_so, goes_further, still_runs}
use Rattle.cil_interp.proofs.Reached.{here}
use Rattle.cil_interp.proofs.WorldRows.{world_count}
use Rattle.cil_interp.proofs.following.run_all.Goals as goal

pub loop-ending-init : goal.loop-ending-init
loop-ending-init c = record {
  runs = c.requires.runs;
  depth = c.requires.depth;
  reaches = λ begun. (begun, here (world_of c.args.world.now) _);
}

pub run_last-event-requires-clause-world : goal.run_last-event-requires-clause-world
run_last-event-requires-clause-world c =
    let count = world_count c.args.world.now in
    let is = c.count-count.ensures.count in
    let few = c.count-count.ensures.few in
    omega (arith, count, is, few)

pub follow-requires-clause-came : goal.follow-requires-clause-came
follow-requires-clause-came c =
    let k = c.run_last-event.ensures.came c.loop-ending.memory [] in
    (c.run_last-event.new.meter.ticks_left, [], k.run, k.comes)

pub returns-in-Some : goal.returns-in-Some
returns-in-Some c = record {
  ends = λ begun.
      let r = c.loop-ending.invariant.reaches begun in
      let k = c.run_last-event.ensures.came c.loop-ending.memory r.0 in
      ends_so (world_of c.args.world.now) _ (frames_are c.loop-ending.stack c.loop-ending.words) c.loop-ending.memory
      c.loop-ending.meter.ticks_left r.0
      (frames_are c.run_last-event.new.stack c.run_last-event.new.words) c.run_last-event.new.meter.ticks_left c.run_last-event.result r.1 k
      (frames_are c.follow.new.stack c.follow.new.words) c.follow.new.memory c.follow.new.meter.ticks_left c.in-Some.ending
      (c.in-Some.ensures.goes r.0 k.run k.comes);
}

pub loop-ending-preserved : goal.loop-ending-preserved
loop-ending-preserved c =
    let first = c.run_last-event.ensures.came c.loop-ending.memory [] in
    record {
      runs =
          still_runs (world_of c.args.world.now) (frames_are c.follow.new.stack c.follow.new.words) c.follow.new.memory
          c.follow.new.meter.ticks_left
          first.run (c.in_default.ensures.goes [] first.run first.comes);
      depth = c.in_default.ensures.depth;
      reaches = λ begun.
          let r = c.loop-ending.invariant.reaches begun in
          let k = c.run_last-event.ensures.came c.loop-ending.memory r.0 in
          goes_further (world_of c.args.world.now) _ (frames_are c.loop-ending.stack c.loop-ending.words) c.loop-ending.memory
          c.loop-ending.meter.ticks_left r.0
          (frames_are c.run_last-event.new.stack c.run_last-event.new.words) c.run_last-event.new.meter.ticks_left
          c.run_last-event.result r.1 k
          (frames_are c.follow.new.stack c.follow.new.words) c.follow.new.memory c.follow.new.meter.ticks_left
          (c.in_default.ensures.goes r.0 k.run k.comes);
    }

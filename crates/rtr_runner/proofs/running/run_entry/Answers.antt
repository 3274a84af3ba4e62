use Rattle.std.proofs.Common.{[]}
use Rattle.type_world.specs.Loading.{world_of}
use Rattle.cil_interp.specs.Frames.{passed}
use Rattle.rtr_runner.proofs.Entry.{ends_at_once, ends_later, from_none, runs_on}
use Rattle.rtr_runner.proofs.running.run_entry.Goals as goal

pub run-requires : goal.run-requires
run-requires c = record {
  table = c.requires.table;
  runs = (runs_on (world_of c.args.world.now) c.enter.new.self [] c.enter.new.meter.ticks_left [] c.enter.result _ c.enter.ensures.entry
      c.in_default.not-End (c.enter.ensures.entered [] [])).runs;
  depth = c.enter.ensures.depth;
}

pub returns-in-End : goal.returns-in-End
returns-in-End c = record {
  ends = λ begun.
      let world = world_of c.args.world.now in
      from_none world c.args.frames.now c.requires.none c.args.entry
      (passed world c.args.entry c.args.words.now) c.args.memory.now c.args.ticks begun c.args.memory.now c.in-End.ending
      (ends_at_once world begun c.args.memory.now c.in-End.ending _ (c.in-End.ensures.entered c.args.memory.now begun));
}

pub returns-in_default : goal.returns-in_default
returns-in_default c = record {
  ends = λ begun.
      let world = world_of c.args.world.now in
      from_none world c.args.frames.now c.requires.none c.args.entry
      (passed world c.args.entry c.args.words.now) c.args.memory.now c.args.ticks begun c.run.new.memory c.run.result
      (ends_later world c.enter.new.self c.args.memory.now c.run.new.memory c.enter.new.meter.ticks_left begun c.run.result _
      (runs_on world c.enter.new.self c.args.memory.now c.enter.new.meter.ticks_left begun c.enter.result _ c.enter.ensures.entry
      c.in_default.not-End (c.enter.ensures.entered c.args.memory.now begun))
      (c.run.ensures.ends begun));
}

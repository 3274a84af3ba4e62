use Rattle.std.proofs.Common.{◌≡◌, List, length}
use Rattle.type_world.specs.Loading.{world_of}
use Rattle.cil_meaning.specs.State.{Begun, Going, no_objects}
use Rattle.cil_meaning.specs.Run.{Reaches}
use Rattle.cil_interp.specs.Frames.{Runs, frames_are, state_of}
use Rattle.cil_interp.proofs.following.run_all.Given as goal

abbrev pub invariant-loop-ending : goal.invariant-loop-ending
invariant-loop-ending l = record {
  runs : Runs (world_of l.world) l.stack;
  depth : l.meter.depth ≡ length l.stack;
  reaches : (begun : List Begun) → (now : List Begun)
      × Reaches no_objects (world_of l.world)
      (Going (state_of (world_of l.world) (frames_are l.fn.stack l.fn.words) l.fn.memory l.fn.meter.ticks_left begun))
      (Going (state_of (world_of l.world) (frames_are l.stack l.words) l.memory l.meter.ticks_left now));
}

abbrev pub decreases-loop-ending : goal.decreases-loop-ending
decreases-loop-ending l = l.meter.ticks_left

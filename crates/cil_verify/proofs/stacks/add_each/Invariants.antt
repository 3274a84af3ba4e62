use Rattle.std.proofs.Common.{◌≡◌, false, drop}
use Rattle.type_world.specs.Loading.{world_of}
use Rattle.cil_verify.specs.Places.{with_stacks}
use Rattle.cil_verify.proofs.stacks.add_each.Given as goal

abbrev pub invariant-loop-at : goal.invariant-loop-at
invariant-loop-at l = record {
  added :
      with_stacks (world_of l.world) l.stack (drop l.at-index l.to) l.stacks
      ≡ with_stacks (world_of l.world) l.stack l.to l.initial.stacks;
  same : l.changed ≡ false → l.stacks ≡ l.initial.stacks;
}

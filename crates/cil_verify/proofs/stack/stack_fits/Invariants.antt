use Rattle.std.proofs.Common.{◌≡◌, drop}
use Rattle.type_world.specs.Loading.{world_of}
use Rattle.cil_meaning.specs.Typing.{stack_fits}
use Rattle.cil_verify.proofs.stack.stack_fits.Given as goal

abbrev pub invariant-loop-i : goal.invariant-loop-i
invariant-loop-i l = stack_fits (world_of l.world) (drop l.i l.stack) (drop l.i l.other) ≡ stack_fits (world_of l.world) l.stack l.other

use Rattle.type_world.specs.Loading.{world_of}
use Rattle.type_world.proofs.Repetitions.{IsAbove}
use Rattle.type_world.proofs.types.Types.repeated.Given as goal

abbrev pub invariant-loop-steps : goal.invariant-loop-steps
invariant-loop-steps l = IsAbove (world_of l.self) l.remembered l.at

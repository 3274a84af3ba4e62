use Rattle.std.proofs.Common.{◌≡◌}
use Rattle.type_world.specs.Loading.{world_of}
use Rattle.rtr_runner.specs.Workers.{ran_in}
use Rattle.rtr_runner.proofs.InTurn.{in_turn}
use Rattle.rtr_runner.proofs.worker.run_all.Given as goal

abbrev pub invariant-loop-worker : goal.invariant-loop-worker
invariant-loop-worker l = l.workers ≡ in_turn (ran_in (world_of l.world)) l.worker-index l.initial.workers

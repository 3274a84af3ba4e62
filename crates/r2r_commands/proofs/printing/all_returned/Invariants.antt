use Rattle.std.proofs.Common.{◌≡◌, drop}
use Rattle.std.specs.List.{list_all}
use Rattle.r2r_commands.specs.Printing.{has_returned}
use Rattle.r2r_commands.proofs.printing.all_returned.Given as goal

abbrev pub invariant-loop-worker : goal.invariant-loop-worker
invariant-loop-worker l = list_all has_returned l.workers ≡ list_all has_returned (drop l.worker-index l.workers)

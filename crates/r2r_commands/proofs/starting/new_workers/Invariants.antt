use Rattle.std.proofs.Common.{◌≡◌, map, take, vec_items}
use Rattle.r2r_commands.specs.Loaded.{new_workers}
use Rattle.r2r_commands.proofs.starting.new_workers.Given as goal

abbrev pub invariant-loop-i : goal.invariant-loop-i
invariant-loop-i l = l.made.items ≡ new_workers l.entry l.ticks 0 (take l.i (map vec_items l.workers))

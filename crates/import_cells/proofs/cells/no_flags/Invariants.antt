use Rattle.std.proofs.Common.{◌≡◌, false, replicate}
use Rattle.import_cells.proofs.cells.no_flags.Given as goal

abbrev pub invariant-loop : goal.invariant-loop
invariant-loop l = l.flags.items ≡ replicate l.counter false

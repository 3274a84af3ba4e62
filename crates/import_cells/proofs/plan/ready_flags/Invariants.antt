use Rattle.std.proofs.Common.{◌≡◌, map, take}
use Rattle.import_cells.specs.Plan.{is_ready}
use Rattle.import_cells.proofs.plan.ready_flags.Given as goal

abbrev pub invariant-loop-cell : goal.invariant-loop-cell
invariant-loop-cell l = l.flags.items ≡ map is_ready (take l.cell-index l.plan)

use Rattle.std.proofs.Common.{◌≡◌, take}
use Rattle.import_cells.proofs.plan.copied_plan.Given as goal

abbrev pub invariant-loop-cell : goal.invariant-loop-cell
invariant-loop-cell l = l.copies.items ≡ take l.cell-index l.plan

use Rattle.std.proofs.Common.{◌≡◌, ◌∷◌, map, take}
use Rattle.import_cells.specs.Plan.{opening_in}
use Rattle.import_cells.proofs.plan.opening_words.Given as goal

abbrev pub invariant-loop-cell : goal.invariant-loop-cell
invariant-loop-cell l = l.words.items ≡ 0 ∷ map opening_in (take l.cell-index l.plan)

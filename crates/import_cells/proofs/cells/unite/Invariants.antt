use Rattle.import_cells.proofs.Flags.{Unites}
use Rattle.import_cells.proofs.cells.unite.Given as goal

abbrev pub invariant-loop-number : goal.invariant-loop-number
invariant-loop-number l = Unites l.initial.flags l.others l.number l.flags

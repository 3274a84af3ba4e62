use Rattle.metadata.proofs.Placed.{Placed}
use Rattle.metadata.proofs.layout.read_tables.Given as goal

abbrev pub invariant-loop-number : goal.invariant-loop-number
invariant-loop-number l = Placed l.places l.stream l.number l.at l.tables.items

use Rattle.metadata.proofs.Layouts.{Rowed}
use Rattle.metadata.proofs.layout.RowLayout.of_columns.Given as goal

abbrev pub invariant-loop-column : goal.invariant-loop-column
invariant-loop-column l = Rowed l.places l.columns l.table l.column-index l.list.items l.size

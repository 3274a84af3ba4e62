use Rattle.metadata.specs.Checks.{bad_column, fallen_column, first_in_row}
use Rattle.metadata.specs.Tables.{rows_of}
use Rattle.metadata.proofs.FirstOf.{Judging}
use Rattle.metadata.proofs.judge.Judge.check_table.Given as goal

abbrev pub invariant-loop-index : goal.invariant-loop-index
invariant-loop-index l =
    Judging (first_in_row (bad_column l.self.bytes.now l.self.places.now) l.table.number)
    (first_in_row (fallen_column l.self.bytes.now l.self.places.now) l.table.number) 1
    (rows_of l.self.places.now l.table.number) l.index l.fn.fallen l.fallen

use Rattle.std.proofs.Common.{length}
use Rattle.metadata.specs.Checks.{bad_column, fallen_column}
use Rattle.metadata.specs.Schema.{columns_of}
use Rattle.metadata.proofs.FirstOf.{Judging}
use Rattle.metadata.proofs.judge.Judge.check_row.Given as goal

abbrev pub invariant-loop-index : goal.invariant-loop-index
invariant-loop-index l =
    Judging (bad_column l.self.bytes.now l.self.places.now l.table.number l.row)
    (fallen_column l.self.bytes.now l.self.places.now l.table.number l.row) 0 (length (columns_of l.table.number))
    l.index l.fn.fallen l.fallen

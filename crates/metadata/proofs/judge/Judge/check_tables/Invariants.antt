use Rattle.std.proofs.Common.{None}
use Rattle.metadata.specs.Checks.{bad_column, fallen_column, first_in_table}
use Rattle.metadata.proofs.FirstOf.{Judging}
use Rattle.metadata.proofs.judge.Judge.check_tables.Given as goal

abbrev pub invariant-loop-table : goal.invariant-loop-table
invariant-loop-table l =
    Judging (first_in_table l.self.places.now (bad_column l.self.bytes.now l.self.places.now))
    (first_in_table l.self.places.now (fallen_column l.self.bytes.now l.self.places.now)) 0 64 l.table-index None l.fallen

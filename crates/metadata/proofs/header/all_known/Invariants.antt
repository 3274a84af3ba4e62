use Rattle.std.proofs.Common.{◌≡◌, ◌-◌}
use Rattle.std.specs.List.{list_all, range_with_len}
use Rattle.metadata.specs.Checks.{all_known, table_is_known}
use Rattle.metadata.proofs.header.all_known.Given as goal

abbrev pub invariant-loop-table : goal.invariant-loop-table
invariant-loop-table l = list_all (table_is_known l.valid) (range_with_len l.table (64 - l.table)) ≡ all_known l.valid

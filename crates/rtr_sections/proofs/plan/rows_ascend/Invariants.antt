use Rattle.std.proofs.Common.{◌+◌, drop}
use Rattle.std.specs.Prelude.{◌↔◌}
use Rattle.rtr_sections.specs.Plan.{RowsAscend}
use Rattle.rtr_sections.proofs.plan.rows_ascend.Given as goal

-- those that are left decide
abbrev pub invariant-loop-entry : goal.invariant-loop-entry
invariant-loop-entry l = RowsAscend (l.last + 1) (drop l.entry-index l.entries) ↔ RowsAscend 1 l.entries

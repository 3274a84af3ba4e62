use Rattle.std.proofs.Common.{◌+◌, drop, take}
use Rattle.native_format.specs.SparseLengths.{Measures}
use Rattle.rtr_sections.specs.Parts.{highest_row}
use Rattle.rtr_sections.specs.Plan.{RowsAscend}
use Rattle.rtr_sections.proofs.Lengths.{lengths}
use Rattle.rtr_sections.proofs.length.entries_len.Given as goal

-- the entries so far were added, and the rows of the others come next
abbrev pub invariant-loop-entry : goal.invariant-loop-entry
invariant-loop-entry l = record {
  measured : Measures l.length (highest_row l.entries) (lengths (take l.entry-index l.entries));
  rows : RowsAscend (l.length.next + 1) (drop l.entry-index l.entries);
}

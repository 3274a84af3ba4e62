use Rattle.std.proofs.Common.{◌≡◌, drop}
use Rattle.std.specs.Prelude.{max}
use Rattle.rtr_sections.specs.Parts.{highest_row}
use Rattle.rtr_sections.proofs.entry_writer.highest_row.Given as goal

-- the highest so far and that of what is left is the highest of all
abbrev pub invariant-loop-entry : goal.invariant-loop-entry
invariant-loop-entry l = max l.highest (highest_row (drop l.entry-index l.entries)) ≡ highest_row l.entries

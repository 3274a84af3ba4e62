use Rattle.std.proofs.Common.{◌≡◌, take, map}
use Rattle.rtr_sections.specs.Parts.{element_of_entry}
use Rattle.rtr_sections.proofs.entry_writer.elements.Given as goal

abbrev pub invariant-loop-entry : goal.invariant-loop-entry
invariant-loop-entry l = l.elements.items ≡ map element_of_entry (take l.entry-index l.entries)

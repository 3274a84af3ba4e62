use Rattle.std.proofs.Common.{◌≡◌, ◌++◌, drop}
use Rattle.rtr_sections.specs.Imports.{all_slots}
use Rattle.rtr_sections.proofs.slots.read_slots.Given as goal

-- what was read and the slots of the records that are left are all
abbrev pub invariant-loop-import : goal.invariant-loop-import
invariant-loop-import l = l.slots.items ++ all_slots l.file (drop l.import-index l.imports) ≡ all_slots l.file l.imports

use Rattle.std.proofs.Common.{◌≡◌, ◌-◌, ◌++◌}
use Rattle.rtr_sections.specs.Numbered.{present}
use Rattle.rtr_sections.specs.Imports.{slot_count, slot_of}
use Rattle.rtr_sections.proofs.slots.read_section.Given as goal

-- what was read and what is left are all of the slots
abbrev pub invariant-loop-i : goal.invariant-loop-i
invariant-loop-i l =
    let n = slot_count l.import in
    l.slots.items ++ present (slot_of l.file l.import) l.i (n - l.i) ≡ l.fn.slots.items ++ present (slot_of l.file l.import) 0 n

use Rattle.std.proofs.Common.{◌≡◌, ◌+◌, ◌*◌, ◌-◌, ◌++◌}
use Rattle.rtr_bytes.specs.Checks.{records}
use Rattle.rtr_sections.specs.Header.{rtr_section_at}
use Rattle.rtr_sections.proofs.header.read_sections.Given as goal

-- what was read and what is left are all of the records
abbrev pub invariant-loop-i : goal.invariant-loop-i
invariant-loop-i l =
    l.sections.items ++ records (rtr_section_at l.file) (l.at + 12 * l.i) 12 (l.count - l.i) ≡ records
    (rtr_section_at l.file) l.at 12 l.count

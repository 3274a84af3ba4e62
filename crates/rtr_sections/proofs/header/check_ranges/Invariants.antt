use Rattle.std.proofs.Common.{◌≡◌, ◌+◌, ◌*◌, ◌≤◌, drop}
use Rattle.rtr_sections.specs.Listed.{first_failing}
use Rattle.rtr_sections.specs.Header.{section_is_placed}
use Rattle.rtr_sections.proofs.header.check_ranges.Given as goal

abbrev pub invariant-loop-section : goal.invariant-loop-section
invariant-loop-section l = record {
  -- the first that fails is among those that are left
  checked : first_failing (section_is_placed l.file) l.place 12 (drop l.section-index l.sections) ≡ first_failing
      (section_is_placed l.file) l.at 12 l.sections;
  here : l.place ≡ l.at + 12 * l.section-index;
}

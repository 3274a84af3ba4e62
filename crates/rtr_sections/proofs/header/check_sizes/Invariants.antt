use Rattle.std.proofs.Common.{◌≡◌, ◌+◌, ◌*◌, ◌≤◌, drop}
use Rattle.rtr_sections.specs.Listed.{first_failing}
use Rattle.rtr_sections.specs.Header.{has_whole_imports}
use Rattle.rtr_sections.proofs.header.check_sizes.Given as goal

abbrev pub invariant-loop-section : goal.invariant-loop-section
invariant-loop-section l = record {
  -- the first that fails is among those that are left
  checked : first_failing has_whole_imports l.place 12
      (drop l.section-index l.sections) ≡ first_failing has_whole_imports l.at 12 l.sections;
  here : l.place ≡ l.at + 12 * l.section-index;
}

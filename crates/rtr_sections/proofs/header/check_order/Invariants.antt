use Rattle.std.proofs.Common.{◌≡◌, ◌+◌, ◌*◌, ◌≤◌, ◌<◌, ◌^◌, drop}
use Rattle.rtr_sections.specs.Listed.{first_overlap}
use Rattle.rtr_sections.proofs.header.check_order.Given as goal

abbrev pub invariant-loop-section : goal.invariant-loop-section
invariant-loop-section l = record {
  -- the first that is out of order is among those that are left
  checked : first_overlap (λ s. s.kind) (λ s. s.kind + 1) l.least l.place 12 (drop l.section-index l.sections) ≡ first_overlap
      (λ s. s.kind) (λ s. s.kind + 1) 0 l.at 12 l.sections;
  here : l.place ≡ l.at + 12 * l.section-index;
}

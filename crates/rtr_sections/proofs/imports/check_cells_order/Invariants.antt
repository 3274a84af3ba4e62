use Rattle.std.proofs.Common.{◌≡◌, ◌+◌, ◌*◌, ◌≤◌, ◌<◌, ◌^◌, drop}
use Rattle.rtr_sections.specs.Listed.{first_overlap}
use Rattle.rtr_sections.proofs.imports.check_cells_order.Given as goal

abbrev pub invariant-loop-import : goal.invariant-loop-import
invariant-loop-import l = record {
  -- the first that is out of order is among those that are left
  checked : first_overlap (λ i. i.rva) (λ i. i.rva + i.size) l.end l.place 20 (drop l.import-index l.imports) ≡ first_overlap
      (λ i. i.rva) (λ i. i.rva + i.size) 0 l.at 20 l.imports;
  here : l.place ≡ l.at + 20 * l.import-index;
}

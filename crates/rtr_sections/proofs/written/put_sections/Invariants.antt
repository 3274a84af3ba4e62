use Rattle.std.proofs.Common.{◌≡◌, ◌++◌, ◌<◌, ◌^◌, drop, take, map, All}
use Rattle.std.specs.List.{flat_map}
use Rattle.rtr_sections.specs.Parts.{section_bytes}
use Rattle.rtr_sections.specs.PartPlaces.{ranged}
use Rattle.rtr_sections.proofs.written.put_sections.Given as goal

abbrev pub invariant-loop-section : goal.invariant-loop-section
invariant-loop-section l = record {
  -- what was put and what is left are all
  put : l.out.items ++ flat_map section_bytes (map (ranged l.places l.entries)
      (drop l.section-index l.sections)) ≡ l.initial.out.items ++ flat_map section_bytes (map (ranged l.places l.entries) l.sections);
  ranges : All (λ s. (s.rva < 2 ^ 32) × (s.size < 2 ^ 32)) (take l.section-index l.sections);
}

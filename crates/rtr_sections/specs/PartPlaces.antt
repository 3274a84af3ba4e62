-- The RVAs of the parts of a written part, and the section records that name their ranges.
use Rattle.std.specs.Prelude.{◌≡◌, ℕ, ◌+◌, ◌-◌, ◌==◌, if◌then◌else◌}
use Rattle.rtr_bytes.specs.declared.fault.Span.{Span}
use Rattle.rtr_sections.specs.declared.header.RtrSection.{RtrSection}
use Rattle.rtr_sections.specs.declared.written.PartPlaces.{PartPlaces}
use Rattle.rtr_sections.specs.Parts.{Parts, section}

-- those of the parts up to the signatures, of a part at an RVA
pub record ArePlaces (places : PartPlaces) (at : ℕ) (parts : Parts) : Type 0 where
  pub header : places.header ≡ at + parts.header
  pub imports : places.imports ≡ at + parts.imports
  pub arrays : places.arrays ≡ at + parts.arrays
  pub functions : places.functions ≡ at + parts.functions
  pub unwinds : places.unwinds ≡ at + parts.unwinds
  pub identifier : places.identifier ≡ at + parts.identifier
  pub signatures : places.signatures ≡ at + parts.signatures

-- a section record with the range that the part has for its type; of another type it keeps its own
abbrev pub ranged : PartPlaces → Span → RtrSection → RtrSection
ranged places entries s =
    if s.kind == 100 then section s.kind places.identifier 14
    else if s.kind == 101 then section s.kind places.imports (places.arrays - places.imports)
    else if s.kind == 102 then section s.kind places.functions (places.unwinds - places.functions)
    else if s.kind == 103 then section s.kind entries.start entries.len
    else s

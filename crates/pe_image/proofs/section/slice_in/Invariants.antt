use Rattle.std.proofs.Common.{◌≡◌, drop}
use Rattle.std.specs.Prelude.{find}
use Rattle.pe_image.specs.Sections.{has_range}
use Rattle.pe_image.proofs.section.slice_in.Given as goal

-- the first section that holds the range is among those that are left
abbrev pub invariant-loop-section : goal.invariant-loop-section
invariant-loop-section l =
    find (has_range l.rva l.len) (drop l.section-index l.sections) ≡ find (has_range l.rva l.len) l.sections

use Rattle.std.proofs.Common.{◌≡◌, ◌==◌, drop}
use Rattle.std.specs.Prelude.{find}
use Rattle.rtr_sections.proofs.header.section_of_kind.Given as goal

-- the first section of the type is among those that are left
abbrev pub invariant-loop-section : goal.invariant-loop-section
invariant-loop-section l =
    find (λ s. s.kind == l.kind) (drop l.section-index l.sections) ≡ find (λ s. s.kind == l.kind) l.sections

use Rattle.std.proofs.Common.{◌≡◌, ◌++◌, take}
use Rattle.std.specs.List.{flat_map}
use Rattle.r2rdump.specs.Text.{rtr_section_line}
use Rattle.r2rdump.proofs.image.rtr_section_lines.Given as goal

abbrev pub invariant-loop-section : goal.invariant-loop-section
invariant-loop-section l = l.text ≡ l.fn.text ++ flat_map rtr_section_line (take l.section-index l.sections)

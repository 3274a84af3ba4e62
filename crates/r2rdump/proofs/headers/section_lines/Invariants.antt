use Rattle.std.proofs.Common.{◌≡◌, ◌++◌, take}
use Rattle.std.specs.List.{flat_map}
use Rattle.r2rdump.specs.Text.{section_line}
use Rattle.r2rdump.proofs.headers.section_lines.Given as goal

abbrev pub invariant-loop-section : goal.invariant-loop-section
invariant-loop-section l = l.text ≡ l.fn.text ++ flat_map section_line (take l.section-index l.sections)

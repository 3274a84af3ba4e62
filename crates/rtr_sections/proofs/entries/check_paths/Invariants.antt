use Rattle.std.proofs.Common.{◌≡◌, ◌-◌}
use Rattle.rtr_sections.specs.Numbered.{first_bad}
use Rattle.rtr_sections.specs.Entries.{cut_place}
use Rattle.rtr_sections.proofs.entries.check_paths.Given as goal

-- the first index that is cut is among those that are left
abbrev pub invariant-loop-index : goal.invariant-loop-index
invariant-loop-index l =
    first_bad (cut_place l.part.start l.array) l.index (l.array.count - l.index) ≡ first_bad
    (cut_place l.part.start l.array) 0 l.array.count

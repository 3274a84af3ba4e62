use Rattle.std.proofs.Common.{◌≡◌, ◌++◌, drop, map}
use Rattle.std.specs.List.{flat_map}
use Rattle.pe_image.specs.Raw.{padded, raw_of}
use Rattle.pe_image.proofs.written.put_raw.Given as goal

-- what was put and what is left are all
abbrev pub invariant-loop-section : goal.invariant-loop-section
invariant-loop-section l =
    l.out.items ++ flat_map padded (map (raw_of l.bytes) (drop l.section-index l.sections)) ≡ l.initial.out.items ++ flat_map padded
    (map (raw_of l.bytes) l.sections)

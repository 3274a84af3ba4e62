use Rattle.std.proofs.Common.{◌≡◌, ◌++◌, take}
use Rattle.std.specs.List.{flat_map}
use Rattle.r2rdump.specs.Text.{entry_line}
use Rattle.r2rdump.proofs.image.entry_lines.Given as goal

abbrev pub invariant-loop-entry : goal.invariant-loop-entry
invariant-loop-entry l = l.text ≡ l.fn.text ++ flat_map (entry_line l.functions) (take l.entry-index l.entries)

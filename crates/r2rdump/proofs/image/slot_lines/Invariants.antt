use Rattle.std.proofs.Common.{◌≡◌, ◌++◌, drop}
use Rattle.r2rdump.specs.Text.{numbered, slot_line}
use Rattle.r2rdump.proofs.image.slot_lines.Given as goal

-- what was printed and the lines of the slots that are left are all
abbrev pub invariant-loop-number : goal.invariant-loop-number
invariant-loop-number l = l.text ++ numbered slot_line l.number (drop l.number l.slots) ≡ l.fn.text ++ numbered slot_line 0 l.slots

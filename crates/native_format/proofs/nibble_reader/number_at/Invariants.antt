use Rattle.std.proofs.Common.{◌≡◌, ◌-◌, ◌*◌, ◌^◌, ◌<◌, ◌≤◌, drop, length}
use Rattle.native_format.specs.Nibbles.{nibbles, numbers_after}
use Rattle.native_format.specs.NibbleSteps.{nibble_after, numbers_from}
use Rattle.native_format.proofs.nibble_reader.number_at.Given as goal

-- the nibbles so far are upper bits of the number that begins at the start
abbrev pub invariant-loop-at : goal.invariant-loop-at
invariant-loop-at l = record {
  further : l.start ≤ l.at;
  narrow : l.value < 2 ^ 32;
  numbers_are : numbers_after l.value (drop l.at (nibbles l.bytes)) ≡ numbers_from l.bytes l.start;
  same_end : nibble_after 1 l.bytes l.at ≡ nibble_after 1 l.bytes l.start;
}

abbrev pub decreases-loop-at : goal.decreases-loop-at
decreases-loop-at l = 2 * length l.bytes - l.at

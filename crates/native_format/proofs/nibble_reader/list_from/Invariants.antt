use Rattle.std.proofs.Common.{◌≡◌, length}
use Rattle.native_format.specs.Nibbles.{list_at}
use Rattle.native_format.specs.NibbleSteps.{left}
use Rattle.native_format.proofs.SlotLaws.{with_front}
use Rattle.native_format.proofs.nibble_reader.list_from.Given as goal

-- what was read, with what is left
abbrev pub invariant-loop-list : goal.invariant-loop-list
invariant-loop-list l = with_front l.list.items (left l.unread) ≡ list_at l.bytes l.at

abbrev pub decreases-loop-list : goal.decreases-loop-list
decreases-loop-list l = length l.unread.stream

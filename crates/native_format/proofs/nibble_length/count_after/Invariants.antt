use Rattle.std.proofs.Common.{◌≡◌, ◌≤◌, ◌+◌, ◌*◌, drop, length}
use Rattle.std.specs.List.{flat_map}
use Rattle.native_format.specs.Nibbles.{AscendFrom, groups, numbers_after_slot}
use Rattle.native_format.proofs.nibble_length.count_after.Given as goal

abbrev pub invariant-loop-slot : goal.invariant-loop-slot
invariant-loop-slot l = record {
  ascend : AscendFrom l.last (drop l.slot-index l.others);
  counted : l.count + length (flat_map groups (numbers_after_slot l.last (drop l.slot-index l.others)))
      ≡ length (flat_map groups (numbers_after_slot l.fn.first l.others));
  few : l.count ≤ 33 * l.slot-index;
}

use Rattle.std.proofs.Common.{◌≡◌, ◌++◌, drop}
use Rattle.std.specs.List.{flat_map}
use Rattle.native_format.specs.Nibbles.{AscendFrom, groups, numbers_after_slot}
use Rattle.native_format.proofs.nibble_writer.put_others.Given as goal

abbrev pub invariant-loop-slot : goal.invariant-loop-slot
invariant-loop-slot l = record {
  ascend : AscendFrom l.last (drop l.slot-index l.others);
  put : l.out ++ flat_map groups (numbers_after_slot l.last (drop l.slot-index l.others))
      ≡ l.fn.out ++ flat_map groups (numbers_after_slot l.fn.first l.others);
}

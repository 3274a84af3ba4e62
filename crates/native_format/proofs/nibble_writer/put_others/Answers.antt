use Rattle.std.proofs.Common.{◌++◌, get_or, refl}
use Rattle.std.specs.List.{flat_map}
use Rattle.native_format.specs.Nibbles.{at_slot, groups, numbers_after_slot}
use Rattle.native_format.proofs.SlotLaws.{in_order, put_one, put_last}
use Rattle.native_format.proofs.nibble_writer.put_others.Goals as goal

pub put_next-requires : goal.put_next-requires
put_next-requires c =
    (in_order c.loop-slot.last c.args.others.now c.loop-slot.slot-index (get_or c.args.others.now c.loop-slot.slot-index (at_slot 0 0))
    (at_slot 0 0) c.loop-slot-test.true refl c.loop-slot.invariant.ascend).0

pub loop-slot-preserved : goal.loop-slot-preserved
loop-slot-preserved c =
    let slot = get_or c.args.others.now c.loop-slot.slot-index (at_slot 0 0) in
    let all = c.args.out.now ++ flat_map groups (numbers_after_slot c.args.first c.args.others.now) in
    record {
      ascend = (in_order c.loop-slot.last c.args.others.now c.loop-slot.slot-index slot (at_slot 0 0) c.loop-slot-test.true refl
          c.loop-slot.invariant.ascend).1;
      put = put_one c.loop-slot.out c.put_next.new.out all c.loop-slot.last c.args.others.now c.loop-slot.slot-index slot (at_slot 0 0)
          c.loop-slot-test.true refl c.in_ok-put_next.ensures c.loop-slot.invariant.put;
    }

pub returns : goal.returns
returns c =
    let all = c.args.out.now ++ flat_map groups (numbers_after_slot c.args.first c.args.others.now) in
    put_last c.loop-slot.out c.put_number.new.self c.put_number-2.new.self all c.loop-slot.last c.args.others.now c.loop-slot.slot-index
    c.loop-slot-test.false c.in_ok-put_number.ensures c.in_ok-put_number-2.ensures c.loop-slot.invariant.put

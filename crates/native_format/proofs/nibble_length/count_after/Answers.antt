use Rattle.std.proofs.Common.{get_or, refl, arith}
use Rattle.native_format.specs.Nibbles.{at_slot}
use Rattle.native_format.proofs.SlotLaws.{in_order, count_one, count_last}
use Rattle.native_format.proofs.nibble_length.count_after.Goals as goal

pub count_between-requires : goal.count_between-requires
count_between-requires c =
    (in_order c.loop-slot.last c.args.others.now c.loop-slot.slot-index (get_or c.args.others.now c.loop-slot.slot-index (at_slot 0 0))
    (at_slot 0 0) c.loop-slot-test.true refl c.loop-slot.invariant.ascend).0

pub loop-slot-preserved : goal.loop-slot-preserved
loop-slot-preserved c =
    let slot = get_or c.args.others.now c.loop-slot.slot-index (at_slot 0 0) in
    let step = count_one c.loop-slot.last c.args.others.now c.loop-slot.slot-index slot (at_slot 0 0) c.loop-slot-test.true refl in
    record {
      ascend = (in_order c.loop-slot.last c.args.others.now c.loop-slot.slot-index slot (at_slot 0 0) c.loop-slot-test.true refl
          c.loop-slot.invariant.ascend).1;
      counted = omega (arith, step, c.loop-slot.invariant.counted, c.count_between.ensures.count);
      few = omega (arith, c.loop-slot.invariant.few, c.count_between.ensures.few);
    }

pub returns-clause-count : goal.returns-clause-count
returns-clause-count c =
    omega
    (arith, c.loop-slot.invariant.counted, count_last c.loop-slot.last c.args.others.now c.loop-slot.slot-index c.loop-slot-test.false)

use Rattle.std.proofs.Common.{◌≡◌, ◌∙◌, ◌+◌, ◌^◌, subst, arith}
use Rattle.std.proofs.lemmas.List.{length-set}
use Rattle.native_format.specs.SparseBytes.{AreElements}
use Rattle.native_format.specs.SparseSteps.{SameFrom}
use Rattle.native_format.proofs.SparseWritten.{all_slots, set_slot, same_on}
use Rattle.native_format.proofs.sparse_writer.block_slots.Goals as goal

pub loop-i-preserved : goal.loop-i-preserved
loop-i-preserved c =
    let next : c.args.first + c.loop-i.i + 1 ≡ c.args.first + (c.loop-i.i + 1) = omega arith in
    record {
      wide = length-set c.loop-i.slots c.loop-i.i c.next_slot.result.0 ∙ c.loop-i.invariant.wide;
      rest = subst (λ n. AreElements n (2 ^ 32) c.next_slot.result.1.now) next c.next_slot.ensures.elements;
      others = subst (λ n. SameFrom n c.args.elements.now c.next_slot.result.1.now) next
          (same_on c.args.elements.now c.loop-i.rest.now c.next_slot.result.1.now (c.args.first + c.loop-i.i)
          (c.args.first + c.loop-i.i + 1) (omega arith) c.loop-i.invariant.others c.next_slot.ensures.others);
      slots = set_slot c.loop-i.slots c.args.elements.now c.loop-i.rest.now c.args.first c.loop-i.i c.next_slot.result.0
          (omega (arith, c.loop-i.invariant.wide)) c.next_slot.ensures.slot c.loop-i.invariant.others c.loop-i.invariant.slots;
    }

pub returns-clause-slots : goal.returns-clause-slots
returns-clause-slots c =
    all_slots c.loop-i.slots c.args.elements.now c.args.first 16 c.loop-i.invariant.wide (λ k lt. c.loop-i.invariant.slots k (omega arith))

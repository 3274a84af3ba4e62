use Rattle.std.proofs.Common.{◌≡◌, ◌+◌, ◌*◌, ◌^◌, ◌++◌, length, ap, refl, subst, ◌∙◌, arith}
use Rattle.native_format.specs.SparseBytes.{AreElements}
use Rattle.native_format.specs.SparseSteps.{SameFrom, contents}
use Rattle.native_format.proofs.SparseWritten.{none_put, add_entry, add_block, slots_small, body_small, block_from, same_on}
use Rattle.native_format.proofs.sparse_writer.lay_out.Goals as goal

pub loop-k-init : goal.loop-k-init
loop-k-init c = record {
  rest = c.requires.elements;
  others = λ index le. refl;
  index = none_put (4 * c.args.count) c.new-index.result.items c.new-index.ensures.items;
  body = c.new-body.ensures.items;
}

pub overflow_cast-place : goal.overflow_cast-place
overflow_cast-place c =
    let small = body_small c.args.elements.now c.args.count c.loop-k.k (omega arith) c.requires.small in
    omega (arith, small, ap length c.loop-k.invariant.body)

pub overflow_add-place : goal.overflow_add-place
overflow_add-place c =
    let small = body_small c.args.elements.now c.args.count c.loop-k.k (omega arith) c.requires.small in
    omega (arith, small, ap length c.loop-k.invariant.body)

pub put_block-requires-clause-small : goal.put_block-requires-clause-small
put_block-requires-clause-small c =
    slots_small c.args.elements.now c.loop-k.rest.now c.args.count c.loop-k.k (contents c.block_slots.result.0) c.loop-k-test.true
    c.requires.small c.block_slots.ensures.slots c.loop-k.invariant.others

pub loop-k-preserved : goal.loop-k-preserved
loop-k-preserved c =
    let next : 16 * c.loop-k.k + 16 ≡ 16 * (c.loop-k.k + 1) = omega arith in
    let block_is =
    block_from c.args.elements.now c.loop-k.rest.now c.loop-k.k (contents c.block_slots.result.0) c.block_slots.ensures.slots
    c.loop-k.invariant.others in
    record {
      rest = subst (λ n. AreElements n (2 ^ 32) c.block_slots.result.1.now) next c.block_slots.ensures.elements;
      others = subst (λ n. SameFrom n c.args.elements.now c.block_slots.result.1.now) next
          (same_on c.args.elements.now c.loop-k.rest.now c.block_slots.result.1.now (16 * c.loop-k.k) (16 * c.loop-k.k + 16) (omega arith)
          c.loop-k.invariant.others c.block_slots.ensures.others);
      index = add_entry c.args.elements.now (4 * c.args.count) c.loop-k.k (4 * c.args.count + c.len.result) c.loop-k.index.items
          c.extend_from_slice.new.self.items c.loop-k.body.items (omega arith) c.loop-k.invariant.body
          (c.in_ok-extend_from_slice.ensures.items ∙ ap (λ bytes. c.loop-k.index.items ++ bytes) c.to_le_bytes.ensures)
          c.loop-k.invariant.index;
      body = add_block c.args.elements.now c.loop-k.k c.loop-k.body.items c.put_block.new.out.items
          (c.in_ok-put_block.ensures ∙ ap (λ bytes. c.loop-k.body.items ++ bytes) block_is) c.loop-k.invariant.body;
    }

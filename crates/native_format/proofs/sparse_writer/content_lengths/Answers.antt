use Rattle.std.proofs.Common.{◌∙◌, arith}
use Rattle.std.proofs.lemmas.List.{length-set}
use Rattle.native_format.proofs.WriterParts.{all_lengths, length_put}
use Rattle.native_format.proofs.sparse_writer.content_lengths.Goals as goal

pub loop-i-preserved : goal.loop-i-preserved
loop-i-preserved c = record {
  wide = length-set c.loop-i.lengths c.loop-i.i c.content_len.result ∙ c.loop-i.invariant.wide;
  read = length_put c.loop-i.lengths c.args.slots.now c.loop-i.i c.content_len.result (omega (arith, c.loop-i.invariant.wide))
      c.content_len.ensures c.loop-i.invariant.read;
}

pub returns : goal.returns
returns c =
    all_lengths c.loop-i.lengths c.args.slots.now 16 c.loop-i.invariant.wide c.requires
    (λ k lt. c.loop-i.invariant.read k (omega arith))

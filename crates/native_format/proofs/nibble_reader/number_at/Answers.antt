use Rattle.std.proofs.Common.{◌∙◌, sym, arith}
use Rattle.native_format.specs.NibbleSteps.{numbers_from}
use Rattle.native_format.proofs.NibbleLaws.{too_wide, goes_on, ends, cut, len_more}
use Rattle.native_format.proofs.nibble_reader.number_at.Goals as goal

pub returns-then-value-gt4294967295 : goal.returns-then-value-gt4294967295
returns-then-value-gt4294967295 c =
    too_wide c.args.bytes.now c.loop-at.value c.loop-at.at c.nibble_at-nibble.result
    (numbers_from c.args.bytes.now c.args.start) c.nibble_at-nibble.ensures.value c.nibble_at-nibble.ensures.narrow (omega arith)
    (omega arith) c.loop-at.invariant.numbers_are

pub returns-then-nibble-lt8 : goal.returns-then-nibble-lt8
returns-then-nibble-lt8 c =
    ends c.args.bytes.now c.loop-at.value c.loop-at.at c.nibble_at-nibble.result c.args.start c.nibble_at-nibble.ensures.value
    (omega arith) (omega arith) (omega arith) (omega arith) c.loop-at.invariant.numbers_are c.loop-at.invariant.same_end

pub loop-at-preserved : goal.loop-at-preserved
loop-at-preserved c = record {
  further = omega arith;
  narrow = omega arith;
  numbers_are =
      goes_on c.args.bytes.now c.loop-at.value c.loop-at.at c.nibble_at-nibble.result
      (numbers_from c.args.bytes.now c.args.start) c.nibble_at-nibble.ensures.value c.nibble_at-nibble.ensures.narrow (omega arith)
      (omega arith) c.loop-at.invariant.numbers_are;
  same_end =
      sym (len_more c.args.bytes.now c.loop-at.at c.nibble_at-nibble.result 0 c.nibble_at-nibble.ensures.value (omega arith) (omega arith))
      ∙ c.loop-at.invariant.same_end;
}

pub returns : goal.returns
returns c =
    cut c.args.bytes.now c.loop-at.value c.loop-at.at (numbers_from c.args.bytes.now c.args.start)
    (omega arith) c.loop-at.invariant.numbers_are

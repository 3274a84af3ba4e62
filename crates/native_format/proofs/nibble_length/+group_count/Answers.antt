use Rattle.std.proofs.Common.{arith, sym}
use Rattle.native_format.proofs.NibbleLaws.{group_one, group_more, groups_few}
use Rattle.native_format.proofs.nibble_length.+group_count.Goals as goal

pub returns-then-value-lt8-clause-count : goal.returns-then-value-lt8-clause-count
returns-then-value-lt8-clause-count t c = sym (group_one c.args.value c.if-value-lt8.true)

pub returns-else-value-lt8-clause-count : goal.returns-else-value-lt8-clause-count
returns-else-value-lt8-clause-count t c = omega (arith, c.group_count.ensures.count, group_more c.args.value c.if-value-lt8.false)

pub returns-else-value-lt8-clause-few : goal.returns-else-value-lt8-clause-few
returns-else-value-lt8-clause-few t c =
    omega (arith, c.group_count.ensures.count, group_more c.args.value c.if-value-lt8.false, groups_few c.args.value c.ranges.value.fits)

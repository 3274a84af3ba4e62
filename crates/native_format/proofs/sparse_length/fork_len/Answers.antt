use Rattle.std.proofs.Common.{sym}
use Rattle.native_format.proofs.SparseLengthLaws.{fork_one, fork_two, fork_three, fork_four, fork_five}
use Rattle.native_format.proofs.sparse_length.fork_len.Goals as goal

pub returns-then-low : goal.returns-then-low
returns-then-low c = sym (fork_one c.args.low c.if-low.true)

pub returns-then-low-2 : goal.returns-then-low-2
returns-then-low-2 c = sym (fork_two c.args.low c.if-low.false c.if-low-2.true)

pub returns-then-low-3 : goal.returns-then-low-3
returns-then-low-3 c = sym (fork_three c.args.low c.if-low-2.false c.if-low-3.true)

pub returns-then-low-4 : goal.returns-then-low-4
returns-then-low-4 c = sym (fork_four c.args.low c.if-low-3.false c.if-low-4.true)

pub returns-else-low-4 : goal.returns-else-low-4
returns-else-low-4 c = sym (fork_five c.args.low c.if-low-4.false)

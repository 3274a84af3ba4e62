use Rattle.std.proofs.Common.{arith}
use Rattle.type_world.proofs.BuiltIns.{writes_int64, writes_int32, writes_line, writes_string, writes_uint32, writes_uint64}
use Rattle.type_world.proofs.shapes.written.Goals as goal

pub returns-then-row-lt3 : goal.returns-then-row-lt3
returns-then-row-lt3 c = let l = c.requires.low in let m = c.if-row-lt3.true in writes_line c.args.row (omega (arith, l, m))

pub returns-then-row-lt4 : goal.returns-then-row-lt4
returns-then-row-lt4 c = let l = c.if-row-lt3.false in let m = c.if-row-lt4.true in writes_int32 c.args.row (omega (arith, l, m))

pub returns-then-row-lt5 : goal.returns-then-row-lt5
returns-then-row-lt5 c = let l = c.if-row-lt4.false in let m = c.if-row-lt5.true in writes_uint32 c.args.row (omega (arith, l, m))

pub returns-then-row-lt6 : goal.returns-then-row-lt6
returns-then-row-lt6 c = let l = c.if-row-lt5.false in let m = c.if-row-lt6.true in writes_int64 c.args.row (omega (arith, l, m))

pub returns-then-row-lt7 : goal.returns-then-row-lt7
returns-then-row-lt7 c = let l = c.if-row-lt6.false in let m = c.if-row-lt7.true in writes_uint64 c.args.row (omega (arith, l, m))

pub returns-else-row-lt7 : goal.returns-else-row-lt7
returns-else-row-lt7 c = let l = c.if-row-lt7.false in let m = c.requires.high in writes_string c.args.row (omega (arith, l, m))

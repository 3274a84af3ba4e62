use Rattle.std.proofs.Common.{arith}
use Rattle.type_world.proofs.Listed.{first_built_in, last_built_in, no_built_in, past_built_in, written_built_in}
use Rattle.type_world.proofs.declared.built_in_class.Goals as goal

pub returns-then-row-lt1 : goal.returns-then-row-lt1
returns-then-row-lt1 c = no_built_in c.args.row c.if-row-lt1.true

pub returns-then-row-lt2 : goal.returns-then-row-lt2
returns-then-row-lt2 c = let l = c.if-row-lt1.false in let m = c.if-row-lt2.true in first_built_in c.args.row (omega (arith, l, m))

pub returns-then-row-lt8 : goal.returns-then-row-lt8
returns-then-row-lt8 c =
    let l = c.if-row-lt2.false in let m = c.if-row-lt8.true in written_built_in c.args.row (omega (arith, l)) (omega (arith, m))

pub returns-then-row-lt9 : goal.returns-then-row-lt9
returns-then-row-lt9 c = let l = c.if-row-lt8.false in let m = c.if-row-lt9.true in last_built_in c.args.row (omega (arith, l, m))

pub returns-else-row-lt9 : goal.returns-else-row-lt9
returns-else-row-lt9 c = let l = c.if-row-lt9.false in past_built_in c.args.row (omega (arith, l))

use Rattle.std.proofs.Common.{refl, arith}
use Rattle.type_world.specs.Members.{built_in}
use Rattle.type_world.proofs.MemberRefs.{nothing_built_in, past_built_in, written_is}
use Rattle.type_world.proofs.built_in.built_in.Goals as goal

pub returns-then-row-lt1 : goal.returns-then-row-lt1
returns-then-row-lt1 c = nothing_built_in c.args.row c.if-row-lt1.true

pub returns-then-row-lt2 : goal.returns-then-row-lt2
unfolding built_in
returns-then-row-lt2 c =
    let some = c.if-row-lt1.false in
    let few = c.if-row-lt2.true in
    written_is c.args.row 1 _ (omega (arith, some, few)) refl

pub returns-then-row-lt8 : goal.returns-then-row-lt8
returns-then-row-lt8 c = c.written.ensures

pub returns-then-row-lt9 : goal.returns-then-row-lt9
unfolding built_in
returns-then-row-lt9 c =
    let some = c.if-row-lt8.false in
    let few = c.if-row-lt9.true in
    written_is c.args.row 8 _ (omega (arith, some, few)) refl

pub returns-else-row-lt9 : goal.returns-else-row-lt9
returns-else-row-lt9 c = let past = c.if-row-lt9.false in past_built_in c.args.row (omega (arith, past))

use Rattle.std.proofs.Common.{refl, arith}
use Rattle.type_world.specs.Members.{built_in}
use Rattle.type_world.proofs.MemberRefs.{written_is}
use Rattle.type_world.proofs.built_in.written.Goals as goal

pub returns-then-row-eq2 : goal.returns-then-row-eq2
unfolding built_in
returns-then-row-eq2 c = written_is c.args.row 2 _ c.if-row-eq2.true refl

pub returns-then-row-eq3 : goal.returns-then-row-eq3
unfolding built_in
returns-then-row-eq3 c = written_is c.args.row 3 _ c.if-row-eq3.true refl

pub returns-then-row-eq4 : goal.returns-then-row-eq4
unfolding built_in
returns-then-row-eq4 c = written_is c.args.row 4 _ c.if-row-eq4.true refl

pub returns-then-row-eq5 : goal.returns-then-row-eq5
unfolding built_in
returns-then-row-eq5 c = written_is c.args.row 5 _ c.if-row-eq5.true refl

pub returns-then-row-eq6 : goal.returns-then-row-eq6
unfolding built_in
returns-then-row-eq6 c = written_is c.args.row 6 _ c.if-row-eq6.true refl

pub returns-else-row-eq6 : goal.returns-else-row-eq6
unfolding built_in
returns-else-row-eq6 c =
    let last = c.requires.last in
    let first = c.requires.first in
    let two = c.if-row-eq2.false in
    let three = c.if-row-eq3.false in
    let four = c.if-row-eq4.false in
    let five = c.if-row-eq5.false in
    let six = c.if-row-eq6.false in
    written_is c.args.row 7 _ (omega (arith, last, first, two, three, four, five, six)) refl

use Rattle.std.proofs.Common.{arith}
use Rattle.type_world.proofs.ByPlace.{array_at, console_at, no_fixed_type, object_at, text_at_one}
use Rattle.type_world.proofs.placed.fixed_type.Goals as goal

pub returns-then-number-eq0 : goal.returns-then-number-eq0
returns-then-number-eq0 c = object_at c.args.number c.if-number-eq0.true

pub returns-then-number-eq1 : goal.returns-then-number-eq1
returns-then-number-eq1 c = text_at_one c.args.number c.if-number-eq1.true

pub returns-then-number-lt12 : goal.returns-then-number-lt12
returns-then-number-lt12 c =
    let zero = c.if-number-eq0.false in
    let one = c.if-number-eq1.false in
    array_at c.args.number _ (omega (arith, zero, one)) c.if-number-lt12.true

pub returns-then-number-eq12 : goal.returns-then-number-eq12
returns-then-number-eq12 c = console_at c.args.number c.if-number-eq12.true

pub returns-else-number-eq12 : goal.returns-else-number-eq12
returns-else-number-eq12 c =
    let past = c.if-number-lt12.false in
    let other = c.if-number-eq12.false in
    no_fixed_type c.args.number (omega (arith, past, other))

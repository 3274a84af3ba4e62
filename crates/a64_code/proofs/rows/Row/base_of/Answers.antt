use Rattle.std.proofs.Common.{◌==◌, sym, arith, eq-eqb, bit_and}
use Rattle.a64_code.proofs.Positions.{position_here, position_nowhere}
use Rattle.a64_code.proofs.rows.Row.base_of.Goals as goal

pub returns-then-base-fixed : goal.returns-then-base-fixed
returns-then-base-fixed c =
    sym (position_here (λ base. base == bit_and c.args.word c.args.self.mask) c.args.self.bases.now c.loop-place.place
    (omega arith) c.loop-place.invariant (eq-eqb _ _ c.if-base-fixed.true))

pub returns : goal.returns
returns c =
    sym (position_nowhere (λ base. base == bit_and c.args.word c.args.self.mask) c.args.self.bases.now
    (λ k within. c.loop-place.invariant k (omega arith)))

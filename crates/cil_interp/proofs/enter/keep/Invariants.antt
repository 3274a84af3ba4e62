use Rattle.std.proofs.Common.{◌≡◌, ◌+◌, drop, length}
use Rattle.cil_interp.specs.Entered.{kept_from}
use Rattle.cil_interp.proofs.enter.keep.Given as goal

abbrev pub invariant-loop-i : goal.invariant-loop-i
invariant-loop-i l = kept_from l.places l.fn.words l.base ≡ kept_from (drop l.i l.places) l.words (l.base + l.i)

use Rattle.std.proofs.Common.{◌≡◌, ◌+◌, drop}
use Rattle.cil_interp.specs.Entered.{written}
use Rattle.cil_interp.proofs.enter.write.Given as goal

abbrev pub invariant-loop-i : goal.invariant-loop-i
invariant-loop-i l = written l.values l.fn.words l.base ≡ written (drop l.i l.values) l.words (l.base + l.i)

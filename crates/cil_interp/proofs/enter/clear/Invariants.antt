use Rattle.std.proofs.Common.{◌≡◌, ◌+◌, ◌-◌}
use Rattle.cil_interp.specs.Entered.{cleared}
use Rattle.cil_interp.proofs.enter.clear.Given as goal

abbrev pub invariant-loop-i : goal.invariant-loop-i
invariant-loop-i l = cleared l.count l.fn.words l.base ≡ cleared (l.count - l.i) l.words (l.base + l.i)

use Rattle.std.proofs.Common.{◌≡◌, ◌-◌, ◌<◌, ◌≤◌, true, length, get_or}
use Rattle.cil_decode.specs.declared.instr.Instr.{Instr}
use Rattle.cil_verify.specs.Subjects.{no_typing_at}
use Rattle.cil_verify.proofs.Halves.{NoneBefore}
use Rattle.cil_verify.proofs.search.first_untyped.Given as goal

abbrev pub invariant-loop-low : goal.invariant-loop-low
invariant-loop-low l = record {
  in_order : l.low ≤ l.high;
  within : l.high ≤ length l.code.instrs;
  typed : NoneBefore (no_typing_at l.code) l.code.instrs l.low;
  untyped : (d : Instr) → l.high < length l.code.instrs → no_typing_at l.code (get_or l.code.instrs l.high d) ≡ true;
}

abbrev pub decreases-loop-low : goal.decreases-loop-low
decreases-loop-low l = l.high - l.low

use Rattle.std.proofs.Common.{◌≡◌, ◌≤◌, length, ◌+◌, ◌*◌, vec_len}
use Rattle.cli_assembly.specs.Types.{after_type}
use Rattle.cli_assembly.proofs.TypeLoop.{still}
use Rattle.cli_assembly.proofs.pending.after_type.Given as goal

abbrev pub invariant-loop-inner : goal.invariant-loop-inner
invariant-loop-inner l = record {
  left : still l.inner l.outer.items l.rest ≡ after_type l.bytes;
  no_longer : length l.rest ≤ length l.bytes;
}

-- each head takes a byte, and keeps one more at most
abbrev pub decreases-loop-inner : goal.decreases-loop-inner
decreases-loop-inner l = 2 * length l.rest + vec_len l.outer

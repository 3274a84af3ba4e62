use Rattle.std.proofs.Common.{◌≤◌, ◌+◌, ◌-◌, length, vec_len}
use Rattle.std.specs.Io.KnownBytes.{Consumes}
use Rattle.rtr_outside.specs.declared.files.TheConstants.{FILE_LIMIT}
use Rattle.rtr_outside.proofs.transfer.read_all.Given as goal

abbrev pub invariant-loop-piece : goal.invariant-loop-piece
invariant-loop-piece g l = record {
  came : Consumes (g.F.Read.remaining l.fn.file) (g.F.Read.remaining l.file) l.bytes.items;
  within : length l.bytes.items ≤ FILE_LIMIT + 1;
}

abbrev pub decreases-loop-piece : goal.decreases-loop-piece
decreases-loop-piece g l = FILE_LIMIT + 1 - vec_len l.bytes

use Rattle.std.proofs.Common.{◌≡◌, length}
use Rattle.test_files.proofs.pieces.file_of.Given as goal

abbrev pub invariant-loop-piece : goal.invariant-loop-piece
invariant-loop-piece l = length l.bytes.items ≡ l.len

use Rattle.std.proofs.Common.{length}
use Rattle.native_format.proofs.sparse_writer.+put_tree.Given as goal

abbrev pub decreases-put_tree : goal.decreases-put_tree
decreases-put_tree l = length l.lower.now

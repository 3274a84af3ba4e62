use Rattle.std.proofs.Common.{◌≡◌, drop}
use Rattle.native_format.specs.Sparse.{path, weights}
use Rattle.native_format.proofs.sparse_reader.walk.Given as goal

-- what is found from the node on by the bits that are left
abbrev pub invariant-loop-weight : goal.invariant-loop-weight
invariant-loop-weight l = path l.bytes l.low (drop l.weight-index weights) l.at ≡ path l.bytes l.low weights l.block

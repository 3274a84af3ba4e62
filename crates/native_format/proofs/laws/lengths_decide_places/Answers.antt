use Rattle.native_format.proofs.SparseLengthLaws.{sparse_len_is}
use Rattle.native_format.proofs.SparseWritten.{placed}
use Rattle.native_format.proofs.laws.lengths_decide_places.Goals as goal

pub returns-clause-length : goal.returns-clause-length
returns-clause-length c = sparse_len_is

pub returns-clause-places : goal.returns-clause-places
returns-clause-places c = placed

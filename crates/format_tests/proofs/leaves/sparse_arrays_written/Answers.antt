use Rattle.std.proofs.Common.{arith}
use Rattle.native_format.proofs.SparseWritten.{small_one, small_two, small_late}
use Rattle.format_tests.proofs.leaves.sparse_arrays_written.Goals as goal

pub write_sparse-requires-clause-small : goal.write_sparse-requires-clause-small
write_sparse-requires-clause-small g c = rw c.in_ok-element.ensures small_one

pub write_sparse-requires-clause-elements : goal.write_sparse-requires-clause-elements
write_sparse-requires-clause-elements g c = rw c.in_ok-element.ensures (omega arith, omega arith, tt)

pub write_sparse-requires-2-clause-small : goal.write_sparse-requires-2-clause-small
write_sparse-requires-2-clause-small g c = rw (c.in_ok-element-2.ensures, c.in_ok-element-3.ensures) small_two

pub write_sparse-requires-2-clause-elements : goal.write_sparse-requires-2-clause-elements
write_sparse-requires-2-clause-elements g c =
    rw (c.in_ok-element-2.ensures, c.in_ok-element-3.ensures) (omega arith, omega arith, (omega arith, omega arith, tt))

pub write_sparse-requires-3-clause-small : goal.write_sparse-requires-3-clause-small
write_sparse-requires-3-clause-small g c = rw c.in_ok-element-4.ensures small_late

pub write_sparse-requires-3-clause-elements : goal.write_sparse-requires-3-clause-elements
write_sparse-requires-3-clause-elements g c = rw c.in_ok-element-4.ensures (omega arith, omega arith, tt)

use Rattle.std.proofs.Common.{◌-◌, ◌/◌}
use Rattle.a64_tests.proofs.cells.+fn-work_in_threads-join_mut+arg2+fn-work_in_threads-join_mut+arg3+work_in_threads.Given as goal

abbrev pub decreases-join_mut+arg2 : goal.decreases-join_mut+arg2
decreases-join_mut+arg2 g l = l.workers - l.workers / 2

abbrev pub decreases-join_mut+arg3 : goal.decreases-join_mut+arg3
decreases-join_mut+arg3 g l = l.workers / 2

abbrev pub decreases-work_in_threads : goal.decreases-work_in_threads
decreases-work_in_threads g l = l.workers

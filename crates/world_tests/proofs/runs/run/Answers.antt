use Rattle.std.proofs.Common.{[]}
use Rattle.world_tests.proofs.runs.run.Goals as goal

pub run-requires-clause-runs : goal.run-requires-clause-runs
run-requires-clause-runs c = (c.in-Next.ensures.entered [] []).runs

use Rattle.std.proofs.Common.{rules}
use Rattle.import_cells.proofs.TestCells.{no_first}
use Rattle.a64_tests.proofs.cells.bind_leaf.Goals as goal

pub bind-requires-clause-first : goal.bind-requires-clause-first
bind-requires-clause-first c = λ d i. absurd
    (no_first c.args.plan.now c.args.cells.now.plan c.args.number d c.index-plan-number.result c.as_slice.result.now
    (search rules) (search rules) (search rules) (search rules) (search rules) i)

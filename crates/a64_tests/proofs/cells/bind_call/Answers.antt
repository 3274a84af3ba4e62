use Rattle.std.proofs.Common.{rules, ⊎_elim, sym, subst}
use Rattle.import_cells.specs.Plan.{In}
use Rattle.import_cells.proofs.TestCells.{two_first}
use Rattle.a64_tests.proofs.cells.bind_call.Goals as goal

pub bind-requires-clause-first : goal.bind-requires-clause-first
bind-requires-clause-first c = λ d i. ⊎_elim
    (λ e. subst (In c.bind_leaf-then-bind_leaf.new.seat.view.seen) (sym e) (c.bind_leaf-then-bind_leaf.ensures.keeps _
    (c.bind_leaf.ensures.seen c.if-bind_leaf.true)))
    (λ e. subst (In c.bind_leaf-then-bind_leaf.new.seat.view.seen) (sym e) (c.bind_leaf-then-bind_leaf.ensures.seen c.if-bind_leaf-2.true))
    (two_first c.args.plan.now c.args.cells.now.plan c.args.number d c.index-plan-number.result c.as_slice.result.now
    (search rules) (search rules) (search rules) (search rules) (search rules) (search rules) i)

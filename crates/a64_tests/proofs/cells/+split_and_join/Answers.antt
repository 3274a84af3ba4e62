use Rattle.std.proofs.Common.{rules, ◌^◌, ◌-◌, ◌≤◌, sym, subst}
use Rattle.import_cells.specs.declared.event.SeatView.{SeatView}
use Rattle.import_cells.proofs.TestCells.{halves}
use Rattle.a64_tests.proofs.cells.+split_and_join.Goals as goal

pub split-requires-clause-share : goal.split-requires-clause-share
split-requires-clause-share t c = (halves c.args.splits _ (search rules) c.requires.share).0

pub split_and_join-rest-requires : goal.split_and_join-rest-requires
split_and_join-rest-requires t c = (
  search rules,
  (
    search rules,
    subst (λ (v : SeatView). 2 ^ (c.args.splits - 1) ≤ v.share) (sym c.in-Ok.ensures.kept) (halves c.args.splits _
        (search rules) c.requires.share).1,
  ),
)

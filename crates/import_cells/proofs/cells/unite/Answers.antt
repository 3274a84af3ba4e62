use Rattle.std.proofs.Common.{rules, sym, subst, arith}
use Rattle.import_cells.proofs.Flags.{Unites, unites_none, unites_more, unites_other}
use Rattle.import_cells.proofs.cells.unite.Goals as goal
use Rattle.import_cells.proofs.cells.unite.Goals.{then-other, else-other}

pub loop-number-init : goal.loop-number-init
loop-number-init c = unites_none _ _ c.requires

pub loop-number-preserved : goal.loop-number-preserved
loop-number-preserved c = elim c.if-other.branch [
  | then-other w ↦ subst (Unites _ _ _) (sym w.flags-is) (unites_more _ _ _ _ (search rules) (search rules) c.loop-number.invariant)
  | else-other w ↦ subst (Unites _ _ _) (sym w.flags-is) (unites_other _ _ _ _ (search rules) c.loop-number.invariant)
]

pub returns : goal.returns
returns c = λ k h. c.loop-number.invariant.done k (omega arith)

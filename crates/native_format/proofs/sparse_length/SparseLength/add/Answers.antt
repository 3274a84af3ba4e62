use Rattle.std.proofs.Common.{subst, sym}
use Rattle.native_format.specs.SparseLengths.{Measure, Measures}
use Rattle.native_format.proofs.sparse_length.SparseLength.add.Goals as goal
use Rattle.native_format.proofs.sparse_length.SparseLength.add.Goals.{then-self-index, else-self-index}

pub returns-clause-measures : goal.returns-clause-measures
returns-clause-measures c count lengths content len_is h =
    let P : Measure → Type 0 = λ m. Measures m count lengths in
    elim c.if-self-index.branch [
      | then-self-index w ↦
          c.put.ensures.measures count lengths content len_is (subst P (sym w.self-is) (w.start.ensures.measures count lengths h))
      | else-self-index w ↦ c.put.ensures.measures count lengths content len_is (subst P (sym w.self-is) h)
    ]

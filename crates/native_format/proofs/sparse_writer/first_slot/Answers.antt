use Rattle.std.proofs.Common.{sym, ap, ◌∙◌, Some}
use Rattle.native_format.proofs.SparseWritten.{none_left, first_found, first_other}
use Rattle.native_format.proofs.sparse_writer.first_slot.Goals as goal

pub returns-in_err-first : goal.returns-in_err-first
returns-in_err-first c = rw c.from_residual.ensures (sym (none_left c.args.elements.now c.args.index (sym c.in_err-first.ensures.value)))

pub returns-then-first-index : goal.returns-then-first-index
returns-then-first-index c =
    ap (λ content. Some content) c.as_slice.ensures
    ∙ sym (first_found c.args.elements.now c.in_ok-first.first.now c.args.index (sym c.in_ok-first.ensures.value) c.if-first-index.true)

pub returns-else-first-index : goal.returns-else-first-index
returns-else-first-index c =
    sym
    (first_other c.args.elements.now c.in_ok-first.first.now c.args.index _ (sym c.in_ok-first.ensures.value) c.requires
    c.if-first-index.false)

use Rattle.std.proofs.lemmas.Result.{IfOk-equal}
use Rattle.rtr_sections.proofs.PutLemmas.{two_then}
use Rattle.rtr_sections.proofs.written.put_head.Goals as goal

pub returns-clause-head : goal.returns-clause-head
returns-clause-head c =
    IfOk-equal c.put_imports.result _ _ _ c.put_imports.ensures.records
    (two_then c.args.out.now.items _ _ _ _ _ (rw c.as_slice.ensures at c.in_ok-put_cells.ensures.cells) c.in_ok-put_header.ensures.header)

use Rattle.std.proofs.lemmas.Result.{IfOk-equal}
use Rattle.rtr_sections.proofs.PutLemmas.{five_then, put_made}
use Rattle.rtr_sections.proofs.written.put_header.Goals as goal

pub returns-clause-header : goal.returns-clause-header
returns-clause-header c =
    IfOk-equal c.put_sections.result _ _ _ (rw c.as_slice.ensures at c.put_sections.ensures.records)
    (five_then c.args.out.now.items _ _ _ _ _ _ _ _ _ _ _
    (put_made c.args.out.now.items _ _ _ c.in_ok-extend_from_slice.ensures.items c.to_le_bytes.ensures)
    (put_made _ _ _ _ c.in_ok-extend_from_slice-2.ensures.items c.to_le_bytes-2.ensures)
    (put_made _ _ _ _ c.in_ok-extend_from_slice-3.ensures.items c.to_le_bytes-3.ensures)
    (put_made _ _ _ _ c.in_ok-extend_from_slice-4.ensures.items c.to_le_bytes-4.ensures)
    (put_made _ _ _ _ c.in_ok-extend_from_slice-5.ensures.items c.to_le_bytes-5.ensures))

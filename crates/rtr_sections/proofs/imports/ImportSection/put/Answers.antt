use Rattle.rtr_sections.proofs.PutLemmas.{put_made, six_put}
use Rattle.rtr_sections.proofs.imports.ImportSection.put.Goals as goal

pub returns-clause-record : goal.returns-clause-record
returns-clause-record c =
    six_put c.args.out.now.items _ _ _ _ _ _ _ _ _ _ _ _
    (put_made c.args.out.now.items _ _ _ c.in_ok-extend_from_slice.ensures.items c.to_le_bytes.ensures)
    (put_made _ _ _ _ c.in_ok-extend_from_slice-2.ensures.items c.to_le_bytes-2.ensures)
    (put_made _ _ _ _ c.in_ok-extend_from_slice-3.ensures.items c.to_le_bytes-3.ensures)
    c.in_ok-extend_from_slice-4.ensures.items
    (put_made _ _ _ _ c.in_ok-extend_from_slice-5.ensures.items c.to_le_bytes-4.ensures)
    (put_made _ _ _ _ c.in_ok-extend_from_slice-6.ensures.items c.to_le_bytes-5.ensures)

use Rattle.rtr_sections.proofs.PutLemmas.{put_made, six_put}
use Rattle.rtr_sections.proofs.written.put_tables.Goals as goal

pub returns-clause-tables : goal.returns-clause-tables
returns-clause-tables c =
    six_put c.args.out.now.items _ _ _ _ _ _ _ _ _ _ _ _
    (put_made c.args.out.now.items _ _ _ c.in_ok-extend_from_slice.ensures.items c.deref.ensures.value)
    c.in_ok-put_functions.ensures.functions c.in_ok-put_unwinds.ensures.unwinds c.in_ok-extend_from_slice-2.ensures.items
    (put_made _ _ _ _ c.in_ok-extend_from_slice-3.ensures.items c.deref-2.ensures.value) c.in_ok-extend_from_slice-4.ensures.items

use Rattle.std.proofs.Common.{◌∙◌, sym, None}
use Rattle.rtr_bytes.specs.Compressed.{IsCompressed}
use Rattle.fixup_sigs.proofs.Places.{behind_begins}
use Rattle.fixup_sigs.proofs.Payloads.{class_read}
use Rattle.fixup_sigs.proofs.reading.type_at.Goals as goal

pub returns-in_err-coded-in-18-clause-only : goal.returns-in_err-coded-in-18-clause-only
returns-in_err-coded-in-18-clause-only c of next h =
    let (n, is, answer) =
    class_read c.args.bytes.now c.args.at None (sym (c.in_ok-element.ensures.lookup.3.1 0) ∙ c.in-18.is) c.in_err-coded-in-18.ensures.only
    of next h in
    absurd (cc)

pub returns-in_ok-coded-in-18-clause-found : goal.returns-in_ok-coded-in-18-clause-found
returns-in_ok-coded-in-18-clause-found c =
    behind_begins IsCompressed c.args.bytes.now c.args.at 0x12 c.in_ok-coded-in-18.coded c.in_ok-coded-in-18.next
    c.in_ok-element.ensures.lookup.3.0 (sym (c.in_ok-element.ensures.lookup.3.1 0) ∙ c.in-18.is) c.in_ok-coded-in-18.ensures.found

use Rattle.std.proofs.Common.{None, Some, sym}
use Rattle.fixup_sigs.specs.Fixup.{signature_of}
use Rattle.fixup_sigs.proofs.Places.{same_answer}
use Rattle.fixup_sigs.proofs.Signatures.{same_signature, fixup_begins, fixup_read}
use Rattle.fixup_sigs.proofs.reading.fixup_from.Goals as goal

pub returns-in_err-payload-clause-only : goal.returns-in_err-payload-clause-only
returns-in_err-payload-clause-only c fixup next h =
    let (kind, answer) = fixup_read c.args.bytes.now c.args.at c.in_ok-kind.field-0.now c.in_ok-shape_after.field-0 None
    (sym (c.in_ok-kind.ensures.lookup.3.1 0)) c.in_ok-shape_after.ensures c.in_err-payload.ensures.only fixup next h in
    absurd (cc)

pub returns-in_err-fixup-clause-only : goal.returns-in_err-fixup-clause-only
returns-in_err-fixup-clause-only c fixup next h =
    let (kind, answer) =
    fixup_read c.args.bytes.now c.args.at c.in_ok-kind.field-0.now c.in_ok-shape_after.field-0
    (Some (c.in_ok-payload.payload, c.in_ok-payload.next))
    (sym (c.in_ok-kind.ensures.lookup.3.1 0)) c.in_ok-shape_after.ensures c.in_ok-payload.ensures.only fixup next h in
    let same = same_answer c.in_ok-payload.payload (signature_of fixup).payload c.in_ok-payload.next next answer in
    let none =
    c.in_err-fixup.ensures.only fixup
    (same_signature (signature_of fixup) c.in_ok-kind.field-0.now c.in_ok-payload.payload kind (sym same.0)) in
    absurd (cc)

pub returns-clause-found : goal.returns-clause-found
returns-clause-found c =
    fixup_begins c.args.bytes.now c.args.at c.in_ok-payload.next c.in_ok-fixup.fixup c.in_ok-kind.field-0.now c.in_ok-payload.payload
    c.in_ok-fixup.ensures.found c.in_ok-kind.ensures.lookup.3.0 (sym (c.in_ok-kind.ensures.lookup.3.1 0)) c.in_ok-payload.ensures.found

pub returns-clause-only : goal.returns-clause-only
returns-clause-only c fixup next h =
    let (kind, answer) =
    fixup_read c.args.bytes.now c.args.at c.in_ok-kind.field-0.now c.in_ok-shape_after.field-0
    (Some (c.in_ok-payload.payload, c.in_ok-payload.next))
    (sym (c.in_ok-kind.ensures.lookup.3.1 0)) c.in_ok-shape_after.ensures c.in_ok-payload.ensures.only fixup next h in
    let same = same_answer c.in_ok-payload.payload (signature_of fixup).payload c.in_ok-payload.next next answer in
    let found =
    c.in_ok-fixup.ensures.only fixup
    (same_signature (signature_of fixup) c.in_ok-kind.field-0.now c.in_ok-payload.payload kind (sym same.0)) in
    let end = same.1 in
    cc

use Rattle.std.proofs.Common.{Some, None}
use Rattle.rtr_bytes.specs.Compressed.{IsCompressed}
use Rattle.fixup_sigs.specs.Fixup.{IsFieldToken}
use Rattle.fixup_sigs.proofs.Places.{same_answer, pair_begins, pair_first, pair_second}
use Rattle.fixup_sigs.proofs.Payloads.{number_read, type_read, field_read, offset_spelled}
use Rattle.fixup_sigs.proofs.reading.payload_at.Goals as goal

pub returns-in_err-number-in-Number-clause-only : goal.returns-in_err-number-in-Number-clause-only
returns-in_err-number-in-Number-clause-only c payload next e h =
    let (n, is, answer) = number_read c.args.bytes.now c.args.at None c.in_err-number-in-Number.ensures.only payload next (cc) h in
    absurd (cc)

pub returns-in_err-of-in-OfType-clause-only : goal.returns-in_err-of-in-OfType-clause-only
returns-in_err-of-in-OfType-clause-only c payload next e h =
    let (of, is, answer) = type_read c.args.bytes.now c.args.at None c.in_err-of-in-OfType.ensures.only payload next (cc) h in
    absurd (cc)

pub returns-in_err-field-in-OfField-clause-only : goal.returns-in_err-field-in-OfField-clause-only
returns-in_err-field-in-OfField-clause-only c payload next e h =
    let (field, is, answer) = field_read c.args.bytes.now c.args.at None c.in_err-field-in-OfField.ensures.only payload next (cc) h in
    absurd (cc)

pub returns-in_err-offset-in-OffsetAndField-clause-only : goal.returns-in_err-offset-in-OffsetAndField-clause-only
returns-in_err-offset-in-OffsetAndField-clause-only c payload next e h =
    let (offset, field, is, spelled) = offset_spelled c.args.bytes.now c.args.at payload next (cc) h in
    let (mid, answer, rest) =
    pair_first IsCompressed IsFieldToken c.args.bytes.now c.args.at next offset field None c.in_err-offset-in-OffsetAndField.ensures.only
    spelled in
    absurd (cc)

pub returns-in_err-field-in-OffsetAndField-clause-only : goal.returns-in_err-field-in-OffsetAndField-clause-only
returns-in_err-field-in-OffsetAndField-clause-only c payload next e h =
    let (offset, field, is, spelled) = offset_spelled c.args.bytes.now c.args.at payload next (cc) h in
    let (same, answer) =
    pair_second IsCompressed IsFieldToken c.args.bytes.now c.args.at c.in_ok-offset-in-OffsetAndField.next next offset
    c.in_ok-offset-in-OffsetAndField.offset field None
    c.in_ok-offset-in-OffsetAndField.ensures.only c.in_err-field-in-OffsetAndField.ensures.only spelled in
    absurd (cc)

pub returns-in_ok-field-in-OfField-clause-only : goal.returns-in_ok-field-in-OfField-clause-only
returns-in_ok-field-in-OfField-clause-only c payload next e h =
    let (field, is, answer) =
    field_read c.args.bytes.now c.args.at (Some (c.in_ok-field-in-OfField.field, c.in_ok-field-in-OfField.next))
    c.in_ok-field-in-OfField.ensures.only payload next (cc) h in
    let (same, end) = same_answer c.in_ok-field-in-OfField.field field c.in_ok-field-in-OfField.next next answer in
    cc

pub returns-in_ok-field-in-OffsetAndField-clause-found : goal.returns-in_ok-field-in-OffsetAndField-clause-found
returns-in_ok-field-in-OffsetAndField-clause-found c =
    pair_begins IsCompressed IsFieldToken c.args.bytes.now c.args.at c.in_ok-offset-in-OffsetAndField.next
    c.in_ok-field-in-OffsetAndField.next
    c.in_ok-offset-in-OffsetAndField.offset c.in_ok-field-in-OffsetAndField.field
    c.in_ok-offset-in-OffsetAndField.ensures.found c.in_ok-field-in-OffsetAndField.ensures.found

pub returns-in_ok-field-in-OffsetAndField-clause-only : goal.returns-in_ok-field-in-OffsetAndField-clause-only
returns-in_ok-field-in-OffsetAndField-clause-only c payload next e h =
    let (offset, field, is, spelled) = offset_spelled c.args.bytes.now c.args.at payload next (cc) h in
    let (same, answer) =
    pair_second IsCompressed IsFieldToken c.args.bytes.now c.args.at c.in_ok-offset-in-OffsetAndField.next next offset
    c.in_ok-offset-in-OffsetAndField.offset field
    (Some (c.in_ok-field-in-OffsetAndField.field, c.in_ok-field-in-OffsetAndField.next))
    c.in_ok-offset-in-OffsetAndField.ensures.only c.in_ok-field-in-OffsetAndField.ensures.only spelled in
    let (alike, end) = same_answer c.in_ok-field-in-OffsetAndField.field field c.in_ok-field-in-OffsetAndField.next next answer in
    cc

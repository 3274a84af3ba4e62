use Rattle.std.proofs.Common.{ℕ, None, Some, unwrap_or, ap, subst}
use Rattle.rtr_bytes.specs.Compressed.{IsCompressed}
use Rattle.rtr_bytes.specs.Spelling.{BeginsAt}
use Rattle.fixup_sigs.specs.Fixup.{IsPair, flags_of}
use Rattle.fixup_sigs.proofs.Signatures.{same_field}
use Rattle.fixup_sigs.proofs.Places.{same_answer, pair_begins, pair_first, pair_second}
use Rattle.fixup_sigs.proofs.reading.field_at.Goals as goal

pub returns-in_err-flags-clause-only : goal.returns-in_err-flags-clause-only
returns-in_err-flags-clause-only c field next h =
    let (mid, answer, rest) =
    pair_first IsCompressed IsCompressed c.args.bytes.now c.args.at next (flags_of field.member_ref) field.row None
    c.in_err-flags.ensures.only h in
    absurd (cc)

pub returns-in_err-row-clause-only : goal.returns-in_err-row-clause-only
returns-in_err-row-clause-only c field next h =
    let (same, answer) =
    pair_second IsCompressed IsCompressed c.args.bytes.now c.args.at c.in_ok-flags.next next (flags_of field.member_ref) c.in_ok-flags.flags
    field.row None
    c.in_ok-flags.ensures.only c.in_err-row.ensures.only h in
    absurd (cc)

pub returns-clause-found : goal.returns-clause-found
returns-clause-found c =
    let P : ℕ → Type 0 =
    λ flags. BeginsAt (IsPair IsCompressed IsCompressed) c.args.bytes.now c.args.at (flags, c.in_ok-row.row) c.in_ok-row.next in
    subst P c.in_ok-member_ref.ensures.found
    (pair_begins IsCompressed IsCompressed c.args.bytes.now c.args.at c.in_ok-flags.next c.in_ok-row.next c.in_ok-flags.flags
    c.in_ok-row.row
    c.in_ok-flags.ensures.found c.in_ok-row.ensures.found)

pub returns-clause-only : goal.returns-clause-only
returns-clause-only c field next h =
    let (same, answer) =
    pair_second IsCompressed IsCompressed c.args.bytes.now c.args.at c.in_ok-flags.next next (flags_of field.member_ref) c.in_ok-flags.flags
    field.row
    (Some (c.in_ok-row.row, c.in_ok-row.next)) c.in_ok-flags.ensures.only c.in_ok-row.ensures.only h in
    let (row, end) = same_answer c.in_ok-row.row field.row c.in_ok-row.next next answer in
    let member_ref = ap (λ o. unwrap_or o c.in_ok-member_ref.member_ref) (c.in_ok-member_ref.ensures.only field.member_ref same) in
    let whole = same_field (record { member_ref = c.in_ok-member_ref.member_ref; row = c.in_ok-row.row }) field member_ref row in
    cc

use Rattle.std.proofs.Common.{rules, ◌≡◌, Option, None, IfErr, OnOk, sym, ◌∙◌, subst}
use Rattle.rtr_bytes.specs.declared.fault.Fault.{Fault}
use Rattle.rtr_bytes.specs.Checks.{RefusedBy, first_fault}
use Rattle.metadata.specs.Checks.{header_checks, layout_checks, metadata_checks}
use Rattle.metadata.proofs.AllChecks.{first_of_rows, header_fault_is, no_header_fault, refused_by_header}
use Rattle.metadata.proofs.AllChecks.{refused_by_root, refused_by_streams}
use Rattle.metadata.proofs.metadata.Metadata.read.Goals as goal

pub returns-in_err-root-clause-malformed : goal.returns-in_err-root-clause-malformed
returns-in_err-root-clause-malformed c =
    let all = refused_by_root c.args.bytes.now c.args.span c.in_err-root.field-0.0 c.in_err-root.ensures.fault in
    search (rules, all)

pub returns-in_err-streams-clause-malformed : goal.returns-in_err-streams-clause-malformed
returns-in_err-streams-clause-malformed c =
    let all =
    refused_by_streams c.args.bytes.now c.args.span c.in_err-streams.field-0.0 c.in_ok-root.ensures.ok c.in_err-streams.ensures.fault in
    search (rules, all)

pub returns-in_err-header-clause-malformed : goal.returns-in_err-header-clause-malformed
returns-in_err-header-clause-malformed c =
    let bytes = c.args.bytes.now in
    let span = c.args.span in
    let e = c.in_err-header.field-0.0 in
    let here = header_fault_is bytes span c.in_ok-streams.streams.tables c.in_ok-streams.ensures.streams.tables in
    let all =
    refused_by_header bytes span e c.in_ok-root.ensures.ok c.in_ok-streams.ensures.ok
    (subst (λ o. RefusedBy o e) here c.in_err-header.ensures.fault) in
    search (rules, all)

pub returns-clause-malformed : goal.returns-clause-malformed
returns-clause-malformed c =
    let bytes = c.args.bytes.now in
    let span = c.args.span in
    let tables = c.in_ok-streams.streams.tables in
    let h = c.in_ok-header.ensures in
    let header : first_fault (header_checks span) bytes ≡ None =
    sym (header_fault_is bytes span tables c.in_ok-streams.ensures.streams.tables)
    ∙ no_header_fault bytes tables h.whole h.heaps h.known h.counts in
    let all : first_fault (layout_checks span) bytes ≡ first_fault (metadata_checks span) bytes =
    sym (first_of_rows bytes span c.in_ok-root.ensures.ok c.in_ok-streams.ensures.ok header) in
    let P : Option Fault → Type 0 = λ o. IfErr c.of_streams.result (λ e. RefusedBy o e) in
    subst P all c.of_streams.ensures.malformed

pub returns-clause-well_formed : goal.returns-clause-well_formed
returns-clause-well_formed c =
    let bytes = c.args.bytes.now in
    let span = c.args.span in
    let tables = c.in_ok-streams.streams.tables in
    let h = c.in_ok-header.ensures in
    let header : first_fault (header_checks span) bytes ≡ None =
    sym (header_fault_is bytes span tables c.in_ok-streams.ensures.streams.tables)
    ∙ no_header_fault bytes tables h.whole h.heaps h.known h.counts in
    let all : first_fault (layout_checks span) bytes ≡ first_fault (metadata_checks span) bytes =
    sym (first_of_rows bytes span c.in_ok-root.ensures.ok c.in_ok-streams.ensures.ok header) in
    let P : Option Fault → Type 0 = λ o. OnOk c.of_streams.result (o ≡ None) in
    subst P all c.of_streams.ensures.well_formed

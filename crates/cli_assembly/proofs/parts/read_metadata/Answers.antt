use Rattle.std.proofs.Common.{◌≡◌, ap, sym, subst, length, None, IfErr, IfOk, OnOk, ◌∙◌}
use Rattle.rtr_bytes.specs.declared.fault.Span.{Span}
use Rattle.rtr_bytes.specs.Checks.{RefusedBy, first_fault}
use Rattle.pe_image.specs.Headers.{Headers}
use Rattle.metadata.specs.Checks.{metadata_checks}
use Rattle.metadata.specs.Steps.{IsInside}
use Rattle.metadata.specs.Tables.{layout_of}
use Rattle.cli_assembly.proofs.Inside.{metadata_inside}
use Rattle.cli_assembly.proofs.parts.read_metadata.Goals as goal

pub read-requires-clause-inside : goal.read-requires-clause-inside
read-requires-clause-inside c =
    let span = c.metadata.ensures.range ∙ ap (λ (h : Headers). h.metadata) c.requires.pe in
    subst (λ (s : Span). IsInside s (length c.args.bytes.now)) (sym span) (metadata_inside c.args.bytes.now c.requires.passes)

pub returns-clause-malformed : goal.returns-clause-malformed
returns-clause-malformed c =
    let span = c.metadata.ensures.range ∙ ap (λ (h : Headers). h.metadata) c.requires.pe in
    let P : Span → Type 0 = λ s. IfErr c.read.result (λ e. RefusedBy (first_fault (metadata_checks s) c.args.bytes.now) e) in
    subst P span c.read.ensures.malformed

pub returns-clause-well_formed : goal.returns-clause-well_formed
returns-clause-well_formed c =
    let span = c.metadata.ensures.range ∙ ap (λ (h : Headers). h.metadata) c.requires.pe in
    let P : Span → Type 0 = λ s. OnOk c.read.result (first_fault (metadata_checks s) c.args.bytes.now ≡ None) in
    subst P span c.read.ensures.well_formed

pub returns-clause-layout : goal.returns-clause-layout
returns-clause-layout c =
    let span = c.metadata.ensures.range ∙ ap (λ (h : Headers). h.metadata) c.requires.pe in
    let P : Span → Type 0 = λ s. IfOk c.read.result (λ m. m ≡ layout_of c.args.bytes.now s) in
    subst P span c.read.ensures.layout

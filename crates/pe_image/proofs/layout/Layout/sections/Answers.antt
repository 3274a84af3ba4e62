use Rattle.std.proofs.Common.{◌≡◌, ◌+◌, ◌*◌, ◌<◌, ◌∙◌, refl, Some, false, sym, ap, arith, ℕ}
use Rattle.std.proofs.lemmas.Result.{err_from_is_err_and}
use Rattle.std.proofs.lemmas.List.Elements.{All-push}
use Rattle.rtr_bytes.specs.Checks.{first_record}
use Rattle.rtr_bytes.proofs.Tables.{records-more, first_record-step, first_record-found}
use Rattle.pe_image.specs.Headers.{section_table_at, section_count, sections_of}
use Rattle.pe_image.specs.Checks.{raw_range_fits}
use Rattle.pe_image.specs.Sections.{section_at, IsInReach}
use Rattle.pe_image.proofs.layout.Layout.sections.Goals as goal

pub returns-in_err-section-clause-fault : goal.returns-in_err-section-clause-fault
returns-in_err-section-clause-fault c =
    let p = err_from_is_err_and c.from_residual.result c.from_residual.ensures.1 in
    let bytes = c.self.inside.file in
    let fault = c.in_err-section.ensures.fault in
    let below : c.loop-i.i < section_count bytes = omega arith in
    let fails : raw_range_fits bytes (section_table_at bytes + 40 * c.loop-i.i) ≡ false =
    ap (λ (t : ℕ). raw_range_fits bytes (t + 40 * c.loop-i.i)) (sym c.self.invariant.section_table) ∙ fault.0 in
    let first : first_record (raw_range_fits bytes) (section_table_at bytes) 40 (section_count bytes) ≡ Some
    (section_table_at bytes + 40 * c.loop-i.i) =
    sym c.loop-i.invariant.checked
    ∙ first_record-found (raw_range_fits bytes) (section_table_at bytes) 40 (section_count bytes) c.loop-i.i below fails in
    rw (p.1, p.2, ← c.self.view_is, first, fault.1, c.self.invariant.section_table) refl

pub loop-i-preserved : goal.loop-i-preserved
loop-i-preserved c =
    let bytes = c.self.inside.file in
    let start = section_table_at bytes in
    let n = section_count bytes in
    let i = c.loop-i.i in
    let section = c.in_ok-section.section in
    let read = c.in_ok-section.ensures in
    let below : i < n = omega arith in
    record {
      read =
          rw c.in_ok-push.ensures.items (records-more (section_at bytes) start 40 n i c.loop-i.sections.items (sections_of bytes) section
          below (read.section ∙ ap (λ (t : ℕ). section_at bytes (t + 40 * i)) c.self.invariant.section_table) c.loop-i.invariant.read);
      checked =
          sym (first_record-step (raw_range_fits bytes) start 40 n i below
          (ap (λ (t : ℕ). raw_range_fits bytes (t + 40 * i)) (sym c.self.invariant.section_table) ∙ read.fits))
          ∙ c.loop-i.invariant.checked;
      in_reach = rw c.in_ok-push.ensures.items (All-push IsInReach c.loop-i.sections.items section c.loop-i.invariant.in_reach
          read.in_reach);
    }

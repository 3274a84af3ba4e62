use Rattle.std.proofs.Common.{◌≡◌, ℕ, ◌∙◌, ap, arith}
use Rattle.rtr_bytes.specs.Checks.{records}
use Rattle.rtr_sections.specs.Header.{record_count, records_at, rtr_section_at}
use Rattle.rtr_sections.proofs.Listed.{sections_are}
use Rattle.rtr_sections.proofs.header.RtrHeader.read.Goals as goal

pub at-requires-clause-sections : goal.at-requires-clause-sections
at-requires-clause-sections c =
    let bytes = c.args.file.now in
    let at = c.in_ok-places.places.records in
    let count : c.in_ok-places.places.count ≡ record_count bytes = c.in_ok-places.ensures.count in
    c.in_ok-sections.ensures ∙ ap (λ (k : ℕ). records (rtr_section_at bytes) at 12 k) count
    ∙ sections_are bytes at (records_at bytes) (record_count bytes) (λ some. c.in_ok-places.ensures.records (omega (arith, count, some)))

use Rattle.std.proofs.Common.{◌≡◌, ◌==◌, ◌∙◌, Some, None, sym, ap}
use Rattle.std.specs.Prelude.{find}
use Rattle.rtr_sections.specs.declared.header.RtrSection.{RtrSection}
use Rattle.rtr_sections.specs.declared.header.RtrHeader.{RtrHeader}
use Rattle.rtr_sections.specs.Header.{part_at, part_of, rtr_header_of, rtr_sections_of, section_of_kind}
use Rattle.rtr_sections.proofs.header.RtrHeader.part.Goals as goal

pub returns-in-Some-clause-part : goal.returns-in-Some-clause-part
unfolding part_of rtr_header_of
returns-in-Some-clause-part c =
    let bytes = c.args.file.now in
    let kind = c.args.kind in
    let sections : c.as_slice.result.now ≡ rtr_sections_of bytes = c.as_slice.ensures
    ∙ ap (λ (h : RtrHeader). h.sections) c.requires.header in
    let found : section_of_kind bytes kind ≡ Some c.in-Some.section = ap (find (λ (s : RtrSection). s.kind == kind)) (sym sections)
    ∙ sym c.section_of_kind.ensures ∙ c.in-Some.is in
    c.part.ensures.part ∙ ap (part_at bytes) (sym found)

pub returns-in-None-clause-part : goal.returns-in-None-clause-part
unfolding part_of rtr_header_of
returns-in-None-clause-part c =
    let bytes = c.args.file.now in
    let kind = c.args.kind in
    let sections : c.as_slice.result.now ≡ rtr_sections_of bytes = c.as_slice.ensures
    ∙ ap (λ (h : RtrHeader). h.sections) c.requires.header in
    let found : section_of_kind bytes kind ≡ None = ap (find (λ (s : RtrSection). s.kind == kind)) (sym sections)
    ∙ sym c.section_of_kind.ensures ∙ c.in-None.is in
    ap (part_at bytes) (sym found)

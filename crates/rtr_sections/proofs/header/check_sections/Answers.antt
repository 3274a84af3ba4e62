use Rattle.std.proofs.lemmas.Result.{err_from_is_err_and, MatchResult-weaker}
use Rattle.rtr_sections.specs.Header.{record_count, rtr_section_at}
use Rattle.rtr_sections.proofs.Listed.{records-length}
use Rattle.rtr_sections.proofs.SectionChecks.{IsTable, none_fails, refused_order, refused_ranges, refused_sizes}
use Rattle.rtr_sections.proofs.header.check_sections.Goals as goal

pub check_order-requires : goal.check_order-requires
check_order-requires c = record {
  in_reach =
      rw (
        c.requires.sections,
        records-length (rtr_section_at c.args.file.now) c.args.at 12
            (record_count c.args.file.now),
      ) c.requires.in_reach;
}

pub returns-in_err-check_order-clause-fault : goal.returns-in_err-check_order-clause-fault
returns-in_err-check_order-clause-fault c =
    let p = err_from_is_err_and c.from_residual.result c.from_residual.ensures.1 in
    let t : IsTable c.args.file.now c.args.at c.args.sections.now =
    record { native = c.requires.native; here = c.requires.at; are = c.requires.sections } in
    rw (p.1, p.2) (refused_order c.args.file.now c.args.at c.args.sections.now _ t c.in_err-check_order.ensures.fault)

pub check_ranges-requires : goal.check_ranges-requires
check_ranges-requires c = record {
  in_reach =
      rw (
        c.requires.sections,
        records-length (rtr_section_at c.args.file.now) c.args.at 12
            (record_count c.args.file.now),
      ) c.requires.in_reach;
}

pub returns-in_err-check_ranges-clause-fault : goal.returns-in_err-check_ranges-clause-fault
returns-in_err-check_ranges-clause-fault c =
    let p = err_from_is_err_and c.from_residual-in_err-check_ranges.result c.from_residual-in_err-check_ranges.ensures.1 in
    let t : IsTable c.args.file.now c.args.at c.args.sections.now =
    record { native = c.requires.native; here = c.requires.at; are = c.requires.sections } in
    rw (p.1, p.2)
    (refused_ranges c.args.file.now c.args.at c.args.sections.now _ t c.in_ok-check_order.ensures.ok c.in_err-check_ranges.ensures.fault)

pub check_sizes-requires : goal.check_sizes-requires
check_sizes-requires c = record {
  in_reach =
      rw (
        c.requires.sections,
        records-length (rtr_section_at c.args.file.now) c.args.at 12
            (record_count c.args.file.now),
      ) c.requires.in_reach;
}

pub returns-clause-fault : goal.returns-clause-fault
returns-clause-fault c =
    let t : IsTable c.args.file.now c.args.at c.args.sections.now =
    record { native = c.requires.native; here = c.requires.at; are = c.requires.sections } in
    MatchResult-weaker c.check_sizes.result c.check_sizes.ensures.fault (λ _ _. tt)
    (λ f told. refused_sizes c.args.file.now c.args.at c.args.sections.now f t c.in_ok-check_order.ensures.ok
    c.in_ok-check_ranges.ensures.ok told)

pub returns-clause-ok : goal.returns-clause-ok
returns-clause-ok c =
    let t : IsTable c.args.file.now c.args.at c.args.sections.now =
    record { native = c.requires.native; here = c.requires.at; are = c.requires.sections } in
    MatchResult-weaker c.check_sizes.result c.check_sizes.ensures.ok
    (λ _ whole. none_fails c.args.file.now c.args.at c.args.sections.now t c.in_ok-check_order.ensures.ok c.in_ok-check_ranges.ensures.ok
    whole) (λ _ _. tt)

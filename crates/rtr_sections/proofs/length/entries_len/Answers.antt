use Rattle.std.proofs.Common.{◌≡◌, ◌+◌, ◌∙◌, List, ap, length, sym, subst, take, drop, arith}
use Rattle.std.proofs.lemmas.List.{take_all}
use Rattle.native_format.specs.SparseLengths.{Lengths, Measures, capped}
use Rattle.rtr_sections.specs.declared.entries.EntryPoint.{EntryPoint}
use Rattle.rtr_sections.specs.Parts.{content_of_entry, highest_row}
use Rattle.rtr_sections.specs.Plan.{RowsAscend}
use Rattle.rtr_sections.proofs.Lengths.{entries_len_is, lengths, lengths_more, row_next, row_within}
use Rattle.rtr_sections.proofs.length.entries_len.Goals as goal

pub add-requires-clause-below : goal.add-requires-clause-below
add-requires-clause-below c =
    let within = row_within c.args.entries.now c.loop-entry.entry-index c.entry-item.result c.loop-entry-test.true in
    let row = ap (λ (e : EntryPoint). e.row) c.entry-item.is in
    let next =
    row_next c.args.entries.now (c.loop-entry.length.next + 1) c.loop-entry.entry-index c.entry-item.result c.entry-item.result
    c.loop-entry-test.true c.entry-item.is c.loop-entry.invariant.rows in
    omega (arith, within, row, next.0, c.loop-entry.invariant.measured.count_is)

pub loop-entry-preserved : goal.loop-entry-preserved
loop-entry-preserved c =
    let entries = c.args.entries.now in
    let entry = c.entry-item.result in
    let i = c.loop-entry.entry-index in
    let next =
    row_next entries (c.loop-entry.length.next + 1) i entry entry c.loop-entry-test.true c.entry-item.is c.loop-entry.invariant.rows in
    let row : c.add.new.self.next + 1 ≡ entry.row + 1 = omega (arith, c.add.ensures.next, next.0) in
    let added =
    c.add.ensures.measures (highest_row entries) (lengths (take i entries)) (length (content_of_entry entry.function entry.fixups))
    c.content_len.ensures c.loop-entry.invariant.measured in
    record {
      measured = subst (λ (t : Lengths). Measures c.add.new.self (highest_row entries) t)
          (lengths_more entries i entry entry c.loop-entry-test.true c.entry-item.is) added;
      rows = subst (λ n. RowsAscend n (drop (i + 1) entries)) (sym row) next.1;
    }

pub returns : goal.returns
returns c =
    let all = take_all c.loop-entry.entry-index c.args.entries.now c.loop-entry-test.false in
    let measured =
    subst (λ (t : List EntryPoint). Measures c.loop-entry.length (highest_row c.args.entries.now) (lengths t)) all
    c.loop-entry.invariant.measured in
    c.bytes.ensures (highest_row c.args.entries.now) (lengths c.args.entries.now) measured
    ∙ ap capped (entries_len_is c.args.entries.now (c.lengths_decide_places.ensures.length (highest_row c.args.entries.now) _))

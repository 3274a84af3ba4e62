use Rattle.std.proofs.Common.{sym, arith}
use Rattle.rtr_sections.proofs.BadWords.{found_in, none_in}
use Rattle.rtr_sections.proofs.bad_words.first_in.Goals as goal

pub returns-then-first-end : goal.returns-then-first-end
returns-then-first-end c =
    let first = c.first_from-first.ensures c.args.file.now c.requires.firsts in
    sym
    (found_in c.args.file.now c.args.import.now c.args.range.start c.args.range.end c.signatures_at-array.result c.first_from-first.result
    c.signatures_at-array.ensures.place c.requires.within first (omega (arith, c.slot_count.ensures.count)))

pub returns-else-first-end : goal.returns-else-first-end
returns-else-first-end c =
    let first = c.first_from-first.ensures c.args.file.now c.requires.firsts in
    sym
    (none_in c.args.file.now c.args.import.now c.args.range.start c.args.range.end c.signatures_at-array.result c.first_from-first.result
    c.signatures_at-array.ensures.place c.requires.within first (omega (arith, c.slot_count.ensures.count)))

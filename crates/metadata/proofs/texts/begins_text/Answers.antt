use Rattle.std.proofs.Common.{◌+◌, sym, ◌∙◌, arith}
use Rattle.metadata.proofs.Text.{begins_at_ascii, begins_at_lead, begins_at_zero}
use Rattle.metadata.proofs.texts.begins_text.Goals as goal

pub returns-then-first-eq0 : goal.returns-then-first-eq0
returns-then-first-eq0 c = sym (begins_at_zero c.args.heap.now c.args.at c.requires.place c.if-first-eq0.true)

pub returns-then-first-le-LAST_ASCII : goal.returns-then-first-le-LAST_ASCII
returns-then-first-le-LAST_ASCII c =
    c.mark.ensures
    ∙ c.requires.later (c.args.at + 1) (omega arith)
    ∙ sym (begins_at_ascii c.args.heap.now c.args.at c.requires.place (omega arith) (omega arith))

pub returns-else-first-le-LAST_ASCII : goal.returns-else-first-le-LAST_ASCII
returns-else-first-le-LAST_ASCII c =
    c.begins_by_lead.ensures ∙ sym (begins_at_lead c.args.heap.now c.args.at c.requires.place (omega arith))

use Rattle.std.proofs.Common.{rules, ◌≡◌, None, drop, sym, ap, ◌∙◌}
use Rattle.metadata.specs.Heaps.{text_in, text_of}
use Rattle.metadata.proofs.Text.{text_by_zero, text_without_zero}
use Rattle.metadata.proofs.heaps.text_at.Goals as goal

pub returns-in_err-len : goal.returns-in_err-len
returns-in_err-len c =
    let none : text_in (drop c.args.at c.args.heap.now) ≡ None =
    ap text_in (sym c.rest_of-rest.ensures) ∙ text_without_zero c.rest_of-rest.result.now (sym c.in_err-len.ensures) in
    search (rules, none)

pub returns : goal.returns
returns c =
    c.text_of.ensures
    ∙ ap text_of c.front_of.ensures
    ∙ sym (text_by_zero c.rest_of-rest.result.now c.in_ok-len.len (sym c.in_ok-len.ensures))
    ∙ ap text_in c.rest_of-rest.ensures

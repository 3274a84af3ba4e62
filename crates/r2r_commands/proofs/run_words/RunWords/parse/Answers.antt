use Rattle.std.proofs.Common.{map, string_bytes, option_map, sym, ◌∙◌}
use Rattle.r2r_commands.specs.Values.{entry_meaning}
use Rattle.r2r_commands.proofs.RunAt.{all_asked, no_ticks, no_workers}
use Rattle.r2r_commands.proofs.run_words.RunWords.parse.Goals as goal

pub returns-then-not-are_workers : goal.returns-then-not-are_workers
returns-then-not-are_workers c =
    sym (no_workers (map string_bytes c.args.words.now) (sym c.are_given.ensures ∙ c.if-not-are_given.false)
    (sym c.are_workers.ensures ∙ c.if-not-are_workers.true))

pub returns-in_err-ticks : goal.returns-in_err-ticks
returns-in_err-ticks c =
    c.from_residual-in_err-ticks.ensures
    ∙ sym (no_ticks (map string_bytes c.args.words.now) (sym c.are_given.ensures ∙ c.if-not-are_given.false) (sym c.in_err-ticks.ensures))

pub returns : goal.returns
returns c =
    sym (all_asked (map string_bytes c.args.words.now) c.in_ok-image.image.now (option_map entry_meaning c.in_ok-entry.entry)
    c.in_ok-ticks.ticks (sym c.are_given.ensures ∙ c.if-not-are_given.false) (sym c.in_ok-image.ensures) (sym c.in_ok-entry.ensures)
    (sym c.are_workers.ensures ∙ c.if-not-are_workers.false) (sym c.in_ok-ticks.ensures))

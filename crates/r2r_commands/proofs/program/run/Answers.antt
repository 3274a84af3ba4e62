use Rattle.std.proofs.Common.{inl, sym, ◌∙◌}
use Rattle.r2r_commands.proofs.program.run.Goals as goal

pub returns-in-Ok-words_after_name-clause-ran : goal.returns-in-Ok-words_after_name-clause-ran
returns-in-Ok-words_after_name-clause-ran g c =
    let words = c.deref.ensures.value ∙ c.in-Ok-words_after_name.ensures in
    rw (c.in-Ok.is, c.from.ensures, sym words) (inl c.r2r.ensures)

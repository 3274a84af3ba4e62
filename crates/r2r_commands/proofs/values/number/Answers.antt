use Rattle.std.proofs.Common.{sym, ◌∙◌}
use Rattle.r2r_commands.proofs.Spelled.{no_number}
use Rattle.r2r_commands.proofs.values.number.Goals as goal

pub returns-in_err-number : goal.returns-in_err-number
returns-in_err-number c =
    c.from_residual.ensures
    ∙ sym (no_number c.args.word.now c.parse.result c.parse.ensures.value.0 (sym c.in_err-number.ensures.variant))

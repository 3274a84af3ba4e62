use Rattle.std.proofs.Common.{◌∙◌}
use Rattle.rtr_sections.proofs.slots.fixup_at.Goals as goal

pub returns-in_err-fixup : goal.returns-in_err-fixup
returns-in_err-fixup c = c.from_residual.ensures ∙ c.in_err-fixup.ensures.alone

pub returns : goal.returns
returns c = c.in_ok-fixup.ensures.alone

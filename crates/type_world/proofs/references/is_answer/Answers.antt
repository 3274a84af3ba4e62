use Rattle.std.proofs.Common.{sym, ap, ◌∙◌, Some}
use Rattle.type_world.proofs.Chains.{type_is}
use Rattle.type_world.proofs.references.is_answer.Goals as goal

pub returns-in-Some-other : goal.returns-in-Some-other
returns-in-Some-other c =
    λ t. c.in-Some.is ∙ ap Some (type_is c.in-Some.of c.in-Some-other.found (sym c.is_type.ensures ∙ t)) ∙ sym c.in-Some-other.is

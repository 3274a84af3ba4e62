use Rattle.std.proofs.Common.{drop}
use Rattle.std.specs.Prelude.{◌↔◌}
use Rattle.rtr_sections.specs.Plan.{AreInOrder}
use Rattle.rtr_sections.proofs.plan.are_in_order.Given as goal

-- those that are left decide
abbrev pub invariant-loop-function : goal.invariant-loop-function
invariant-loop-function l = AreInOrder l.low (drop l.function-index l.functions) ↔ AreInOrder 0 l.functions

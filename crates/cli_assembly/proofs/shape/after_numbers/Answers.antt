use Rattle.std.proofs.Common.{◌-◌, rules, sym, ◌∙◌, arith}
use Rattle.cli_assembly.specs.Types.{after_number}
use Rattle.cli_assembly.proofs.Numbers.{items_more, items_stop, no_items}
use Rattle.cli_assembly.proofs.shape.after_numbers.Goals as goal

-- src/shape.rt:38:16
pub returns-in_err-rest-clause-after : goal.returns-in_err-rest-clause-after
returns-in_err-rest-clause-after c =
    rw (sym c.loop.invariant.after
    ∙ items_stop after_number c.args.count c.loop.counter c.loop.rest.now (omega arith) (sym c.in_err-rest.ensures.after))
    (search rules)

-- src/shape.rt:37:5
pub loop-preserved : goal.loop-preserved
loop-preserved c = record {
  after =
      items_more after_number c.args.count c.loop.counter c.loop.rest.now c.in_ok-rest.rest.now (omega arith)
      (sym c.in_ok-rest.ensures.after)
      ∙ c.loop.invariant.after;
  no_longer = omega (arith, c.in_ok-rest.ensures.shorter);
}

-- src/shape.rt:31:1
pub returns-clause-after : goal.returns-clause-after
returns-clause-after c =
    sym (no_items after_number (c.args.count - c.loop.counter) c.loop.rest.now (omega arith)) ∙ c.loop.invariant.after

use Rattle.std.proofs.Common.{rules, ◌≡◌, List, Some, ap, refl, sym, ◌∙◌, subst}
use Rattle.import_cells.specs.declared.plan.CellPlan.{CellPlan}
use Rattle.import_cells.specs.declared.event.SeatView.{SeatView}
use Rattle.import_cells.specs.Plan.{In, bound_of, first_of}
use Rattle.import_cells.proofs.Plans.{initial_read}
use Rattle.import_cells.proofs.RuleKept.{exchanges}
use Rattle.import_cells.proofs.SeatLaws.{next_ask}
use Rattle.import_cells.proofs.cells.Cells.bind.Goals as goal

pub compare_exchange-requires : goal.compare_exchange-requires
compare_exchange-requires c =
    let same : c.self.inside.words.shared.key.value.items ≡ c.args.self.now.plan = c.self.invariant.key_is
    ∙ ap (λ s. s.plan) c.self.view_is in
    let seat : c.seat.inside.place.me.0 ≡ c.args.seat.now.view = ap (λ s. s.view) c.seat.view_is in (
      search rules,
      search rules,
      exchanges c.self.inside.words.shared.key.value.items _ _ _ c.args.cell _ _ (search rules) c.seat.invariant.live
          (initial_read c.self.inside.plan.items _ c.args.cell _ c.self.invariant.key_is (search rules) c.index.ensures)
          (subst (λ (p : List CellPlan). bound_of p c.args.cell ≡ Some c.args.value) (sym same) c.requires.value)
          (λ d i. subst (λ (v : SeatView). In v.seen d) (sym seat) (c.requires.first d (subst (λ (p : List CellPlan). In
          (first_of p c.args.cell) d) same i))),
    )

pub returns-clause-event : goal.returns-clause-event
returns-clause-event c = next_ask _ _ _ _ (ap (λ s. s.view) c.seat.view_is) refl c.compare_exchange.ensures.2.2

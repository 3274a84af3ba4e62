use Rattle.std.proofs.Common.{ℕ, List, [], ap, sym, ◌∙◌, subst}
use Rattle.atomic_table.specs.Table.{opening}
use Rattle.import_cells.specs.declared.plan.CellPlan.{CellPlan}
use Rattle.import_cells.specs.Seats.{first_view}
use Rattle.import_cells.specs.Shared.{Kept}
use Rattle.import_cells.proofs.RuleKept.{starts}
use Rattle.import_cells.proofs.SeatsKept.{seat_first}
use Rattle.import_cells.proofs.cells.Cells.new.Goals as goal

pub of_words-requires : goal.of_words-requires
of_words-requires c =
    let plan = ap (λ v. v.items) c.of.ensures ∙ c.in_ok-plan.ensures in
    let words = c.as_slice.ensures.value ∙ c.in_ok-words.ensures in
    subst (λ (z : List ℕ
    × List CellPlan). Kept z.1 (opening z.0 [] (first_view z.1))) (λ i. (sym words i, sym plan i)) (starts c.args.plan.now c.requires)

pub invariant_of-result-2 : goal.invariant_of-result-2
invariant_of-result-2 c = seat_first _ _ c.args.plan.now _ c.in_ok-asked.ensures (ap (λ v. v.items) c.of.ensures
    ∙ c.in_ok-plan.ensures) c.in_ok-words-2.ensures.4

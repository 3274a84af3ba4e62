use Rattle.std.proofs.Common.{rules, ◌≡◌, ℕ, ◌<◌, ◌||◌, Bool, false, List, length, get_or, ap, sym, ◌∙◌, subst}
use Rattle.import_cells.proofs.RuleKept.{joins}
use Rattle.import_cells.proofs.SeatsKept.{whole_slice, seat_joined}
use Rattle.import_cells.proofs.cells.Cells.join.Goals as goal

pub join_seat-requires : goal.join_seat-requires
join_seat-requires c = (search rules, search rules, search rules, search rules, joins _ _ _ _ _ c.seat.invariant.live)

pub invariant_of-seat : goal.invariant_of-seat
invariant_of-seat c =
    let united = subst (λ (z : List Bool × List Bool). (k : ℕ) → k < length z.1
    → get_or c.unite.new.flags k false ≡ (get_or z.0 k false || get_or z.1 k false))
    (λ i. (c.as_mut_slice.ensures.value i, c.as_slice.ensures.value i)) c.unite.ensures in
    let plans = ap (λ s. s.view.plan) c.other.view_is ∙ (c.requires.other.1 ∙ (sym c.requires.seat.1
    ∙ sym (ap (λ s. s.view.plan) c.seat.view_is))) in
    seat_joined _ c.unite.new.flags c.other.inside.asked.items c.seat.inside.place c.other.inside.place c.join_seat.new.seat
    (whole_slice _ _ _ (search rules)) plans
    c.seat.inside.asked.items (search rules) united c.seat.invariant c.other.invariant c.join_seat.ensures.2

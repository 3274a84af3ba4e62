use Rattle.std.proofs.Common.{rules, ◌≡◌, ◌≤◌, ap, sym, subst}
use Rattle.import_cells.specs.declared.event.SeatView.{SeatView}
use Rattle.import_cells.proofs.RuleKept.{splits}
use Rattle.import_cells.proofs.cells.Cells.split.Goals as goal

pub split_seat-place-requires : goal.split_seat-place-requires
split_seat-place-requires c =
    let seat : c.seat.inside.place.me.0 ≡ c.args.seat.now.view = ap (λ s. s.view) c.seat.view_is in
    (search rules, search rules, splits _ _ _ (subst (λ (v : SeatView). 2 ≤ v.share) (sym seat) c.requires.share))

use Rattle.std.proofs.Common.{◌≡◌, ap, subst}
use Rattle.import_cells.specs.Seated.{Remembers}
use Rattle.import_cells.specs.Seats.{Run}
use Rattle.import_cells.proofs.RuleKept.{run_at}
use Rattle.import_cells.proofs.Flags.{set_where_seen, set_where_ready, set_exactly}
use Rattle.import_cells.proofs.cells.Cells.close.Goals as goal

pub returns-clause-seen : goal.returns-clause-seen
returns-clause-seen c =
    let e : c.seat.inside.place.me.0 ≡ c.args.seat.view = ap (λ s. s.view) c.seat.view_is in
    let f = c.close_with.ensures.values.2 in
    let run = subst Run e (run_at _ f.0 _ _ f.1.0 f.1.1 c.seat.invariant.live) in
    set_where_seen c.seat.inside.asked.items _ run (subst
    (Remembers c.seat.inside.asked.items) e c.seat.invariant.remembers) c.requires.share

pub returns-clause-ready : goal.returns-clause-ready
returns-clause-ready c =
    let e : c.seat.inside.place.me.0 ≡ c.args.seat.view = ap (λ s. s.view) c.seat.view_is in
    let f = c.close_with.ensures.values.2 in
    let run = subst Run e (run_at _ f.0 _ _ f.1.0 f.1.1 c.seat.invariant.live) in
    set_where_ready c.seat.inside.asked.items _ run (subst
    (Remembers c.seat.inside.asked.items) e c.seat.invariant.remembers) c.requires.share _ c.requires.seat.1

pub returns-clause-all : goal.returns-clause-all
returns-clause-all c =
    let e : c.seat.inside.place.me.0 ≡ c.args.seat.view = ap (λ s. s.view) c.seat.view_is in
    let f = c.close_with.ensures.values.2 in
    let run = subst Run e (run_at _ f.0 _ _ f.1.0 f.1.1 c.seat.invariant.live) in (
      run,
      set_exactly c.seat.inside.asked.items _ run (subst
          (Remembers c.seat.inside.asked.items) e c.seat.invariant.remembers) c.requires.share _ c.requires.seat.1,
    )

-- What the rule says of the words and the views.
use Rattle.std.proofs.Common.{◌≡◌, ◌≢◌, ℕ, ◌+◌, ◌<◌, ◌⊎◌, ⊎_elim, List, length, get_or, Some, sym, ◌∙◌, subst}
use Rattle.atomic_table.specs.Table.{State}
use Rattle.import_cells.specs.declared.plan.CellPlan.{CellPlan}
use Rattle.import_cells.specs.declared.event.SeatView.{SeatView}
use Rattle.import_cells.specs.Plan.{In, initial_of, bound_of}
use Rattle.import_cells.specs.Core.{word_after, asked_after}
use Rattle.import_cells.specs.Shared.{Kept, Parts}
use Rattle.import_cells.proofs.Plans.{can_from, bindable_inside}
use Rattle.import_cells.proofs.CoreLaws.{word_either, asked_is_bound, new_was_asked, ready_was_asked}

module _ (plan : List CellPlan) (s : State (Unit {0}) SeatView) (r : Kept plan s) where
  -- a cell that was asked holds its bound value
  holds_bound : (c : ℕ) → In (asked_after plan r.events) c → bound_of plan c ≡ Some (get_or s.words (c + 1) 0)
  holds_bound c i =
      let b = asked_is_bound plan r.events r.core c i in
      subst (λ n. bound_of plan c ≡ Some n) (sym (r.words c (bindable_inside plan c (can_from plan c (word_after plan r.events c) b)))) b

  was_asked : (c : ℕ) → c < length plan → get_or s.words (c + 1) 0 ≢ initial_of plan c → In (asked_after plan r.events) c
  was_asked c inside n = new_was_asked plan r.events c (λ e. n (r.words c inside ∙ e))

  pub says : Parts plan s
  says = record {
    word = λ c inside. subst (λ n. (n ≡ initial_of plan c)
        ⊎ (bound_of plan c ≡ Some n)) (sym (r.words c inside)) (word_either plan r.events c);
    bound = λ id c v at i. holds_bound c (⊎_elim (λ j. (r.views id v at).asked c j) (λ j. (r.views id v at).seen c j) i);
    new = λ c inside n. r.askers c (was_asked c inside n);
    ready = λ c e. r.askers c (ready_was_asked plan r.events c e);
    seen = λ id c v at i. r.askers c ((r.views id v at).seen c i);
    first = λ c d inside n f. (let i = r.closed c d (was_asked c inside n) f in (r.askers d i, holds_bound d i));
    shared = r.shared;
    spent = λ id v at none. (r.views id v at).spent none;
  }

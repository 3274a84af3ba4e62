-- What a seat knows after its calls, and that their answers are allowed.
use Rattle.std.proofs.Common.{◌≡◌, ℕ, ◌+◌, ◌-◌, ◌++◌, ◌↔◌, ◌⊎◌, inl, inr, ⊎_elim, true, false, arith, List, [], ◌∷◌}
use Rattle.std.proofs.Common.{Some, sym, refl, ap, ◌∙◌, subst}
use mathlib.Core.Logic.{dite}
use native.Mathlib.Decide.{ℕ_discrete}
use Rattle.import_cells.specs.declared.plan.CellPlan.{CellPlan}
use Rattle.import_cells.specs.declared.event.CellEvent.{CellEvent}
use Rattle.import_cells.specs.declared.event.CellEvent.TheVariants.{Loaded, Asked}
use Rattle.import_cells.specs.declared.event.SeatView.{SeatView}
use Rattle.import_cells.specs.Plan.{In, initial_of, bound_of, is_eager, IsReady}
use Rattle.import_cells.specs.Core.{asks, asked_on, word_after, asked_after, shown_by, shown, IsAllowed, Allowed}
use Rattle.import_cells.specs.Seats.{after_event, after_events, Run, IsNext, Answer}
use Rattle.import_cells.specs.Laws.{Knows, Replies, Called, BeginsAlone, FirstSeat}
use Rattle.import_cells.proofs.Plans.{in_ready, ready_in}
use Rattle.import_cells.proofs.Lists.{in_front, in_back, in_either}
use Rattle.import_cells.proofs.CoreLaws.{word_either, asked_is_bound, new_was_asked, ready_was_asked}

-- the answer of a load that is the core's next event
pub next_answer : (v : SeatView) (c a : ℕ) → IsNext v (Loaded c a) → Answer v c a
next_answer v c a next =
    let r : Run v = next.0 in
    let is : a ≡ word_after v.plan r.events c = next.1 in
    let bound = λ (i : In (asked_after v.plan r.events) c).
    subst (λ n. bound_of v.plan c ≡ Some n) (sym is) (asked_is_bound v.plan r.events r.core c i) in
    record {
      word = subst (λ n. (n ≡ initial_of v.plan c) ⊎ (bound_of v.plan c ≡ Some n)) (sym is) (word_either v.plan r.events c);
      ready = λ e. bound (ready_was_asked v.plan r.events c e);
      known = λ k. bound (⊎_elim (λ i. r.asked c i) (λ i. r.seen c i) k);
      alone = λ all no. is ∙ dite (ℕ_discrete (word_after v.plan r.events c) (initial_of v.plan c)) (λ e. e)
          (λ n. absurd (no (r.alone all c (new_was_asked v.plan r.events c n))));
    }

-- one event more, for the cells that were asked
step_asked : (x : CellEvent) (l : List CellEvent) (was mine : List ℕ) (c : ℕ) → In mine c ↔ (In (asks l) c ⊎ In was c)
    → In (asked_on x mine) c ↔ (In (asks (x ∷ l)) c ⊎ In was c)
step_asked (Loaded d a) l was mine c h = h
step_asked (Asked d) l was mine c h = (there, back)
  where
    there : (c ≡ d) ⊎ In mine c → ((c ≡ d) ⊎ In (asks l) c) ⊎ In was c
    there (inl e) = inl (inl e)
    there (inr i) = ⊎_elim (λ q. inl (inr q)) (λ q. inr q) (h.0 i)

    back : ((c ≡ d) ⊎ In (asks l) c) ⊎ In was c → (c ≡ d) ⊎ In mine c
    back (inl (inl e)) = inl e
    back (inl (inr q)) = inr (h.1 (inl q))
    back (inr q) = inr (h.1 (inr q))

-- the same for the cells xs that it shows
step_seen : (xs ys was mine : List ℕ) (c : ℕ) → In mine c ↔ (In ys c ⊎ In was c) → In (xs ++ mine) c ↔ (In (xs ++ ys) c ⊎ In was c)
step_seen xs ys was mine c h = (λ i. there (in_either xs mine c i), back)
  where
    there : In xs c ⊎ In mine c → In (xs ++ ys) c ⊎ In was c
    there (inl i) = inl (in_front xs ys c i)
    there (inr i) = ⊎_elim (λ q. inl (in_back xs ys c q)) (λ q. inr q) (h.0 i)

    either : In xs c ⊎ In ys c → In (xs ++ mine) c
    either (inl i) = in_front xs mine c i
    either (inr i) = in_back xs mine c (h.1 (inl i))

    back : In (xs ++ ys) c ⊎ In was c → In (xs ++ mine) c
    back (inl i) = either (in_either xs ys c i)
    back (inr i) = in_back xs mine c (h.1 (inr i))

none_more : (was : List ℕ) (c : ℕ) → In was c ↔ (In [] c ⊎ In was c)
none_more was c = (λ i. inr i, λ e. ⊎_elim (λ i. absurd i) (λ i. i) e)

pub knows : (v : SeatView) (l : List CellEvent) → Knows v l (after_events v l)
knows v [] = record { plan = refl; share = refl; log = refl; asked = none_more v.asked; seen = none_more v.seen }
knows v (x ∷ l) = more (after_events v l) (knows v l)
  where
    more : (m : SeatView) → Knows v l m → Knows v (x ∷ l) (after_event m x)
    more m k = record {
      plan = k.plan;
      share = k.share;
      log = ap (λ (z : List CellEvent). x ∷ z) k.log;
      asked = λ c. step_asked x l v.asked m.asked c (k.asked c);
      seen = λ c. subst (λ (p : List CellPlan). In (shown_by p x ++ m.seen) c ↔ (In (shown_by v.plan x ++ shown v.plan l) c ⊎ In v.seen c))
          (sym k.plan) (step_seen (shown_by v.plan x) (shown v.plan l) v.seen m.seen c (k.seen c));
    }

pub called : (v : SeatView) (l : List CellEvent) (v' : SeatView) → Called v l v' → v' ≡ after_events v l
called v [] v' h = h
called v (x ∷ l) v' h = h.2.1 ∙ ap (λ (m : SeatView). after_event m x) (called v l h.0 h.1)

pub allowed : (v : SeatView) (l : List CellEvent) (v' : SeatView) → Called v l v' → Allowed v.plan (BeginsAlone v) l
allowed v [] v' h = tt
allowed v (x ∷ l) v' h = (by x (subst (λ (m : SeatView). Replies m x) (called v l h.0 h.1) h.2.0) (knows v l), allowed v l h.0 h.1)
  where
    by : (y : CellEvent) → Replies (after_events v l) y → Knows v l (after_events v l) → IsAllowed v.plan (BeginsAlone v) l y
    by (Asked c) r k = tt
    by (Loaded c a) r k =
        let q = subst (λ (p : List CellPlan). (a ≡ initial_of p c) ⊎ (bound_of p c ≡ Some a)) k.plan r.word in
        record {
          word = q;
          ready = subst (λ (p : List CellPlan). IsReady p c → bound_of p c ≡ Some a) k.plan r.ready;
          shown = λ i. subst (λ (p : List CellPlan). bound_of p c ≡ Some a) k.plan (r.known (inr ((k.seen c).1 (inl i))));
          untouched = λ begins lazy no. subst (λ (p : List CellPlan). a ≡ initial_of p c) k.plan
              (r.alone (k.share ∙ begins.0) (λ i. ⊎_elim (λ j. no j) (λ j. lazy_asked c lazy (begins.1 c j)) ((k.asked c).0 i)));
        }
      where
        lazy_asked : (d : ℕ) → is_eager v.plan d ≡ false → is_eager v.plan d ≡ true → ⊥
        lazy_asked d p q = let e : false ≡ true = sym p ∙ q in cc

pub first_seat : FirstSeat
first_seat plan = ((refl, λ c i. (in_ready plan c i).0), λ c r. ready_in plan c r)

-- the same of the step on word k
pub next_from : (v m : SeatView) (c a k : ℕ) → m ≡ v → k ≡ c + 1 → IsNext m (Loaded (k - 1) a) → IsNext v (Loaded c a)
next_from v m c a k e is next = subst (λ (z : SeatView). IsNext z (Loaded c a)) e (subst (λ n. IsNext m (Loaded n a)) (omega arith) next)

pub next_ask : (v m : SeatView) (c k : ℕ) → m ≡ v → k ≡ c + 1 → IsNext m (Asked (k - 1)) → IsNext v (Asked c)
next_ask v m c k e is next = subst (λ (z : SeatView). IsNext z (Asked c)) e (subst (λ n. IsNext m (Asked n)) (omega arith) next)

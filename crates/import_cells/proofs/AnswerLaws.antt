-- The answers of each worker are allowed.
use Rattle.std.proofs.Common.{◌≡◌, ℕ, ◌==◌, ◌⊎◌, inl, inr, Bool, true, false, List, [], ◌∷◌, Some, sym, refl, ap, ◌∙◌}
use Rattle.std.proofs.Common.{subst, eq-eqb, if◌then◌else◌}
use mathlib.Core.Logic.{dite}
use native.Mathlib.Decide.{ℕ_discrete}
use Rattle.import_cells.specs.declared.plan.CellPlan.{CellPlan}
use Rattle.import_cells.specs.declared.event.CellEvent.{CellEvent}
use Rattle.import_cells.specs.declared.event.CellEvent.TheVariants.{Loaded, Asked}
use Rattle.import_cells.specs.Plan.{In, initial_of, bound_of, is_eager, IsPlan}
use Rattle.import_cells.specs.Core.{WorkerEvent, asks, asked_on, of_worker, word_after, asked_after, IsCoreEvent}
use Rattle.import_cells.specs.Core.{IsCore, AsksInOrder, AllowedAnswer, IsAllowed, Allowed, OnlyAsker, OneOf, Quiet}
use Rattle.import_cells.proofs.Plans.{in_ready}
use Rattle.import_cells.proofs.CoreLaws.{word_either, asked_is_bound, new_was_asked, ready_was_asked, shown_is_bound}

asks_more : (x : CellEvent) (l : List CellEvent) (c : ℕ) → In (asks l) c → In (asks (x ∷ l)) c
asks_more (Loaded d a) l c i = i
asks_more (Asked d) l c i = inr i

module _ (plan : List CellPlan) where
  -- where only the worker asked cells that aren't eager, it asked each that was asked
  own_asks : (es : List WorkerEvent) (w c : ℕ) → OnlyAsker plan w es → is_eager plan c ≡ false → In (asked_after plan es) c
      → In (asks (of_worker w es)) c
  own_asks [] w c o lazy i = let e : true ≡ false = sym (in_ready plan c i).0 ∙ lazy in cc
  own_asks (e ∷ es) w c o lazy i = by e.event refl i (λ j. skip (e.worker == w) (own_asks es w c o.1 lazy j))
    where
      skip : (b : Bool) → In (asks (of_worker w es)) c → In (asks (if b then e.event ∷ of_worker w es else of_worker w es)) c
      skip true k = asks_more e.event (of_worker w es) c k
      skip false k = k

      by : (x : CellEvent) → e.event ≡ x → In (asked_on x (asked_after plan es)) c → (In (asked_after plan es) c
          → In (asks (of_worker w (e ∷ es))) c) → In (asks (of_worker w (e ∷ es))) c
      by (Loaded d a) q j before = before j
      by (Asked d) q (inl p) before =
          let it : e.event ≡ Asked c = q ∙ ap Asked (sym p) in
          subst (λ (b : Bool). In (asks (if b then e.event ∷ of_worker w es else of_worker w es)) c) (sym (eq-eqb e.worker w
          (o.0 c it lazy)))
          (subst (λ (x : CellEvent). In (asks (x ∷ of_worker w es)) c) (sym it) (inl refl))
      by (Asked d) q (inr j) before = before j

  -- a load's answer
  pub fits : IsPlan plan → (es : List WorkerEvent) → IsCore plan es → AsksInOrder plan es → (w c a : ℕ)
      → a ≡ word_after plan es c → AllowedAnswer plan (OnlyAsker plan w es) (of_worker w es) c a
  fits sound es k o w c a is = record {
    word = subst (λ n. (n ≡ initial_of plan c) ⊎ (bound_of plan c ≡ Some n)) (sym is) (word_either plan es c);
    ready = λ r. subst (λ n. bound_of plan c ≡ Some n) (sym is) (asked_is_bound plan es k c (ready_was_asked plan es c r));
    shown = λ i. subst (λ n. bound_of plan c ≡ Some n) (sym is) (shown_is_bound plan sound es k o w c i);
    untouched = λ only lazy no. is
        ∙ dite (ℕ_discrete (word_after plan es c) (initial_of plan c)) (λ e. e) (λ n. absurd (no (own_asks es w c only lazy
        (new_was_asked plan es c n))));
  }

  pub calmer : {P Q : Type 0} → (P → Q) → (l : List CellEvent) → Allowed plan Q l → Allowed plan P l
  calmer f [] h = tt
  calmer {P} {Q} f (x ∷ l) h = (by x h.0, calmer f l h.1)
    where
      by : (y : CellEvent) → IsAllowed plan Q l y → IsAllowed plan P l y
      by (Loaded c a) g = record { word = g.word; ready = g.ready; shown = g.shown; untouched = λ p. g.untouched (f p) }
      by (Asked c) g = tt

  only_is_quiet : (w : ℕ) (es : List WorkerEvent) → OnlyAsker plan w es → Quiet plan w es
  only_is_quiet w [] o = tt
  only_is_quiet w (e ∷ es) o = by (e.worker == w) (only_is_quiet w es o.1)
    where
      by : (b : Bool) → Quiet plan w es → OneOf b (OnlyAsker plan w es) (Quiet plan w es)
      by true q = o.1
      by false q = q

  pub each_allowed : IsPlan plan → (es : List WorkerEvent) → IsCore plan es → AsksInOrder plan es → (w : ℕ)
      → Allowed plan (Quiet plan w es) (of_worker w es)
  each_allowed sound [] k o w = tt
  each_allowed sound (e ∷ es) k o w = by (e.worker == w) (each_allowed sound es k.1 o.1 w)
    where
      own : (x : CellEvent) → IsCoreEvent plan es x → IsAllowed plan (OnlyAsker plan w es) (of_worker w es) x
      own (Loaded c a) is = fits sound es k.1 o.1 w c a is
      own (Asked c) can = tt

      by : (b : Bool) → Allowed plan (Quiet plan w es) (of_worker w es)
          → Allowed plan (OneOf b (OnlyAsker plan w es) (Quiet plan w es)) (if b then e.event ∷ of_worker w es else of_worker w es)
      by true before = (own e.event k.0, calmer (only_is_quiet w es) (of_worker w es) before)
      by false before = before

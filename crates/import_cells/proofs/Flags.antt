-- The flags in which a seat remembers what was asked.
use Rattle.std.proofs.Common.{◌≡◌, ℕ, ◌+◌, ◌<◌, ◌≤◌, ◌||◌, ◌⊎◌, inl, inr, ⊎_elim, ◌↔◌, Bool, true, false, List, map}
use Rattle.std.proofs.Common.{length, get_or, set, sym, refl, ap, ◌∙◌, subst, arith, length-set, get_or-set_same}
use Rattle.std.proofs.Common.{get_or-set_other}
use mathlib.Core.Logic.{dite}
use native.Mathlib.Decide.{ℕ_discrete}
use Rattle.std.proofs.lemmas.List.{length-map}
use Rattle.import_cells.specs.declared.plan.CellPlan.{CellPlan}
use Rattle.import_cells.specs.declared.event.SeatView.{SeatView}
use Rattle.import_cells.specs.Plan.{In, is_ready, IsReady}
use Rattle.import_cells.specs.Core.{word_after, asked_after}
use Rattle.import_cells.specs.Seats.{whole, first_view, joined, Run}
use Rattle.import_cells.specs.Seated.{Remembers}
use Rattle.import_cells.proofs.Lists.{in_front, in_back, in_either}
use Rattle.import_cells.proofs.Plans.{ready_in, in_ready, can_from, bindable_inside, ready_flag}
use Rattle.import_cells.proofs.CoreLaws.{asked_is_bound, ready_was_asked}

-- ---- one list of flags set by another

pub record Unites (old others : List Bool) (n : ℕ) (flags : List Bool) : Type 0 where
  pub count : length flags ≡ length others
  pub done : (c : ℕ) → c < n → get_or flags c false ≡ (get_or old c false || get_or others c false)
  pub left : (c : ℕ) → n ≤ c → get_or flags c false ≡ get_or old c false

pub unites_none : (old others : List Bool) → length old ≡ length others → Unites old others 0 old
unites_none old others e = record { count = e; done = λ c h. absurd (omega arith); left = λ c h. refl }

or_true : (b c : Bool) → c ≡ true → true ≡ (b || c)
or_true true c e = refl
or_true false c e = sym e

or_false : (b c : Bool) → c ≡ false → b ≡ (b || c)
or_false true c e = refl
or_false false c e = sym e

pub unites_more : (old others : List Bool) (n : ℕ) (flags : List Bool) → n < length others → get_or others n false ≡ true
    → Unites old others n flags → Unites old others (n + 1) (set flags n true)
unites_more old others n flags inside e u = let count = u.count in record {
  count = length-set flags n true ∙ count;
  done = λ c h. dite (ℕ_discrete c n)
      (λ same. subst (λ k. get_or (set flags n true) k false ≡ (get_or old k false || get_or others k false)) (sym same)
      (get_or-set_same flags n true false (omega arith) ∙ or_true (get_or old n false) (get_or others n false) e))
      (λ other. get_or-set_other flags n c true false other ∙ u.done c (omega arith));
  left = λ c h. get_or-set_other flags n c true false (λ e. omega arith) ∙ u.left c (omega arith);
}

pub unites_other : (old others : List Bool) (n : ℕ) (flags : List Bool) → get_or others n false ≡ false
    → Unites old others n flags → Unites old others (n + 1) flags
unites_other old others n flags e u = record {
  count = u.count;
  done = λ c h. dite (ℕ_discrete c n)
      (λ same. subst (λ k. get_or flags k false ≡ (get_or old k false || get_or others k false)) (sym same) (u.left n
      (omega arith) ∙ or_false (get_or old n false) (get_or others n false) e))
      (λ other. u.done c (omega arith));
  left = λ c h. u.left c (omega arith);
}

-- ---- what a seat remembers

or_either : (a b : Bool) → (a || b) ≡ true → (a ≡ true) ⊎ (b ≡ true)
or_either true b e = inl refl
or_either false b e = inr e

or_left : (a b : Bool) → a ≡ true → (a || b) ≡ true
or_left true b e = refl
or_left false b e = cc

or_right : (a b : Bool) → b ≡ true → (a || b) ≡ true
or_right true b e = refl
or_right false b e = e

pub remembers_both : (flags old others : List Bool) (v u : SeatView) → length flags ≡ length old → u.plan ≡ v.plan
    → ((c : ℕ) → c < length others → get_or flags c false ≡ (get_or old c false || get_or others c false)) → Remembers old v
    → Remembers others u → Remembers flags (joined v u)
remembers_both flags old others v u same p united r q = let count = r.count in let more = q.count in let lengths = ap length p in record {
  count = same ∙ count;
  each = λ c h. let is = united c (omega arith) in let h' : c < length u.plan = omega arith in (
    (λ e. ⊎_elim (λ a. in_front v.asked u.asked c ((r.each c h).0 a)) (λ b. in_back v.asked u.asked c ((q.each c h').0 b))
        (or_either (get_or old c false) (get_or others c false) (sym is ∙ e))),
    λ i. is ∙ ⊎_elim (λ j. or_left (get_or old c false) (get_or others c false) ((r.each c h).1 j)) (λ j. or_right
        (get_or old c false) (get_or others c false) ((q.each c h').1 j)) (in_either v.asked u.asked c i),
  );
}

pub remembers_ready : (plan : List CellPlan) → Remembers (map is_ready plan) (first_view plan)
remembers_ready plan = record {
  count = length-map plan is_ready;
  each = λ c h. ((λ e. ready_in plan c ((ready_flag plan c h).0 e)), λ i. (ready_flag plan c h).1 (in_ready plan c i));
}

-- ---- the flags at the end

module _ (flags : List Bool) (v : SeatView) (r : Run v) (kept : Remembers flags v) (all : v.share ≡ whole) where
  set_where_asked : (c : ℕ) → In (asked_after v.plan r.events) c → get_or flags c false ≡ true
  set_where_asked c i =
      let bound = asked_is_bound v.plan r.events r.core c i in
      (kept.each c (bindable_inside v.plan c (can_from v.plan c (word_after v.plan r.events c) bound))).1 (r.alone all c i)

  pub set_where_seen : (c : ℕ) → In v.seen c → get_or flags c false ≡ true
  set_where_seen c i = set_where_asked c (r.seen c i)

  pub set_where_ready : (plan : List CellPlan) → v.plan ≡ plan → (c : ℕ) → IsReady plan c → get_or flags c false ≡ true
  set_where_ready plan e c i = set_where_asked c (ready_was_asked v.plan r.events c (subst (λ (p : List CellPlan). IsReady p c) (sym e) i))

  pub set_exactly : (plan : List CellPlan) → v.plan ≡ plan → (c : ℕ) → c < length plan
      → (get_or flags c false ≡ true) ↔ In (asked_after plan r.events) c
  set_exactly plan e = subst (λ (p : List CellPlan). (c : ℕ) → c < length p
      → (get_or flags c false ≡ true) ↔ In (asked_after p r.events) c) e
      (λ c h. ((λ s. r.asked c ((kept.each c h).0 s)), set_where_asked c))

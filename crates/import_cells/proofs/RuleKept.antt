-- Each step keeps the rule.
use Rattle.std.proofs.Common.{◌≡◌, ◌≢◌, ℕ, zero, suc, ◌+◌, ◌-◌, ◌<◌, ◌≤◌, eqb, ⊎_elim, List, [], ◌∷◌, map, length}
use Rattle.std.proofs.Common.{get_or, set, Some, sym, refl, ap, ◌∙◌, subst, arith, length-set, get_or-set_same}
use Rattle.std.proofs.Common.{get_or-set_other}
use mathlib.Core.Logic.{dite}
use mathlib.Core.Option.{none, some, some-injective, some-ne-none}
use native.Mathlib.Decide.{ℕ_discrete}
use lib.ListN.{get_elem?}
use lib.Seq.{set-get_or}
use prog.Atomic.{either}
use Rattle.std.proofs.lemmas.List.{length-append, length-map}
use Rattle.atomic_table.specs.Table.{State, step, keeps, Allows, Splits, Joins, opening}
use Rattle.atomic_table.proofs.Lists.{set_here, set_else, at_longer, exchanged}
use Rattle.import_cells.specs.declared.plan.CellPlan.{CellPlan}
use Rattle.import_cells.specs.declared.event.CellEvent.{CellEvent}
use Rattle.import_cells.specs.declared.event.CellEvent.TheVariants.{Loaded, Asked}
use Rattle.import_cells.specs.declared.event.SeatView.{SeatView}
use Rattle.import_cells.specs.Plan.{In, opening_in, initial_of, bound_of, first_of, IsPlan}
use Rattle.import_cells.specs.Core.{WorkerEvent, asked_on, of_worker, value_of, word_by, word_after, asked_after}
use Rattle.import_cells.specs.Core.{IsCoreEvent, ComesAfterFirst, shown_by}
use Rattle.import_cells.specs.Seats.{whole, first_view, after_event, kept_half, given_half, joined, spent_view, Run, IsNext}
use Rattle.import_cells.specs.Shared.{AskedBySome, IsView, Kept, Sitter, loaded, asked}
use Rattle.import_cells.proofs.Lists.{in_front, in_back, in_either, where_equal, where_other}
use Rattle.import_cells.proofs.Plans.{can_from, value_from, in_ready, eager_is_first, opening_at}
use Rattle.import_cells.proofs.CoreLaws.{on_more, on_new, on_either, word_either, asked_is_bound, event_shows_asked}
use Rattle.import_cells.proofs.Views.{at_below, at_one, at_end, after_set, shares_set, shares_end, two_shares, some_set}

abbrev St : Type 0
St = State (Unit {0}) SeatView

-- the table after a step of one seat
abbrev next_state : St → List ℕ → ℕ → SeatView → St
next_state s ws id w = record { words = ws; homes = s.homes; views = set s.views id w }

-- ---- what the rule says to one seat

-- with the whole share a seat has asked whatever was asked
alone_asked : (plan : List CellPlan) (s : St) (r : Kept plan s) (id : ℕ) (v : SeatView) → get_elem? s.views id ≡ some v → v.share ≡ whole
    → (c : ℕ) → In (asked_after plan r.events) c → In v.asked c
alone_asked plan s r id v at all c i = let t = r.askers c i in dite (ℕ_discrete t.0 id)
    (λ same. subst (λ (u : SeatView). In u.asked c) (sym (at_one s.views id v t.1 at (subst
    (λ k. get_elem? s.views k ≡ some t.1) same t.2))) t.3)
    (λ other.
    let two = two_shares s.views id t.0 v t.1 at t.2 other in
    let sum = r.shared in
    let nothing : t.1.share ≡ 0 = omega arith in
    absurd (subst (λ (l : List ℕ). In l c) (((r.views t.0 t.1 t.2).spent nothing).0) t.3))

abbrev run_here : (s : St) (id : ℕ) (v : SeatView) → Kept v.plan s → get_elem? s.views id ≡ some v → 0 < v.share → Run v
run_here s id v r at live = record {
  worker = id;
  events = r.events;
  core = r.core;
  order = r.order;
  log = (r.views id v at).log live;
  asked = (r.views id v at).asked;
  seen = (r.views id v at).seen;
  alone = alone_asked v.plan s r id v at;
}

-- the rule, at the plan that the seat knows
abbrev own_rule : (plan : List CellPlan) (s : St) (id : ℕ) (v : SeatView) → Kept plan s → get_elem? s.views id ≡ some v
    → 0 < v.share → (v.plan ≡ plan) × Kept v.plan s
own_rule plan s id v r at live = let e = (r.views id v at).plan_is live in (e, subst (λ (p : List CellPlan). Kept p s) (sym e) r)

pub run_at : (plan : List CellPlan) (s : St) (id : ℕ) (v : SeatView) → Kept plan s → get_elem? s.views id ≡ some v → 0 < v.share → Run v
run_at plan s id v r at live = run_here s id v (own_rule plan s id v r at live).1 at live

-- ---- one event more

module _ (id : ℕ) (v : SeatView) (x : CellEvent) where
  abbrev plan : List CellPlan
  plan = v.plan

  abbrev w : SeatView
  w = after_event v x

  abbrev it : WorkerEvent
  it = record { worker = id; event = x }

  askers_on : (l : List SeatView) (es : List WorkerEvent) → get_elem? l id ≡ some v → ((c : ℕ) → In (asked_after plan es) c
      → AskedBySome l c)
      → (c : ℕ) → In (asked_on x (asked_after plan es)) c → AskedBySome (set l id w) c
  askers_on l es at askers c i = ⊎_elim (λ j. (id, w, set_here l id w (at_below l id v at), on_new x v.asked c j))
      (λ j. some_set l id v w c at (on_more x v.asked c) (askers c j)) (on_either x (asked_after plan es) c i)

  closed_on : (es : List WorkerEvent) → ((c d : ℕ) → In (asked_after plan es) c → In (first_of plan c) d → In (asked_after plan es) d)
      → ((c d : ℕ) → In (asked_on x []) c → In (first_of plan c) d → In (asked_after plan es) d)
      → (c d : ℕ) → In (asked_on x (asked_after plan es)) c → In (first_of plan c) d → In (asked_on x (asked_after plan es)) d
  closed_on es closed first c d i f = on_more x (asked_after plan es) d (⊎_elim (λ j. first c d j f) (λ j. closed c d j f)
      (on_either x (asked_after plan es) c i))

  view_on : (es : List WorkerEvent) (j : ℕ) (u : SeatView) → j ≢ id → IsView plan es j u → IsView plan (it ∷ es) j u
  view_on es j u other h = record {
    plan_is = h.plan_is;
    log = λ live. where_other (λ (l : List CellEvent). l ≡ u.log) id j (x ∷ of_worker j es) (of_worker j es) (λ e. other (sym e))
        (h.log live);
    asked = λ c i. on_more x (asked_after plan es) c (h.asked c i);
    seen = λ c i. on_more x (asked_after plan es) c (h.seen c i);
    spent = h.spent;
  }

  own_view : (es : List WorkerEvent) → 0 < v.share → ((c : ℕ) → In (shown_by plan x) c → In (asked_on x (asked_after plan es)) c)
      → IsView plan es id v → IsView plan (it ∷ es) id w
  own_view es live shows h = record {
    plan_is = λ _. refl;
    log = λ _. where_equal (λ (l : List CellEvent). l ≡ x ∷ v.log) id id (x ∷ of_worker id es) (of_worker id es) refl (ap (λ
        (l : List CellEvent). x ∷ l) (h.log live));
    asked = λ c i. ⊎_elim (λ j. on_new x (asked_after plan es) c j) (λ j. on_more x (asked_after plan es) c (h.asked c j))
        (on_either x v.asked c i);
    seen = λ c i. ⊎_elim (λ j. shows c j) (λ j. on_more x (asked_after plan es) c (h.seen c j)) (in_either (shown_by plan x) v.seen c i);
    spent = λ none. absurd (omega arith);
  }

  moved : (s : St) (r : Kept plan s) → get_elem? s.views id ≡ some v → 0 < v.share → IsCoreEvent plan r.events x
      → ComesAfterFirst plan r.events x
      → ((c d : ℕ) → In (asked_on x []) c → In (first_of plan c) d → In (asked_after plan r.events) d)
      → (ws : List ℕ) → length ws ≡ length plan + 1 → get_or ws 0 0 ≡ 0 → ((c : ℕ) → c < length plan
      → get_or ws (c + 1) 0 ≡ word_by plan x c (word_after plan r.events c))
      → Kept plan (next_state s ws id w)
  moved s r at live core order first ws count unused words = record {
    sound = r.sound;
    events = it ∷ r.events;
    core = (core, r.core);
    order = (order, r.order);
    count = count;
    unused = unused;
    words = words;
    closed = closed_on r.events r.closed first;
    askers = askers_on s.views r.events at r.askers;
    views = after_set (IsView plan (it ∷ r.events)) s.views id w
        (own_view r.events live (event_shows_asked plan r.events r.closed x core) (r.views id v at))
        (λ j u other at'. view_on r.events j u other (r.views j u at'));
    shared = (let sum = shares_set s.views id v w at in let was = r.shared in omega arith);
    unborn = λ j h. (let below = at_below s.views id v at in let same = length-set s.views id w in
        where_other (λ (l : List CellEvent). l ≡ []) id j (x ∷ of_worker j r.events) (of_worker j r.events) (λ e. omega arith)
        (r.unborn j (omega arith)));
  }

-- ---- the steps

pub loads : (plan : List CellPlan) (slots id : ℕ) (me : Sitter) (c : ℕ) → c < length plan → 0 < me.0.share
    → Allows (Kept plan) slots id me (c + 1) (λ n. n) (loaded (step slots (c + 1) 0 0 none) me)
loads plan slots id me c inside live s r' _ at _ =
    let own = own_rule plan s id me.0 r' at live in
    let r = own.1 in
    let a : ℕ = get_or s.words (c + 1) 0 in
    let w : SeatView = after_event me.0 (Loaded c a) in
    let is : a ≡ word_after me.0.plan r.events c = r.words c (subst (λ (p : List CellPlan). c < length p) (sym own.0) inside) in
    let back : c ≡ (c + 1) - 1 = omega arith in
    let kept = moved id me.0 (Loaded c a) s r at live is tt (λ b d i. absurd i) s.words r.count r.unused r.words in (
      w,
      keeps,
      tt,
      subst (λ (z : List CellPlan × List ℕ). Kept z.0 (next_state s z.1 id w)) (λ i. (own.0 i, sym (set-get_or s.words (c + 1) 0) i)) kept,
      (
        refl,
        ap (λ z. after_event me.0 (Loaded z a)) back,
        subst (λ z. IsNext me.0 (Loaded z a)) back (run_here s id me.0 r at live, is, tt),
      ),
    )

-- a cell's word after it is asked
exchanged_word : (plan : List CellPlan) (es : List WorkerEvent) (c n old new : ℕ) → n ≡ word_after plan es c
    → old ≡ initial_of plan c → bound_of plan c ≡ Some new → either (eqb n old) new n ≡ value_of plan c
exchanged_word plan es c n old new is from to =
    exchanged n old new (λ z. z ≡ value_of plan c) (λ _. sym (value_from plan c new to))
    (λ miss. ⊎_elim (λ i. absurd (miss (is ∙ (i ∙ sym from))))
    (λ b. is ∙ sym (value_from plan c (word_after plan es c) b)) (word_either plan es c))

-- the words after a cell is asked
words_asked : (plan : List CellPlan) (es : List WorkerEvent) (ws : List ℕ) (c m : ℕ) → c < length plan → length ws ≡ length plan + 1
    → ((d : ℕ) → d < length plan → get_or ws (d + 1) 0 ≡ word_after plan es d) → m ≡ value_of plan c
    → (d : ℕ) → d < length plan → get_or (set ws (c + 1) m) (d + 1) 0 ≡ word_by plan (Asked c) d (word_after plan es d)
words_asked plan es ws c m inside count words becomes d within = dite (ℕ_discrete d c)
    (λ e. where_equal (λ z. get_or (set ws (c + 1) m) (d + 1) 0 ≡ z) d c (value_of plan d) (word_after plan es d) e
    (subst (λ k. get_or (set ws (c + 1) m) (k + 1) 0 ≡ value_of plan k) (sym e)
    (get_or-set_same ws (c + 1) m 0 (omega arith) ∙ becomes)))
    (λ other. where_other (λ z. get_or (set ws (c + 1) m) (d + 1) 0 ≡ z) d c (value_of plan d) (word_after plan es d) other
    (get_or-set_other ws (c + 1) (d + 1) m 0 (λ e. other (omega arith)) ∙ words d within))

pub exchanges : (plan : List CellPlan) (slots id : ℕ) (me : Sitter) (c old new : ℕ) → c < length plan → 0 < me.0.share
    → old ≡ initial_of plan c → bound_of plan c ≡ Some new → ((d : ℕ) → In (first_of plan c) d → In me.0.seen d)
    → Allows (Kept plan) slots id me (c + 1) (λ n. either (eqb n old) new n) (asked (step slots (c + 1) old new none) me)
exchanges plan slots id me c old new inside' live from' to' first' s r' _ at _ =
    let own = own_rule plan s id me.0 r' at live in
    let r = own.1 in
    let same : plan ≡ me.0.plan = sym own.0 in
    let inside = subst (λ (p : List CellPlan). c < length p) same inside' in
    let from = subst (λ (p : List CellPlan). old ≡ initial_of p c) same from' in
    let to = subst (λ (p : List CellPlan). bound_of p c ≡ Some new) same to' in
    let first = subst (λ (p : List CellPlan). (d : ℕ) → In (first_of p c) d → In me.0.seen d) same first' in
    let n : ℕ = get_or s.words (c + 1) 0 in
    let m : ℕ = either (eqb n old) new n in
    let becomes : m ≡ value_of me.0.plan c = exchanged_word me.0.plan r.events c n old new (r.words c inside) from to in
    let seen = (r.views id me.0 at).seen in
    let order : ComesAfterFirst me.0.plan r.events (Asked c) = λ d i. asked_is_bound me.0.plan r.events r.core d (seen d (first d i)) in
    let back : c ≡ (c + 1) - 1 = omega arith in
    let kept = moved id me.0 (Asked c) s r at live (can_from me.0.plan c new to) order
    (λ b d i f. seen d (first d (subst (λ z. In (first_of me.0.plan z) d) (⊎_elim (λ e. e) (λ none. absurd none) i) f)))
    (set s.words (c + 1) m) (length-set s.words (c + 1) m ∙ r.count)
    (get_or-set_other s.words (c + 1) 0 m 0 (λ e. omega arith) ∙ r.unused)
    (words_asked me.0.plan r.events s.words c m inside r.count r.words becomes) in (
      after_event me.0 (Asked c),
      keeps,
      tt,
      subst (λ (p : List CellPlan). Kept p (next_state s (set s.words (c + 1) m) id (after_event me.0 (Asked c)))) own.0 kept,
      (
        refl,
        ap (λ z. after_event me.0 (Asked z)) back,
        subst (λ z. IsNext me.0 (Asked z)) back (run_here s id me.0 r at live, can_from me.0.plan c new to, order),
      ),
    )

-- ---- seats

pub splits : (plan : List CellPlan) (id : ℕ) (v : SeatView) → 2 ≤ v.share → Splits (Kept plan) id v (kept_half v) (given_half v)
splits plan id v enough s r at = record {
  sound = r.sound;
  events = r.events;
  core = r.core;
  order = r.order;
  count = r.count;
  unused = r.unused;
  words = r.words;
  closed = r.closed;
  askers = λ c i. (let t = some_set s.views id v (kept_half v) c at (λ j. j) (r.askers c i) in
      (t.0, t.1, at_longer (set s.views id (kept_half v)) (given_half v ∷ []) t.0 t.1 t.2, t.3));
  views = λ j u at'. ⊎_elim (λ old. after_set (IsView plan r.events) s.views id (kept_half v) kept (λ k z _ at'. r.views k z at') j u old)
      (λ t. subst (IsView plan r.events j) t.0 (given j (t.1 ∙ length-set s.views id (kept_half v))))
      (at_end (set s.views id (kept_half v)) (given_half v) u j at');
  shared = (let sum = shares_set s.views id v (kept_half v) at in
      let more = shares_end (set s.views id (kept_half v)) (given_half v) in
      let was = r.shared in omega arith);
  unborn = λ j h. r.unborn j (let n = length-append (set s.views id (kept_half v)) (given_half v ∷ []) in
      let m = length-set s.views id (kept_half v) in omega arith);
}
  where
    old : IsView plan r.events id v
    old = r.views id v at

    kept : IsView plan r.events id (kept_half v)
    kept = record {
      plan_is = λ _. old.plan_is (omega arith);
      log = λ _. old.log (omega arith);
      asked = old.asked;
      seen = old.seen;
      spent = λ none. absurd (omega arith);
    }

    given : (j : ℕ) → j ≡ length s.views → IsView plan r.events j (given_half v)
    given j e = record {
      plan_is = λ _. old.plan_is (omega arith);
      log = λ _. r.unborn j (omega arith);
      asked = λ c i. absurd i;
      seen = old.seen;
      spent = λ none. absurd (omega arith);
    }

pub joins : (plan : List CellPlan) (id : ℕ) (v : SeatView) (other : ℕ) (u : SeatView) → 0 < v.share
    → Joins (Kept plan) id v other u (joined v u) spent_view
joins plan id v other u live s r at apart at_other' = record {
  sound = r.sound;
  events = r.events;
  core = r.core;
  order = r.order;
  count = r.count;
  unused = r.unused;
  words = r.words;
  closed = r.closed;
  askers = λ c i. still c (r.askers c i);
  views = after_set (IsView plan r.events) (set s.views id (joined v u)) other spent_view (spent other)
      (λ j z _ at'. after_set (IsView plan r.events) s.views id (joined v u) both (λ k y _ at''. r.views k y at'') j z at');
  shared = (let a = shares_set s.views id v (joined v u) at in
      let b = shares_set (set s.views id (joined v u)) other u spent_view at_other' in
      let was = r.shared in omega arith);
  unborn = λ j h. r.unborn j (let n = length-set (set s.views id (joined v u)) other spent_view in
      let m = length-set s.views id (joined v u) in omega arith);
}
  where
    at_other : get_elem? s.views other ≡ some u
    at_other = sym (set_else s.views id other (joined v u) apart) ∙ at_other'

    one : IsView plan r.events id v
    one = r.views id v at

    two : IsView plan r.events other u
    two = r.views other u at_other

    both : IsView plan r.events id (joined v u)
    both = record {
      plan_is = λ _. one.plan_is live;
      log = λ _. one.log live;
      asked = λ c i. ⊎_elim (λ j. one.asked c j) (λ j. two.asked c j) (in_either v.asked u.asked c i);
      seen = λ c i. ⊎_elim (λ j. one.seen c j) (λ j. two.seen c j) (in_either v.seen u.seen c i);
      spent = λ none. absurd (omega arith);
    }

    spent : (j : ℕ) → IsView plan r.events j spent_view
    spent j = record {
      plan_is = λ none. absurd (omega arith);
      log = λ none. absurd (omega arith);
      asked = λ c i. absurd i;
      seen = λ c i. absurd i;
      spent = λ _. (refl, refl);
    }

    here : get_elem? (set (set s.views id (joined v u)) other spent_view) id ≡ some (joined v u)
    here =
        set_else (set s.views id (joined v u)) other id spent_view (λ e. apart (sym e))
        ∙ set_here s.views id (joined v u) (at_below s.views id v at)

    -- the view at a place is the one that is known there
    same_view : (k : ℕ) (z y : SeatView) (j c : ℕ) → get_elem? s.views k ≡ some z → j ≡ k → get_elem? s.views j ≡ some y
        → In y.asked c → In z.asked c
    same_view k z y j c at_z e at_y i =
        subst (λ (x : SeatView). In x.asked c) (sym (at_one s.views k z y at_z (subst (λ m. get_elem? s.views m ≡ some y) e at_y))) i

    still : (c : ℕ) → AskedBySome s.views c → AskedBySome (set (set s.views id (joined v u)) other spent_view) c
    still c t = dite (ℕ_discrete t.0 other)
        (λ e. (id, joined v u, here, in_back v.asked u.asked c (same_view other u t.1 t.0 c at_other e t.2 t.3)))
        (λ n. dite (ℕ_discrete t.0 id)
        (λ e. (id, joined v u, here, in_front v.asked u.asked c (same_view id v t.1 t.0 c at e t.2 t.3)))
        (λ m. (
          t.0,
          t.1,
          set_else (set s.views id (joined v u)) other t.0 spent_view n
              ∙ (set_else s.views id t.0 (joined v u) m ∙ t.2),
          t.3,
        )))

-- ---- the first state

pub starts : (plan : List CellPlan) → IsPlan plan → Kept plan (opening (0 ∷ map opening_in plan) [] (first_view plan))
starts plan sound = record {
  sound = sound;
  events = [];
  core = tt;
  order = tt;
  count = rw length-map (omega arith);
  unused = refl;
  words = opening_at plan;
  closed = λ c d i f. absurd (eager_is_first plan sound c d (in_ready plan c i).0 f);
  askers = λ c i. (zero, first_view plan, refl, i);
  views = views;
  shared = omega arith;
  unborn = λ j h. refl;
}
  where
    first : (j : ℕ) → IsView plan [] j (first_view plan)
    first j = record { plan_is = λ _. refl; log = λ _. refl; asked = λ c i. i; seen = λ c i. i; spent = λ none. absurd (omega arith) }

    views : (id : ℕ) (v : SeatView) → get_elem? (first_view plan ∷ []) id ≡ some v → IsView plan [] id v
    views zero v at = subst (IsView plan [] zero) (some-injective (first_view plan) v at) (first zero)
    views (suc id) v at = absurd (some-ne-none v (sym at))

-- What the core's lists of events leave in the words.
use Rattle.std.proofs.Common.{◌≡◌, ◌≢◌, ℕ, ◌==◌, ◌&&◌, not, ◌⊎◌, inl, inr, ⊎_elim, Bool, true, false, List, [], ◌∷◌}
use Rattle.std.proofs.Common.{◌++◌, Option, Some, None, sym, refl, ◌∙◌, subst, eq-eqb, if◌then◌else◌}
use mathlib.Core.Logic.{dite}
use native.Mathlib.Decide.{ℕ_discrete}
use Rattle.import_cells.specs.declared.plan.CellPlan.{CellPlan}
use Rattle.import_cells.specs.declared.event.CellEvent.{CellEvent}
use Rattle.import_cells.specs.declared.event.CellEvent.TheVariants.{Loaded, Asked}
use Rattle.import_cells.specs.Plan.{In, initial_of, bound_of, is_eager, first_of, can_bind, IsReady, IsPlan, ready_cells}
use Rattle.import_cells.specs.Core.{WorkerEvent, same_value, asks, asked_on, of_worker, value_of, word_by, word_after}
use Rattle.import_cells.specs.Core.{IsBound, asked_after, IsCoreEvent, IsCore, ComesAfterFirst, AsksInOrder, AskedFirst}
use Rattle.import_cells.specs.Core.{EachAsksFirst, is_new, shown_by, shown, opening_of}
use Rattle.import_cells.proofs.Lists.{in_either, both_ways, where_equal, was_other}
use Rattle.import_cells.proofs.Plans.{value_is, can_from, value_from, value_either, can_from_other, ready_in, in_ready, eager_is_first}

-- ---- lists of asked cells

pub on_more : (x : CellEvent) (l : List ℕ) (c : ℕ) → In l c → In (asked_on x l) c
on_more (Loaded d a) l c i = i
on_more (Asked d) l c i = inr i

pub on_new : (x : CellEvent) (l : List ℕ) (c : ℕ) → In (asked_on x []) c → In (asked_on x l) c
on_new (Loaded d a) l c i = absurd i
on_new (Asked d) l c (inl e) = inl e
on_new (Asked d) l c (inr i) = absurd i

pub on_either : (x : CellEvent) (l : List ℕ) (c : ℕ) → In (asked_on x l) c → In (asked_on x []) c ⊎ In l c
on_either (Loaded d a) l c i = inr i
on_either (Asked d) l c (inl e) = inl (inl e)
on_either (Asked d) l c (inr i) = inr i

new_differs : (o : Option ℕ) (a i : ℕ) → (same_value o a && not (a == i)) ≡ true → a ≢ i
new_differs None a i e = λ _. cc
new_differs (Some v) a i e = by (v == a) e
  where
    differs : (b : Bool) → not b ≡ true → (a == i) ≡ b → a ≢ i
    differs true e f = cc
    differs false e f = λ same. let t : true ≡ false = sym (eq-eqb a i same) ∙ f in cc

    by : (b : Bool) → (b && not (a == i)) ≡ true → a ≢ i
    by true e = differs (a == i) e refl
    by false e = λ _. cc

module _ (plan : List CellPlan) where
  opening_either : (c : ℕ) → (opening_of plan c ≡ initial_of plan c) ⊎ (bound_of plan c ≡ Some (opening_of plan c))
  opening_either c = both_ways (λ n. (n ≡ initial_of plan c)
      ⊎ (bound_of plan c ≡ Some n)) (is_eager plan c) (value_of plan c) (initial_of plan c) (value_either plan c) (inl refl)

  -- a word is the initial or the bound value
  pub word_either : (es : List WorkerEvent) (c : ℕ)
      → (word_after plan es c ≡ initial_of plan c) ⊎ (bound_of plan c ≡ Some (word_after plan es c))
  word_either [] c = opening_either c
  word_either (e ∷ es) c = by e.event (word_after plan es c) (word_either es c)
    where
      by : (x : CellEvent) (n : ℕ) → (n ≡ initial_of plan c) ⊎ (bound_of plan c ≡ Some n)
          → (word_by plan x c n ≡ initial_of plan c) ⊎ (bound_of plan c ≡ Some (word_by plan x c n))
      by (Loaded d a) n h = h
      by (Asked d) n h = both_ways (λ m. (m ≡ initial_of plan c)
          ⊎ (bound_of plan c ≡ Some m)) (c == d) (value_of plan c) n (value_either plan c) h

  -- a bound cell stays so
  pub bound_on : (x : CellEvent) (c n : ℕ) → bound_of plan c ≡ Some n → bound_of plan c ≡ Some (word_by plan x c n)
  bound_on (Loaded d a) c n h = h
  bound_on (Asked d) c n h = both_ways (λ m. bound_of plan c ≡ Some m) (c == d) (value_of plan c) n (value_is plan c
      (can_from plan c n h)) h

  pub asked_is_bound : (es : List WorkerEvent) → IsCore plan es → (c : ℕ) → In (asked_after plan es) c → IsBound plan es c
  asked_is_bound [] k c i = let r = in_ready plan c i in
      subst (λ (b : Bool). bound_of plan c ≡ Some (if b then value_of plan c else initial_of plan c)) (sym r.0) (value_is plan c r.1)
  asked_is_bound (e ∷ es) k c i = by e.event k.0 i (λ j. asked_is_bound es k.1 c j)
    where
      by : (x : CellEvent) → IsCoreEvent plan es x → In (asked_on x (asked_after plan es)) c → (In (asked_after plan es) c
          → IsBound plan es c) → bound_of plan c ≡ Some (word_by plan x c (word_after plan es c))
      by (Loaded d a) can j before = before j
      by (Asked d) can (inl q) before = where_equal (λ n. bound_of plan c ≡ Some n) c d (value_of plan c) (word_after plan es c) q
          (value_is plan c (subst (λ z. can_bind plan z ≡ true) (sym q) can))
      by (Asked d) can (inr j) before = bound_on (Asked d) c (word_after plan es c) (before j)

  -- a word that isn't the initial one was asked
  pub new_was_asked : (es : List WorkerEvent) (c : ℕ) → word_after plan es c ≢ initial_of plan c → In (asked_after plan es) c
  new_was_asked [] c n = by (is_eager plan c) refl n
    where
      by : (b : Bool) → is_eager plan c ≡ b → (if b then value_of plan c else initial_of plan c) ≢ initial_of plan c
          → In (ready_cells plan) c
      by true e m = ready_in plan c (e, can_from_other plan c m)
      by false e m = absurd (m refl)
  new_was_asked (e ∷ es) c n = by e.event n (λ m. new_was_asked es c m)
    where
      by : (x : CellEvent) → word_by plan x c (word_after plan es c) ≢ initial_of plan c
          → (word_after plan es c ≢ initial_of plan c → In (asked_after plan es) c) → In (asked_on x (asked_after plan es)) c
      by (Loaded d a) m before = before m
      by (Asked d) m before = dite (ℕ_discrete c d) (λ q. inl q)
          (λ other. inr (before (was_other (λ z. z ≢ initial_of plan c) c d (value_of plan c) (word_after plan es c) other m)))

  pub ready_was_asked : (es : List WorkerEvent) (c : ℕ) → IsReady plan c → In (asked_after plan es) c
  ready_was_asked [] c r = ready_in plan c r
  ready_was_asked (e ∷ es) c r = on_more e.event (asked_after plan es) c (ready_was_asked es c r)

  -- where a cell was asked, the cells before it are bound
  pub first_is_bound : IsPlan plan → (es : List WorkerEvent) → AsksInOrder plan es → (c d : ℕ) → In (asked_after plan es) c
      → In (first_of plan c) d → IsBound plan es d
  first_is_bound sound [] o c d i f = absurd (eager_is_first plan sound c d (in_ready plan c i).0 f)
  first_is_bound sound (e ∷ es) o c d i f = bound_on e.event d (word_after plan es d) (by e.event o.0 i
      (λ j. first_is_bound sound es o.1 c d j f))
    where
      by : (x : CellEvent) → ComesAfterFirst plan es x → In (asked_on x (asked_after plan es)) c → (In (asked_after plan es) c
          → IsBound plan es d) → IsBound plan es d
      by (Loaded b a) h j before = before j
      by (Asked b) h (inl q) before = h d (subst (λ z. In (first_of plan z) d) q f)
      by (Asked b) h (inr j) before = before j

  -- a new answer is of a cell that was asked
  pub new_answer : (es : List WorkerEvent) (d a : ℕ) → is_new plan d a ≡ true → a ≡ word_after plan es d → In (asked_after plan es) d
  new_answer es d a e is = new_was_asked es d (λ same. new_differs (bound_of plan d) a (initial_of plan d) e (is ∙ same))

  -- the cells that an event shows are bound
  pub event_shows : IsPlan plan → (es : List WorkerEvent) → IsCore plan es → AsksInOrder plan es → (x : CellEvent)
      → IsCoreEvent plan es x → (c : ℕ) → In (shown_by plan x) c
      → bound_of plan c ≡ Some (word_by plan x c (word_after plan es c))
  event_shows sound es k o (Asked d) can c (inl q) =
      where_equal (λ n. bound_of plan c ≡ Some n) c d (value_of plan c) (word_after plan es c) q (value_is plan c (subst
      (λ z. can_bind plan z ≡ true) (sym q) can))
  event_shows sound es k o (Asked d) can c (inr i) = absurd i
  event_shows sound es k o (Loaded d a) is c i = by (is_new plan d a) refl i
    where
      by : (b : Bool) → is_new plan d a ≡ b → In (if b then d ∷ first_of plan d else []) c → IsBound plan es c
      by true e (inl q) = subst (IsBound plan es) (sym q) (asked_is_bound es k d (new_answer es d a e is))
      by true e (inr f) = first_is_bound sound es o d c (new_answer es d a e is) f
      by false e f = absurd f

  -- they were asked, where each cell was asked after those before it
  pub event_shows_asked : (es : List WorkerEvent) → ((c d : ℕ) → In (asked_after plan es) c → In (first_of plan c) d
      → In (asked_after plan es) d)
      → (x : CellEvent) → IsCoreEvent plan es x → (c : ℕ) → In (shown_by plan x) c → In (asked_on x (asked_after plan es)) c
  event_shows_asked es closed (Asked d) can c (inl q) = inl q
  event_shows_asked es closed (Asked d) can c (inr i) = absurd i
  event_shows_asked es closed (Loaded d a) is c i = by (is_new plan d a) refl i
    where
      by : (b : Bool) → is_new plan d a ≡ b → In (if b then d ∷ first_of plan d else []) c → In (asked_after plan es) c
      by true e (inl q) = subst (In (asked_after plan es)) (sym q) (new_answer es d a e is)
      by true e (inr f) = closed d c (new_answer es d a e is) f
      by false e f = absurd f

  -- the cells that a worker's events show are bound
  pub shown_is_bound : IsPlan plan → (es : List WorkerEvent) → IsCore plan es → AsksInOrder plan es → (w c : ℕ)
      → In (shown plan (of_worker w es)) c → IsBound plan es c
  shown_is_bound sound [] k o w c i = absurd i
  shown_is_bound sound (e ∷ es) k o w c i = by (e.worker == w) i (λ j. bound_on e.event c (word_after plan es c)
      (shown_is_bound sound es k.1 o.1 w c j))
    where
      by : (b : Bool) → In (shown plan (if b then e.event ∷ of_worker w es else of_worker w es)) c
          → (In (shown plan (of_worker w es)) c → IsBound plan (e ∷ es) c) → IsBound plan (e ∷ es) c
      by false j before = before j
      by true j before = ⊎_elim (λ s. event_shows sound es k.1 o.1 e.event k.0 c s) before (in_either (shown_by plan e.event)
          (shown plan (of_worker w es)) c j)

  -- what a worker asked was asked
  pub own_was_asked : (es : List WorkerEvent) (w c : ℕ) → In (asks (of_worker w es)) c → In (asked_after plan es) c
  own_was_asked [] w c i = absurd i
  own_was_asked (e ∷ es) w c i = by (e.worker == w) i (λ j. own_was_asked es w c j)
    where
      own : (x : CellEvent) → In (asks (x ∷ of_worker w es)) c → (In (asks (of_worker w es)) c → In (asked_after plan es) c)
          → In (asked_on x (asked_after plan es)) c
      own (Loaded d a) j before = before j
      own (Asked d) (inl q) before = inl q
      own (Asked d) (inr j) before = inr (before j)

      by : (b : Bool) → In (asks (if b then e.event ∷ of_worker w es else of_worker w es)) c → (In (asks (of_worker w es)) c
          → In (asked_after plan es) c) → In (asked_on e.event (asked_after plan es)) c
      by false j before = on_more e.event (asked_after plan es) c (before j)
      by true j before = own e.event j before

  -- where each worker asks the cells before a cell itself, they are bound when that is asked
  pub in_order : (es : List WorkerEvent) → IsCore plan es → EachAsksFirst plan es → AsksInOrder plan es
  in_order [] k f = tt
  in_order (e ∷ es) k f = (by e.event f.0, in_order es k.1 f.1)
    where
      by : (x : CellEvent) → AskedFirst plan e.worker es x → ComesAfterFirst plan es x
      by (Loaded d a) h = tt
      by (Asked d) h = λ b i. asked_is_bound es k.1 b (⊎_elim (λ r. ready_was_asked es b r) (λ j. own_was_asked es e.worker b j) (h b i))

  -- the word was m and is n now
  abbrev Moved : ℕ → ℕ → ℕ → Type 0
  Moved c m n = (n ≡ m) ⊎ ((m ≡ initial_of plan c) × (bound_of plan c ≡ Some n))

  -- a word changes at most once, from its initial to its bound value
  pub changes_once : (es later : List WorkerEvent) (c : ℕ)
      → (word_after plan (later ++ es) c ≡ word_after plan es c) ⊎ ((word_after plan es c ≡ initial_of plan c)
      × (bound_of plan c ≡ Some (word_after plan (later ++ es) c)))
  changes_once es [] c = inl refl
  changes_once es (e ∷ later) c = by e.event (word_after plan (later ++ es) c) (changes_once es later c)
    where
      new : bound_of plan c ≡ Some (value_of plan c) → Moved c (word_after plan es c) (value_of plan c)
      new h = ⊎_elim (λ i. inr (i, h)) (λ b. inl (value_from plan c (word_after plan es c) b)) (word_either es c)

      old : value_of plan c ≡ initial_of plan c → Moved c (word_after plan es c) (value_of plan c)
      old h = ⊎_elim (λ i. inl (h ∙ sym i)) (λ b. inl (value_from plan c (word_after plan es c) b)) (word_either es c)

      by : (x : CellEvent) (n : ℕ) → Moved c (word_after plan es c) n → Moved c (word_after plan es c) (word_by plan x c n)
      by (Loaded d a) n m = m
      by (Asked d) n m = both_ways (Moved c (word_after plan es c)) (c == d) (value_of plan c) n (⊎_elim old new (value_either plan c)) m

  pub stays_bound : (es later : List WorkerEvent) (c : ℕ) → IsBound plan es c → IsBound plan (later ++ es) c
  stays_bound es [] c h = h
  stays_bound es (e ∷ later) c h = bound_on e.event c (word_after plan (later ++ es) c) (stays_bound es later c h)

-- What a plan says of one cell.
use Rattle.std.proofs.Common.{◌≡◌, ◌≢◌, ℕ, zero, suc, ◌+◌, ◌<◌, ◌≤◌, ◌&&◌, ◌⊎◌, ◌↔◌, inl, inr, ⊎_elim, Bool, true}
use Rattle.std.proofs.Common.{false, List, [], ◌∷◌, map, length, get_or, Option, Some, None, is_some, sym, refl, ap}
use Rattle.std.proofs.Common.{◌∙◌, subst, arith, add-one, if◌then◌else◌}
use Rattle.std.specs.Option.{unwrap_or}
use Rattle.std.specs.List.{slice_get}
use Rattle.std.proofs.lemmas.Option.{slice_get_cases, slice_get_read}
use Rattle.import_cells.specs.declared.plan.CellPlan.{CellPlan}
use Rattle.import_cells.specs.Plan.{In, initial_in, bound_in, eager_in, first_in, is_ready, opening_in, ready_from}
use Rattle.import_cells.specs.Plan.{initial_of, bound_of, is_eager, first_of, can_bind, IsReady, ready_cells, IsSound}
use Rattle.import_cells.specs.Plan.{IsPlan}
use Rattle.import_cells.specs.Core.{value_of, opening_of}
use Rattle.import_cells.proofs.Lists.{in_all}

some_value : (o : Option ℕ) (d : ℕ) → is_some o ≡ true → o ≡ Some (unwrap_or o d)
some_value None d e = cc
some_value (Some v) d e = refl

other_value : (o : Option ℕ) (d : ℕ) → unwrap_or o d ≢ d → is_some o ≡ true
other_value None d n = absurd (n refl)
other_value (Some v) d n = refl

either_value : (o : Option ℕ) (d : ℕ) → (unwrap_or o d ≡ d) ⊎ (o ≡ Some (unwrap_or o d))
either_value None d = inl refl
either_value (Some v) d = inr refl

and_left : (a b : Bool) → (a && b) ≡ true → a ≡ true
and_left true b e = refl
and_left false b e = e

and_right : (a b : Bool) → (a && b) ≡ true → b ≡ true
and_right true b e = e
and_right false b e = cc

and_both : (a b : Bool) → a ≡ true → b ≡ true → (a && b) ≡ true
and_both true b p q = q
and_both false b p q = p

abbrev ready_there : Option CellPlan → Bool
ready_there None = false
ready_there (Some p) = is_ready p

there_is_ready : (o : Option CellPlan) → ready_there o ≡ true → (eager_in o ≡ true) × (is_some (bound_in o) ≡ true)
there_is_ready None e = cc
there_is_ready (Some p) e = (and_left p.eager (is_some p.bound) e, and_right p.eager (is_some p.bound) e)

is_ready_there : (o : Option CellPlan) → eager_in o ≡ true → is_some (bound_in o) ≡ true → ready_there o ≡ true
is_ready_there None e f = e
is_ready_there (Some p) e f = and_both p.eager (is_some p.bound) e f

-- a ready cell of the list, by its index
abbrev IsReadyFrom : ℕ → List CellPlan → ℕ → Type 0
IsReadyFrom n ps c = (k : ℕ) × (c ≡ n + k) × (ready_there (slice_get ps k) ≡ true)

ready_has : (n : ℕ) (ps : List CellPlan) (c : ℕ) → In (ready_from n ps) c → IsReadyFrom n ps c
ready_has n [] c i = absurd i
ready_has n (p ∷ ps) c i = by (is_ready p) refl i (λ j. ready_has (n + 1) ps c j)
  where
    further : IsReadyFrom (n + 1) ps c → IsReadyFrom n (p ∷ ps) c
    further r = let e : c ≡ (n + 1) + r.0 = r.1 in (suc r.0, omega arith, r.2)

    by : (b : Bool) → is_ready p ≡ b → In (if b then n ∷ ready_from (n + 1) ps else ready_from (n + 1) ps) c
        → (In (ready_from (n + 1) ps) c → IsReadyFrom (n + 1) ps c) → IsReadyFrom n (p ∷ ps) c
    by true e (inl q) later = (zero, omega arith, e)
    by true e (inr j) later = further (later j)
    by false e j later = further (later j)

ready_put : (n : ℕ) (ps : List CellPlan) (k : ℕ) → ready_there (slice_get ps k) ≡ true → In (ready_from n ps) (n + k)
ready_put n [] k e = cc
ready_put n (p ∷ ps) zero e = subst (λ (b : Bool). In (if b then n ∷ ready_from (n + 1) ps else ready_from (n + 1) ps) (n + zero))
    (sym e) (inl (omega arith))
ready_put n (p ∷ ps) (suc k) e = by (is_ready p) (subst (In (ready_from (n + 1) ps)) (omega arith) (ready_put (n + 1) ps k e))
  where
    by : (b : Bool) → In (ready_from (n + 1) ps) (n + suc k)
        → In (if b then n ∷ ready_from (n + 1) ps else ready_from (n + 1) ps) (n + suc k)
    by true i = inr i
    by false i = i

module _ (plan : List CellPlan) where
  pub value_is : (c : ℕ) → can_bind plan c ≡ true → bound_of plan c ≡ Some (value_of plan c)
  value_is c e = some_value (bound_of plan c) (initial_of plan c) e

  pub can_from : (c v : ℕ) → bound_of plan c ≡ Some v → can_bind plan c ≡ true
  can_from c v e = ap is_some e

  pub value_from : (c v : ℕ) → bound_of plan c ≡ Some v → value_of plan c ≡ v
  value_from c v e = ap (λ (o : Option ℕ). unwrap_or o (initial_of plan c)) e

  pub value_either : (c : ℕ) → (value_of plan c ≡ initial_of plan c) ⊎ (bound_of plan c ≡ Some (value_of plan c))
  value_either c = either_value (bound_of plan c) (initial_of plan c)

  pub can_from_other : (c : ℕ) → value_of plan c ≢ initial_of plan c → can_bind plan c ≡ true
  can_from_other c n = other_value (bound_of plan c) (initial_of plan c) n

  pub ready_in : (c : ℕ) → IsReady plan c → In (ready_cells plan) c
  ready_in c r = let i = ready_put zero plan c (is_ready_there (slice_get plan c) r.0 r.1) in
      subst (In (ready_from zero plan)) (omega arith) i

  pub in_ready : (c : ℕ) → In (ready_cells plan) c → IsReady plan c
  in_ready c i = let r = ready_has zero plan c i in let e : c ≡ zero + r.0 = r.1 in let same : r.0 ≡ c = omega arith in
      subst (IsReady plan) same (there_is_ready (slice_get plan r.0) r.2)

  each_sound : IsPlan plan → (c d : ℕ) → In (first_of plan c) d → (can_bind plan d ≡ true) × (is_eager plan c ≡ true → ⊥)
  each_sound sound c d i = ⊎_elim at_cell past (slice_get_cases plan c).1
    where
      at_cell : (p : CellPlan) × (c < length plan) × (slice_get plan c ≡ Some p) × (get_or plan c p ≡ p)
          → (can_bind plan d ≡ true) × (is_eager plan c ≡ true → ⊥)
      at_cell t =
          let one = subst (IsSound plan) t.3 (sound.each c t.0 t.1) in
          let j = subst (λ (o : Option CellPlan). In (first_in o) d) t.2 i in (
            in_all (λ x. can_bind plan x ≡ true) t.0.first d one.0 j,
            λ e. subst (λ (l : List ℕ). In l d) (one.1 (sym
                (ap eager_in t.2) ∙ e)) j,
          )

      past : (length plan ≤ c) × (slice_get plan c ≡ None) → (can_bind plan d ≡ true) × (is_eager plan c ≡ true → ⊥)
      past t = absurd (subst (λ (o : Option CellPlan). In (first_in o) d) t.1 i)

  pub first_bindable : IsPlan plan → (c d : ℕ) → In (first_of plan c) d → can_bind plan d ≡ true
  first_bindable sound c d i = (each_sound sound c d i).0

  pub eager_is_first : IsPlan plan → (c d : ℕ) → is_eager plan c ≡ true → In (first_of plan c) d → ⊥
  eager_is_first sound c d e i = (each_sound sound c d i).1 e

  pub bindable_inside : (c : ℕ) → can_bind plan c ≡ true → c < length plan
  bindable_inside c e = ⊎_elim (λ (t : (p : CellPlan) × (c < length plan) × (slice_get plan c ≡ Some p) × (get_or plan c p ≡ p)). t.1)
      (λ (t : (length plan ≤ c)
      × (slice_get plan c ≡ None)). let f : false ≡ true = sym (ap (λ (o : Option CellPlan). is_some (bound_in o)) t.1) ∙ e in
      cc) (slice_get_cases plan c).1

  pub opening_at : (c : ℕ) → c < length plan → get_or (0 ∷ map opening_in plan) (c + 1) 0 ≡ opening_of plan c
  opening_at c inside = rw add-one (mapped plan c inside)
    where
      mapped : (ps : List CellPlan) (k : ℕ) → k < length ps → get_or (map opening_in ps) k 0
          ≡ (if eager_in (slice_get ps k) then unwrap_or (bound_in (slice_get ps k)) (initial_in (slice_get ps k)) else initial_in
          (slice_get ps k))
      mapped [] k h = absurd (omega arith)
      mapped (p ∷ ps) zero h = refl
      mapped (p ∷ ps) (suc k) h = mapped ps k (omega arith)

  -- the flag that a seat begins with
  pub ready_flag : (c : ℕ) → c < length plan → (get_or (map is_ready plan) c false ≡ true) ↔ IsReady plan c
  ready_flag c h = (
    (λ e. there_is_ready (slice_get plan c) (sym (mapped plan c h) ∙ e)),
    λ r. mapped plan c h ∙ is_ready_there (slice_get plan c) r.0 r.1,
  )
    where
      mapped : (ps : List CellPlan) (k : ℕ) → k < length ps → get_or (map is_ready ps) k false ≡ ready_there (slice_get ps k)
      mapped [] k i = absurd (omega arith)
      mapped (p ∷ ps) zero i = refl
      mapped (p ∷ ps) (suc k) i = mapped ps k (omega arith)

-- a cell's initial value as it is read from a copy of the plan
pub initial_read : (plan key : List CellPlan) (c : ℕ) (p : CellPlan) → key ≡ plan → c < length plan → p ≡ get_or plan c p
    → p.initial ≡ initial_of key c
initial_read plan key c p same inside read =
    ap initial_in (sym (slice_get_read plan (length plan) c p refl inside read)) ∙ ap (λ (l : List CellPlan). initial_of l c) (sym same)

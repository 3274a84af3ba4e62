-- The workers of a run: which of them the entry can be started for, and how they are made.
use Rattle.std.proofs.Common.{◌≡◌, ℕ, zero, suc, ◌+◌, ◌<◌, ◌≤◌, ℤ, List, [], ◌∷◌, ◌++◌, length, take, drop, get_or, Bool, true, false, cond}
use Rattle.std.proofs.Common.{All, Some, refl, sym, ap, ◌∙◌, arith}
use Rattle.std.proofs.lemmas.List.{drop_all, drop_more}
use Rattle.type_world.specs.declared.identity.MethodId.{MethodId}
use Rattle.type_world.specs.World.{World}
use Rattle.type_world.specs.Entries.{can_start}
use Rattle.rtr_runner.specs.Workers.{IsReady, WorkerState, new_worker}
use Rattle.r2r_commands.specs.Refusals.{Refusal, BadArguments}
use Rattle.r2r_commands.specs.RunRefusals.{bad_arguments, bad_arguments_by}
use Rattle.r2r_commands.specs.Loaded.{first_of, new_workers}

-- ---- where nothing is refused of a worker and of those after it

test_is : (n : ℕ) (rest : List Refusal) (b : Bool) → cond b [] (BadArguments n ∷ []) ++ rest ≡ [] → b ≡ true
test_is n rest true e = refl
test_is n rest false e = absurd cc

rest_is : (n : ℕ) (rest : List Refusal) (b : Bool) → cond b [] (BadArguments n ∷ []) ++ rest ≡ [] → rest ≡ []
rest_is n rest true e = e
rest_is n rest false e = absurd cc

refused_by : (b : Bool) (n : ℕ) (rest : List Refusal) → b ≡ false
    → first_of (cond b [] (BadArguments n ∷ []) ++ rest) ≡ Some (BadArguments n)
refused_by true n rest e = absurd cc
refused_by false n rest e = refl

passed_by : (b : Bool) (n : ℕ) (rest : List Refusal) → b ≡ true → cond b [] (BadArguments n ∷ []) ++ rest ≡ rest
passed_by true n rest e = refl
passed_by false n rest e = absurd cc

module _ (world : World) (entry : MethodId) where
  -- what refuses the workers from a place on
  abbrev pub left : List (List ℤ) → ℕ → List Refusal
  left workers i = bad_arguments world entry i (drop i workers)

  pub next : (workers : List (List ℤ)) (i : ℕ) (d : List ℤ) → i < length workers
      → left workers i ≡ bad_arguments_by world entry i (get_or workers i d) ++ left workers (i + 1)
  next workers i d h = rw (drop_more workers i d h) refl

  pub none_left : (workers : List (List ℤ)) (i : ℕ) → length workers ≤ i → left workers i ≡ []
  none_left workers i h = rw (drop_all i workers h) refl

  pub first_starts : (n : ℕ) (numbers : List ℤ) (workers : List (List ℤ)) → bad_arguments world entry n (numbers ∷ workers) ≡ []
      → can_start world entry numbers ≡ true
  first_starts n numbers workers none = test_is n (bad_arguments world entry (n + 1) workers) (can_start world entry numbers) none

  pub others_start : (n : ℕ) (numbers : List ℤ) (workers : List (List ℤ)) → bad_arguments world entry n (numbers ∷ workers) ≡ []
      → bad_arguments world entry (n + 1) workers ≡ []
  others_start n numbers workers none = rest_is n (bad_arguments world entry (n + 1) workers) (can_start world entry numbers) none

  starts_from : (n : ℕ) (workers : List (List ℤ)) (i : ℕ) (d : List ℤ) → bad_arguments world entry n workers ≡ [] → i < length workers
      → can_start world entry (get_or workers i d) ≡ true
  starts_from n [] i d none h = absurd (omega arith)
  starts_from n (numbers ∷ workers) zero d none h = first_starts n numbers workers none
  starts_from n (numbers ∷ workers) (suc i) d none h =
      starts_from (n + 1) workers i d (others_start n numbers workers none) (omega arith)

  pub starts_at : (workers : List (List ℤ)) (i : ℕ) (d : List ℤ) → bad_arguments world entry 0 workers ≡ [] → i < length workers
      → can_start world entry (get_or workers i d) ≡ true
  starts_at workers i d none h = starts_from 0 workers i d none h

  -- the worker at a place, as a loop finds it
  module _ (workers : List (List ℤ)) (i : ℕ) (numbers : List ℤ) (h : i < length workers) (is : numbers ≡ get_or workers i []) where
    here : left workers i ≡ bad_arguments_by world entry i numbers ++ left workers (i + 1)
    here =
        next workers i [] h
        ∙ ap (λ (ns : List ℤ). bad_arguments_by world entry i ns ++ left workers (i + 1)) (sym is)

    pub refused_here : can_start world entry numbers ≡ false → first_of (left workers i) ≡ Some (BadArguments i)
    refused_here e = ap first_of here ∙ refused_by (can_start world entry numbers) i (left workers (i + 1)) e

    pub passed_here : can_start world entry numbers ≡ true → left workers i ≡ left workers (i + 1)
    passed_here e = here ∙ passed_by (can_start world entry numbers) i (left workers (i + 1)) e

  module _ (ticks : ℕ) where
    -- each worker that is made is ready
    pub all_ready : (n : ℕ) (workers : List (List ℤ)) → bad_arguments world entry n workers ≡ []
        → All (IsReady world) (new_workers entry ticks n workers)
    all_ready n [] none k d h = absurd (omega arith)
    all_ready n (numbers ∷ workers) none zero d h = record { new = refl; starts = first_starts n numbers workers none }
    all_ready n (numbers ∷ workers) none (suc k) d h =
        all_ready (n + 1) workers (others_start n numbers workers none) k d (omega arith)

-- ---- one more worker is made

module _ (entry : MethodId) (ticks : ℕ) where
  made_from : (n : ℕ) (workers : List (List ℤ)) (i : ℕ) (d : List ℤ) → i < length workers
      → new_workers entry ticks n (take (suc i) workers)
      ≡ new_workers entry ticks n (take i workers) ++ new_worker entry ticks (n + i) (get_or workers i d) ∷ []
  made_from n [] i d h = absurd (omega arith)
  made_from n (numbers ∷ workers) zero d h =
      let same : n ≡ n + 0 = omega arith in
      ap (λ (k : ℕ). new_worker entry ticks k numbers ∷ []) same
  made_from n (numbers ∷ workers) (suc i) d h =
      let same : (n + 1) + i ≡ n + suc i = omega arith in
      ap (λ (rest : List WorkerState). new_worker entry ticks n numbers ∷ rest)
      (made_from (n + 1) workers i d (omega arith)
      ∙ ap (λ (k : ℕ). new_workers entry ticks (n + 1) (take i workers) ++ new_worker entry ticks k (get_or workers i d) ∷ []) same)

  pub made_more : (workers : List (List ℤ)) (i : ℕ) (d : List ℤ) → i < length workers
      → new_workers entry ticks 0 (take (i + 1) workers)
      ≡ new_workers entry ticks 0 (take i workers) ++ new_worker entry ticks i (get_or workers i d) ∷ []
  made_more workers i d h =
      let next : i + 1 ≡ suc i = omega arith in
      let here : 0 + i ≡ i = omega arith in
      ap (λ (k : ℕ). new_workers entry ticks 0 (take k workers)) next ∙ made_from 0 workers i d h
      ∙ ap (λ (k : ℕ). new_workers entry ticks 0 (take i workers) ++ new_worker entry ticks k (get_or workers i d) ∷ []) here

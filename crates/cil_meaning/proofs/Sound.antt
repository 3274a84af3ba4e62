-- Typed code: what an instruction asks is what its rule says, so that it never meets an operand of the wrong kind.
use Rattle.std.proofs.Common.{◌≡◌, inl, inr, ℕ, zero, suc, ◌+◌, Bool, true, false, not, List, [], ◌∷◌, ◌++◌}
use Rattle.std.proofs.Common.{length, Option, Some, None, refl, sym, ◌∙◌, subst, arith, if◌then◌else◌, slice_get}
use Rattle.std.proofs.Common.{slice_set}
use Rattle.std.proofs.lemmas.List.{append-nil}
use Rattle.std.specs.Option.{option_map}
use Rattle.std.specs.Int.{Width, w32, w64, cast_unsigned}
use Rattle.cil_decode.specs.declared.instr.Arg.{Arg}
use Rattle.cil_decode.specs.declared.instr.Arg.TheVariants as args
use Rattle.cil_decode.specs.declared.operation.Operation.{Operation}
use Rattle.cil_decode.specs.declared.operation.Operation.TheVariants as operations
use Rattle.cil_decode.specs.declared.operation.Comparison.{Comparison}
use Rattle.cil_decode.specs.declared.operation.Comparison.TheVariants as comparisons
use Rattle.cil_decode.specs.declared.operation.IntegerType.{IntegerType}
use Rattle.type_world.specs.declared.identity.TypeId.{TypeId}
use Rattle.type_world.specs.declared.identity.MethodId.{MethodId}
use Rattle.cil_meaning.specs.declared.kind.Kind.{Kind}
use Rattle.cil_meaning.specs.declared.kind.Kind.TheVariants as kinds
use Rattle.type_world.specs.World.{World}
use Rattle.type_world.specs.Members.{resolve_method}
use Rattle.type_world.specs.declared.place.Place.{Place}
use Rattle.type_world.specs.declared.place.Place.TheVariants.{Integer, Reference}
use Rattle.type_world.specs.declared.place.Shape.{Shape}
use Rattle.type_world.specs.Profile.{Method, is_abstract, profile_shape}
use Rattle.cil_meaning.specs.Arithmetic.{Computed, Number, ZeroDivisor, OutOfRange, binary, checked_binary, compares}
use Rattle.cil_meaning.specs.Arithmetic.{integer_of, inverted, is_wide, narrowed, negated, shifted, widened}
use Rattle.cil_meaning.specs.State.{Value, I4, I8, Ref, Store, Next, Stays, Calls, Gives}
use Rattle.cil_meaning.specs.Step.{act, call, call_of, call_with, compare, compare_references, computed, converted, flag}
use Rattle.cil_meaning.specs.Step.{is_true, jump, jump_if, kept, on_compared, on_i4, on_kept, on_many, on_number}
use Rattle.cil_meaning.specs.Step.{on_numbers, on_one, on_some, return_as, stays, switch, target_or_on}
use Rattle.cil_meaning.specs.Soundness.{HasKind, HasKinds, Holds, In, ResultFits, Sound, onto}
use Rattle.type_world.proofs.Bound.{both_left, both_right}
use Rattle.cil_meaning.specs.Typing.{Flow, Stops, Flows, asks, branches, called, calls, calls_of, calls_with}
use Rattle.cil_meaning.specs.Typing.{can_compare, can_compare_references, compares_two, flow_of, goes_on, is_integer}
use Rattle.cil_meaning.specs.Typing.{joins, jumps, kind_fits, kind_of, last_first, pops, pops_into, pushes, result_onto}
use Rattle.cil_meaning.specs.Typing.{returns, same_width, switches, takes_count, under_arguments}

-- ---- values of kinds, and values that places hold

module _ {R : Type 0} where
  abbrev HoldsOption : Option Place → Option (Value R) → Type 0
  HoldsOption None value = Unit {0}
  HoldsOption (Some place) (Some value) = HasKind (kind_of place) value
  HoldsOption (Some place) None = ⊥

  -- ---- a value that fits a place is kept by it

  abbrev IsKept : Place → Option (Value R) → Type 0
  IsKept place o = (u : Value R) × (o ≡ Some u) × HasKind (kind_of place) u

  kept_i4 : (world : World) (b : Bool) (n : ℕ) → kind_fits world kinds.I4 (if b then kinds.I8 else kinds.I4) ≡ true
      → (u : Value R) × ((if b then None else Some (I4 n)) ≡ Some u) × HasKind (if b then kinds.I8 else kinds.I4) u
  unfolding kind_fits
  kept_i4 world true n e = absurd (cc)
  kept_i4 world false n e = (I4 n, refl, tt)

  kept_i8 : (world : World) (b : Bool) (n : ℕ) → kind_fits world kinds.I8 (if b then kinds.I8 else kinds.I4) ≡ true
      → (u : Value R) × ((if b then Some (I8 n) else None) ≡ Some u) × HasKind (if b then kinds.I8 else kinds.I4) u
  unfolding kind_fits
  kept_i8 world true n e = (I8 n, refl, tt)
  kept_i8 world false n e = absurd (cc)

fit_i4 : (R : Type 0) (world : World) (b : Bool) (n : ℕ)
    → kind_fits world kinds.I4 (if b then kinds.I8 else kinds.I4) ≡ true → HasKind {R = R} (if b then kinds.I8 else kinds.I4) (I4 n)
unfolding kind_fits
fit_i4 R world true n e = absurd (cc)
fit_i4 R world false n e = tt

fit_i8 : (R : Type 0) (world : World) (b : Bool) (n : ℕ)
    → kind_fits world kinds.I8 (if b then kinds.I8 else kinds.I4) ≡ true → HasKind {R = R} (if b then kinds.I8 else kinds.I4) (I8 n)
unfolding kind_fits
fit_i8 R world true n e = tt
fit_i8 R world false n e = absurd (cc)

no_null : (world : World) (b : Bool) → kind_fits world kinds.Null (if b then kinds.I8 else kinds.I4) ≡ true → ⊥
unfolding kind_fits
no_null world true e = cc
no_null world false e = cc

no_reference : (world : World) (of : TypeId) (b : Bool) → kind_fits world (kinds.Ref of) (if b then kinds.I8 else kinds.I4) ≡ true → ⊥
unfolding kind_fits
no_reference world of true e = cc
no_reference world of false e = cc

module _ {R : Type 0} where
  kept_fits : (world : World) (place : Place) (k : Kind) (v : Value R) → kind_fits world k (kind_of place) ≡ true
      → HasKind k v → IsKept place (kept place v)
  unfolding kind_fits kept
  kept_fits world (Integer elem) kinds.I4 (I4 n) e h = kept_i4 world (is_wide (integer_of elem)) (narrowed (integer_of elem) n) e
  kept_fits world (Integer elem) kinds.I8 (I8 n) e h = kept_i8 world (is_wide (integer_of elem)) (narrowed (integer_of elem) n) e
  kept_fits world (Integer elem) kinds.Null (Ref r) e h = absurd (no_null world (is_wide (integer_of elem)) e)
  kept_fits world (Integer elem) (kinds.Ref of) (Ref r) e h = absurd (no_reference world of (is_wide (integer_of elem)) e)
  kept_fits world (Reference to) kinds.I4 (I4 n) e h = absurd (cc)
  kept_fits world (Reference to) kinds.I8 (I8 n) e h = absurd (cc)
  kept_fits world (Reference to) kinds.Null (Ref r) e h = (Ref r, refl, tt)
  kept_fits world (Reference to) (kinds.Ref of) (Ref r) e h = (Ref r, refl, tt)
  kept_fits world place k v e h = absurd h

  fit_kind : (world : World) (place : Place) (k : Kind) (v : Value R) → kind_fits world k (kind_of place) ≡ true
      → HasKind k v → HasKind (kind_of place) v
  unfolding kind_fits
  fit_kind world (Integer elem) kinds.I4 (I4 n) e h = fit_i4 R world (is_wide (integer_of elem)) n e
  fit_kind world (Integer elem) kinds.I8 (I8 n) e h = fit_i8 R world (is_wide (integer_of elem)) n e
  fit_kind world (Integer elem) kinds.Null (Ref r) e h = absurd (no_null world (is_wide (integer_of elem)) e)
  fit_kind world (Integer elem) (kinds.Ref of) (Ref r) e h = absurd (no_reference world of (is_wide (integer_of elem)) e)
  fit_kind world (Reference to) kinds.I4 (I4 n) e h = absurd (cc)
  fit_kind world (Reference to) kinds.I8 (I8 n) e h = absurd (cc)
  fit_kind world (Reference to) kinds.Null (Ref r) e h = tt
  fit_kind world (Reference to) (kinds.Ref of) (Ref r) e h = tt
  fit_kind world place k v e h = absurd h

  held_at : (places : List Place) (values : List (Value R)) (i : ℕ) → Holds places values
      → HoldsOption (slice_get places i) (slice_get values i)
  held_at [] values i h = tt
  held_at (p ∷ places) [] i h = absurd h
  held_at (p ∷ places) (v ∷ values) zero h = h.0
  held_at (p ∷ places) (v ∷ values) (suc i) h = held_at places values i h.1

  set_holds : (places : List Place) (values : List (Value R)) (i : ℕ) (p : Place) (u : Value R) → Holds places values
      → slice_get places i ≡ Some p → HasKind (kind_of p) u → Holds places (slice_set values i u)
  set_holds [] values i p u h e hu = absurd (cc)
  set_holds (q ∷ places) [] i p u h e hu = absurd h
  set_holds (q ∷ places) (v ∷ values) zero p u h e hu = let same : q ≡ p = cc in (subst (λ x. HasKind (kind_of x) u) (sym same) hu, h.1)
  set_holds (q ∷ places) (v ∷ values) (suc i) p u h e hu = (h.0, set_holds places values i p u h.1 e hu)

  i4_of : (k : Kind) (v : Value R) → same_width k kinds.I4 ≡ true → HasKind k v → (n : ℕ) × (v ≡ I4 n)
  i4_of kinds.I4 (I4 n) e h = (n, refl)
  i4_of kinds.I4 (I8 n) e h = absurd h
  i4_of kinds.I4 (Ref r) e h = absurd h
  i4_of kinds.I8 v e h = absurd (cc)
  i4_of kinds.Null v e h = absurd (cc)
  i4_of (kinds.Ref to) v e h = absurd (cc)

  -- ---- a conversion

  wide_or_not : (b : Bool) (x y : ℕ)
      → (u : Value R) × (Some (if b then I8 x else I4 y) ≡ Some u) × HasKind (if b then kinds.I8 else kinds.I4) u
  wide_or_not true x y = (I8 x, refl, tt)
  wide_or_not false x y = (I4 y, refl, tt)

in_get : (all : List ℕ) (n to : ℕ) → slice_get all n ≡ Some to → In to all
in_get [] n to e = absurd (cc)
in_get (x ∷ all) zero to e = inl (cc)
in_get (x ∷ all) (suc n) to e = inr (in_get all n to e)

last_first_back : (xs ys zs : List Place) → last_first (last_first xs ys) zs ≡ last_first ys (xs ++ zs)
unfolding last_first
last_first_back [] ys zs = refl
last_first_back (x ∷ xs) ys zs = last_first_back xs (x ∷ ys) zs

last_first_twice : (xs : List Place) → last_first (last_first xs []) [] ≡ xs
unfolding last_first
last_first_twice xs = last_first_back xs [] [] ∙ append-nil xs

last_first_length : (xs ys : List Place) → length (last_first xs ys) ≡ length xs + length ys
unfolding last_first
last_first_length [] ys = omega arith
last_first_length (x ∷ xs) ys = omega (arith, last_first_length xs (x ∷ ys))

-- ---- what an instruction asks is what its rule says

module _ {R H : Type 0} (store : Store R H) (world : World) (m : Method) (arguments locals : List (Value R)) (heap : H)
    (next : ℕ) (ha : Holds m.shape.arguments arguments) (hl : Holds m.locals locals) where
  abbrev Good : Flow → Next R H → Type 0
  Good flow n = Sound world m next flow n

  abbrev on_stack : List (Value R) → Next R H
  on_stack stack = stays store world m arguments locals heap stack

  on : (ks : List Kind) (s : List (Value R)) → HasKinds ks s → Good (goes_on world m next ks) (on_stack s)
  on ks s h = (h, ha, hl, inl refl)

  asked : (b : Bool) (flow : Flow) (n : Next R H) → (b ≡ true → Good flow n) → Good (asks world m next b flow) n
  asked true flow n go = go refl
  asked false flow n go = tt

  popped : (go : Kind → List Kind → Flow) (step : Value R → List (Value R) → Next R H)
      → ((k : Kind) (ks : List Kind) (v : Value R) (s : List (Value R)) → HasKind k v → HasKinds ks s
      → Good (go k ks) (step v s)) → (ks : List Kind) (s : List (Value R)) → HasKinds ks s → Good (pops world m next go ks) (on_one s step)
  popped go step each [] s h = tt
  popped go step each (k ∷ ks) [] h = absurd h
  popped go step each (k ∷ ks) (v ∷ s) h = each k ks v s h.0 h.1

  pushed : (o : Option Place) (w : Option (Value R)) (ks : List Kind) (s : List (Value R)) → HoldsOption o w
      → HasKinds ks s → Good (pushes world m next (option_map kind_of o) ks) (on_some w (λ v. on_stack (v ∷ s)))
  pushed None w ks s f h = tt
  pushed (Some p) None ks s f h = absurd f
  pushed (Some p) (Some v) ks s f h = on (kind_of p ∷ ks) (v ∷ s) (f, h)

  stored : (o : Option Place) (step : Value R → List (Value R) → Next R H)
      → ((p : Place) → o ≡ Some p → (u : Value R) (ks : List Kind) (s : List (Value R)) → HasKind (kind_of p) u
      → HasKinds ks s → Good (goes_on world m next ks) (step u s)) → (ks : List Kind) (s : List (Value R))
      → HasKinds ks s → Good (pops_into world m next o ks) (on_kept o s step)
  stored None step each ks s h = tt
  stored (Some p) step each [] s h = tt
  stored (Some p) step each (k ∷ ks) [] h = absurd h
  stored (Some p) step each (k ∷ ks) (v ∷ s) h =
      asked (kind_fits world k (kind_of p)) (goes_on world m next ks) _ (λ e.
      let found : IsKept p (kept p v) = kept_fits world p k v e h.0 in
      subst (λ o. Good (goes_on world m next ks) (on_some o (λ u. step u s))) (sym found.1) (each p refl found.0 ks s found.2 h.1))

  -- two integers, one integer, a count of four bytes
  two : (go : Width → (ℕ → Value R) → ℕ → ℕ → List (Value R) → Next R H)
      → ((a b : ℕ) (ks : List Kind) (s : List (Value R)) → HasKinds ks s
      → Good (goes_on world m next (kinds.I4 ∷ ks)) (go w32 I4 a b s))
      → ((a b : ℕ) (ks : List Kind) (s : List (Value R)) → HasKinds ks s
      → Good (goes_on world m next (kinds.I8 ∷ ks)) (go w64 I8 a b s)) → (ks : List Kind) (s : List (Value R))
      → HasKinds ks s → Good (joins world m next same_width ks) (on_numbers s go)
  two go e4 e8 [] s h = tt
  two go e4 e8 (y ∷ []) s h = tt
  two go e4 e8 (y ∷ x ∷ ks) [] h = absurd h
  two go e4 e8 (y ∷ x ∷ ks) (b ∷ []) h = absurd h.1
  two go e4 e8 (y ∷ x ∷ ks) (b ∷ a ∷ s) h =
      asked (same_width x y) (goes_on world m next (x ∷ ks)) _ (λ e. pair x y a b e h.1.0 h.0 ks s h.1.1)
    where
      pair : (x y : Kind) (a b : Value R) → same_width x y ≡ true → HasKind x a → HasKind y b
          → (ks : List Kind) (s : List (Value R)) → HasKinds ks s → Good (goes_on world m next (x ∷ ks)) (on_numbers (b ∷ a ∷ s) go)
      pair kinds.I4 kinds.I4 (I4 a) (I4 b) e hx hy ks s hs = e4 a b ks s hs
      pair kinds.I8 kinds.I8 (I8 a) (I8 b) e hx hy ks s hs = e8 a b ks s hs
      pair x y a b e hx hy ks s hs = absurd (first_of (cc, assumption))

  numbered : (go : Width → (ℕ → Value R) → ℕ → List (Value R) → Next R H)
      → ((a : ℕ) (ks : List Kind) (s : List (Value R)) → HasKinds ks s
      → Good (goes_on world m next (kinds.I4 ∷ ks)) (go w32 I4 a s))
      → ((a : ℕ) (ks : List Kind) (s : List (Value R)) → HasKinds ks s
      → Good (goes_on world m next (kinds.I8 ∷ ks)) (go w64 I8 a s)) → (x : Kind) (a : Value R) → is_integer x ≡ true
      → HasKind x a → (ks : List Kind) (s : List (Value R)) → HasKinds ks s → Good (goes_on world m next (x ∷ ks)) (on_number (a ∷ s) go)
  numbered go e4 e8 kinds.I4 (I4 a) e hx ks s hs = e4 a ks s hs
  numbered go e4 e8 kinds.I8 (I8 a) e hx ks s hs = e8 a ks s hs
  numbered go e4 e8 x a e hx ks s hs = absurd (first_of (cc, assumption))

  one_number : (go : Width → (ℕ → Value R) → ℕ → List (Value R) → Next R H)
      → ((a : ℕ) (ks : List Kind) (s : List (Value R)) → HasKinds ks s
      → Good (goes_on world m next (kinds.I4 ∷ ks)) (go w32 I4 a s))
      → ((a : ℕ) (ks : List Kind) (s : List (Value R)) → HasKinds ks s
      → Good (goes_on world m next (kinds.I8 ∷ ks)) (go w64 I8 a s)) → (ks : List Kind) (s : List (Value R))
      → HasKinds ks s → Good (pops world m next
      (λ kind rest. asks world m next (is_integer kind) (goes_on world m next (kind ∷ rest))) ks) (on_number s go)
  one_number go e4 e8 [] s h = tt
  one_number go e4 e8 (x ∷ ks) [] h = absurd h
  one_number go e4 e8 (x ∷ ks) (a ∷ s) h =
      asked (is_integer x) (goes_on world m next (x ∷ ks)) _ (λ e. numbered go e4 e8 x a e h.0 ks s h.1)

  computed_on : (k : Kind) (make : ℕ → Value R) → ((n : ℕ) → HasKind k (make n))
      → (c : Computed) (ks : List Kind) (s : List (Value R)) → HasKinds ks s
      → Good (goes_on world m next (k ∷ ks)) (computed store world m arguments locals heap make s c)
  computed_on k make has (Number n) ks s h = on (k ∷ ks) (make n ∷ s) (has n, h)
  computed_on k make has ZeroDivisor ks s h = tt
  computed_on k make has OutOfRange ks s h = tt

  -- jumps
  jumped : (arg : Arg) (ks : List Kind) (s : List (Value R)) → HasKinds ks s
      → Good (jumps world m next arg ks) (jump store world m arguments locals heap arg s)
  jumped (args.Target to) ks s h = (h, inl refl)
  jumped arg ks s h = tt

  jumped_if : (b : Bool) (arg : Arg) (ks : List Kind) (s : List (Value R)) → HasKinds ks s
      → Good (branches world m next arg ks) (jump_if store world m arguments locals heap b arg s)
  jumped_if true (args.Target to) ks s h = (h, inr (inl refl))
  jumped_if false (args.Target to) ks s h = (h, ha, hl, inl refl)
  jumped_if b arg ks s h = tt

  switched_to : (targets : List ℕ) (n : ℕ) (o : Option ℕ) → slice_get targets n ≡ o
      → (ks : List Kind) (s : List (Value R)) → HasKinds ks s
      → Good (Flows ks (next ∷ targets)) (target_or_on store world m arguments locals heap s o)
  switched_to targets n None e ks s h = (h, ha, hl, inl refl)
  switched_to targets n (Some to) e ks s h = (h, inr (in_get targets n to e))

  switched : (arg : Arg) (n : ℕ) (ks : List Kind) (s : List (Value R)) → HasKinds ks s
      → Good (switches world m next arg ks) (switch store world m arguments locals heap arg n s)
  switched (args.Targets targets) n ks s h = switched_to targets n (slice_get targets n) refl ks s h
  switched arg n ks s h = tt

  switched_on : (arg : Arg) (ks : List Kind) (s : List (Value R)) → HasKinds ks s
      → Good (pops world m next
      (λ kind rest. asks world m next (same_width kind kinds.I4) (switches world m next arg rest)) ks)
      (on_i4 s (λ n rest. switch store world m arguments locals heap arg n rest))
  switched_on arg [] s h = tt
  switched_on arg (k ∷ ks) [] h = absurd h
  switched_on arg (k ∷ ks) (v ∷ s) h =
      asked (same_width k kinds.I4) (switches world m next arg ks) _ (λ e.
      let found : (n : ℕ) × (v ≡ I4 n) = i4_of k v e h.0 in
      subst (λ u. Good (switches world m next arg ks)
      (on_i4 (u ∷ s) (λ n rest. switch store world m arguments locals heap arg n rest))) (sym found.1) (switched arg found.0 ks s h.1))

  -- two values that are compared
  compared_refs : (jumps_so : Bool) (c : Comparison) (x y : Kind) (r q : R)
      → can_compare_references jumps_so c x y ≡ true → (b : Bool) × (compare_references store c r q ≡ Some b)
  compared_refs jumps_so comparisons.Equal x y r q e = (store.same r q, refl)
  compared_refs jumps_so comparisons.NotEqual x y r q e = (not (store.same r q), refl)
  compared_refs jumps_so comparisons.GreaterUnsigned x y r q e = (not (store.is_null r), refl)
  compared_refs true c x y r q e = absurd (cc)
  compared_refs false c x y r q e = absurd (cc)

  compared : (jumps_so : Bool) (c : Comparison) (x y : Kind) (a b : Value R) → can_compare jumps_so c x y ≡ true
      → HasKind x a → HasKind y b → (r : Bool) × (compare store c a b ≡ Some r)
  unfolding compare
  compared jumps_so c kinds.I4 kinds.I4 (I4 a) (I4 b) e hx hy = (compares w32 c a b, refl)
  compared jumps_so c kinds.I8 kinds.I8 (I8 a) (I8 b) e hx hy = (compares w64 c a b, refl)
  compared jumps_so c kinds.Null kinds.Null (Ref r) (Ref q) e hx hy = compared_refs jumps_so c kinds.Null kinds.Null r q e
  compared jumps_so c kinds.Null (kinds.Ref to) (Ref r) (Ref q) e hx hy = compared_refs jumps_so c kinds.Null (kinds.Ref to) r q e
  compared jumps_so c (kinds.Ref of) kinds.Null (Ref r) (Ref q) e hx hy = compared_refs jumps_so c (kinds.Ref of) kinds.Null r q e
  compared jumps_so c (kinds.Ref of) (kinds.Ref to) (Ref r) (Ref q) e hx hy = compared_refs jumps_so c (kinds.Ref of) (kinds.Ref to) r q e
  compared jumps_so c x y a b e hx hy = absurd (first_of (cc, assumption))

  compares_on : (jumps_so : Bool) (c : Comparison) (go : List Kind → Flow) (step : Bool → List (Value R) → Next R H)
      → ((b : Bool) (ks : List Kind) (s : List (Value R)) → HasKinds ks s → Good (go ks) (step b s))
      → (ks : List Kind) (s : List (Value R)) → HasKinds ks s
      → Good (compares_two world m next (can_compare jumps_so c) go ks) (on_compared store c s step)
  compares_on jumps_so c go step each [] s h = tt
  compares_on jumps_so c go step each (y ∷ []) s h = tt
  compares_on jumps_so c go step each (y ∷ x ∷ ks) [] h = absurd h
  compares_on jumps_so c go step each (y ∷ x ∷ ks) (b ∷ []) h = absurd h.1
  compares_on jumps_so c go step each (y ∷ x ∷ ks) (b ∷ a ∷ s) h =
      asked (can_compare jumps_so c x y) (go ks) _ (λ e.
      let found : (r : Bool) × (compare store c a b ≡ Some r) = compared jumps_so c x y a b e h.1.0 h.0 in
      subst (λ o. Good (go ks) (on_some o (λ r. step r s))) (sym found.1) (each found.0 ks s h.1.1))

  flag_kind : (b : Bool) → HasKind kinds.I4 (flag store world m arguments locals heap b)
  flag_kind true = tt
  flag_kind false = tt

  -- shifts
  shifts_on : (go : ℕ → Width → (ℕ → Value R) → ℕ → List (Value R) → Next R H)
      → ((n a : ℕ) (ks : List Kind) (s : List (Value R)) → HasKinds ks s
      → Good (goes_on world m next (kinds.I4 ∷ ks)) (go n w32 I4 a s))
      → ((n a : ℕ) (ks : List Kind) (s : List (Value R)) → HasKinds ks s
      → Good (goes_on world m next (kinds.I8 ∷ ks)) (go n w64 I8 a s)) → (ks : List Kind) (s : List (Value R))
      → HasKinds ks s → Good (joins world m next (takes_count world m next) ks) (on_i4 s (λ n rest. on_number rest (go n)))
  shifts_on go e4 e8 [] s h = tt
  shifts_on go e4 e8 (y ∷ []) s h = tt
  shifts_on go e4 e8 (y ∷ x ∷ ks) [] h = absurd h
  shifts_on go e4 e8 (y ∷ x ∷ ks) (b ∷ []) h = absurd h.1
  shifts_on go e4 e8 (y ∷ x ∷ ks) (b ∷ a ∷ s) h =
      asked (takes_count world m next x y) (goes_on world m next (x ∷ ks)) _ (λ e.
      let count : (n : ℕ) × (b ≡ I4 n) = i4_of y b (both_right (is_integer x) (same_width y kinds.I4) e) h.0 in
      subst (λ u. Good (goes_on world m next (x ∷ ks)) (on_i4 (u ∷ a ∷ s) (λ n rest. on_number rest (go n)))) (sym count.1)
      (numbered (go count.0) (e4 count.0) (e8 count.0) x a (both_left (is_integer x) (same_width y kinds.I4) e) h.1.0 ks s h.1.1))

  -- conversions
  converts : (to : IntegerType) (k : Kind) (v : Value R) → is_integer k ≡ true → HasKind k v
      → (u : Value R) × (converted store world m arguments locals heap to v ≡ Some u)
      × HasKind (if is_wide to then kinds.I8 else kinds.I4) u
  converts to kinds.I4 (I4 n) e h = wide_or_not (is_wide to) (widened to n) (narrowed to n)
  converts to kinds.I8 (I8 n) e h = wide_or_not (is_wide to) n (narrowed to n)
  converts to k v e h = absurd (first_of (cc, assumption))

  converts_on : (to : IntegerType) (ks : List Kind) (s : List (Value R)) → HasKinds ks s
      → Good (pops world m next
      (λ kind rest. asks world m next (is_integer kind)
      (goes_on world m next ((if is_wide to then kinds.I8 else kinds.I4) ∷ rest))) ks)
      (on_one s (λ v rest. on_some (converted store world m arguments locals heap to v) (λ u. on_stack (u ∷ rest))))
  converts_on to [] s h = tt
  converts_on to (k ∷ ks) [] h = absurd h
  converts_on to (k ∷ ks) (v ∷ s) h =
      asked (is_integer k) (goes_on world m next ((if is_wide to then kinds.I8 else kinds.I4) ∷ ks)) _ (λ e.
      let found : (u : Value R) × (converted store world m arguments locals heap to v ≡ Some u)
      × HasKind (if is_wide to then kinds.I8 else kinds.I4) u = converts to k v e h.0 in
      subst (λ o. Good (goes_on world m next ((if is_wide to then kinds.I8 else kinds.I4) ∷ ks))
      (on_some o (λ u. on_stack (u ∷ s)))) (sym found.1)
      (on ((if is_wide to then kinds.I8 else kinds.I4) ∷ ks) (found.0 ∷ s) (found.2, h.1)))

  -- returns
  returns_as : (o : Option Place) → m.shape.result ≡ o → (ks : List Kind) (s : List (Value R)) → HasKinds ks s
      → Good (returns world m next o ks) (return_as store world m arguments locals heap o s)
  returns_as None e [] s h = subst (λ o. ResultFits {R = R} o None) (sym e) tt
  returns_as None e (k ∷ ks) s h = tt
  returns_as (Some p) e [] s h = tt
  returns_as (Some p) e (k ∷ l ∷ ks) s h = tt
  returns_as (Some p) e (k ∷ []) [] h = absurd h
  returns_as (Some p) e (k ∷ []) (v ∷ s) h =
      asked (kind_fits world k (kind_of p)) Stops _ (λ q.
      let found : IsKept p (kept p v) = kept_fits world p k v q h.0 in
      subst (λ o. Good Stops (on_some o (λ u. Gives (Some u) heap))) (sym found.1)
      (subst (λ o. ResultFits o (Some found.0)) (sym e) found.2))

  -- calls: so many values are popped, each of which fits its place
  many : (flow : Flow) (qs aps : List Place) (ks under : List Kind) (acc s : List (Value R))
      (go : List (Value R) → List (Value R) → Next R H) → under_arguments world qs ks ≡ Some under → HasKinds ks s
      → Holds aps acc → ((passed rest : List (Value R)) → Holds (last_first qs aps) passed → HasKinds under rest
      → Good flow (go passed rest)) → Good flow (on_many (length qs) acc s go)
  unfolding under_arguments on_many last_first
  many flow [] aps ks under acc s go e h hp each = let same : ks ≡ under = cc in each acc s hp (subst (λ k. HasKinds k s) same h)
  many flow (q ∷ qs) aps [] under acc s go e h hp each = absurd (cc)
  many flow (q ∷ qs) aps (k ∷ ks) under acc [] go e h hp each = absurd h
  many flow (q ∷ qs) aps (k ∷ ks) under acc (v ∷ s) go e h hp each =
      by_fit (λ e1 h1 hp1. many flow qs (q ∷ aps) ks under (v ∷ acc) s go e1 h1 hp1 each) (kind_fits world k (kind_of q)) refl e
    where
      by_fit : (under_arguments world qs ks ≡ Some under → HasKinds ks s → Holds (q ∷ aps) (v ∷ acc)
          → Good flow (on_many (length qs) (v ∷ acc) s go)) → (b : Bool) → kind_fits world k (kind_of q) ≡ b
          → (if b then under_arguments world qs ks else None) ≡ Some under → Good flow (on_many (length qs) (v ∷ acc) s go)
      by_fit rec true f g = rec g h.1 (fit_kind world q k v f h.0, hp)
      by_fit rec false f g = absurd (cc)

  called_by : (target : MethodId) (shape : Shape) (b : Bool) (o : Option (List Kind))
      → profile_shape world target ≡ Some shape → (ks : List Kind) (s : List (Value R))
      → under_arguments world (last_first shape.arguments []) ks ≡ o → HasKinds ks s
      → Good (called world m next b shape.result o) (call_with store world m arguments locals heap s target (Some shape))
  called_by target shape true o p ks s e h = tt
  called_by target shape false None p ks s e h = tt
  called_by target shape false (Some under) p ks s e h =
      let count : length (last_first shape.arguments []) ≡ length shape.arguments = omega (arith, last_first_length shape.arguments []) in
      subst (λ n. Good (goes_on world m next (result_onto world m next shape.result under))
      (on_many n [] s (λ passed rest. Calls target passed rest heap))) count
      (many (goes_on world m next (result_onto world m next shape.result under)) (last_first shape.arguments []) [] ks
      under [] s (λ passed rest. Calls target passed rest heap) e h tt
      (λ passed rest hp hr. (
        record {
          shape = shape;
          is = p;
          arguments = subst (λ ps. Holds ps passed) (last_first_twice shape.arguments) hp;
          under = under;
          result =
              result_is shape.result under;
          below = hr;
        },
        inl refl,
      )))
    where
      result_is : (place : Option Place) (ks : List Kind) → result_onto world m next place ks ≡ onto place ks
      result_is None ks = refl
      result_is (Some place) ks = refl

  calls_shape : (target : MethodId) (o : Option Shape) → profile_shape world target ≡ o
      → (ks : List Kind) (s : List (Value R)) → HasKinds ks s
      → Good (calls_with world m next ks target o) (call_with store world m arguments locals heap s target o)
  calls_shape target None p ks s h = tt
  calls_shape target (Some shape) p ks s h =
      called_by target shape (is_abstract world target) (under_arguments world (last_first shape.arguments []) ks) p ks s refl h

  calls_method : (o : Option MethodId) (ks : List Kind) (s : List (Value R)) → HasKinds ks s
      → Good (calls_of world m next ks o) (call_of store world m arguments locals heap s o)
  calls_method None ks s h = tt
  calls_method (Some target) ks s h = calls_shape target (profile_shape world target) refl ks s h

  calls_on : (arg : Arg) (ks : List Kind) (s : List (Value R)) → HasKinds ks s
      → Good (calls world m next arg ks) (call store world m arguments locals heap arg s)
  calls_on (args.Token token) ks s h = calls_method (resolve_method world m.id.asm token) ks s h
  calls_on arg ks s h = tt

  -- ---- each instruction
  pub act_sound : (operation : Operation) (arg : Arg) (ks : List Kind) (s : List (Value R)) → HasKinds ks s
      → Good (flow_of world m next operation arg ks) (act store world m arguments locals heap operation arg s)
  unfolding flow_of act
  act_sound operations.Nop arg ks s h = on ks s h
  act_sound (operations.LoadArgument i) arg ks s h =
      pushed (slice_get m.shape.arguments i) (slice_get arguments i) ks s (held_at m.shape.arguments arguments i ha) h
  act_sound (operations.StoreArgument i) arg ks s h =
      stored (slice_get m.shape.arguments i) (λ v rest. Stays (slice_set arguments i v) locals rest heap)
      (λ p e u ks s hu hs. (hs, set_holds m.shape.arguments arguments i p u ha e hu, hl, inl refl)) ks s h
  act_sound (operations.LoadLocal i) arg ks s h = pushed (slice_get m.locals i) (slice_get locals i) ks s (held_at m.locals locals i hl) h
  act_sound (operations.StoreLocal i) arg ks s h =
      stored (slice_get m.locals i) (λ v rest. Stays arguments (slice_set locals i v) rest heap)
      (λ p e u ks s hu hs. (hs, ha, set_holds m.locals locals i p u hl e hu, inl refl)) ks s h
  act_sound operations.LoadNull arg ks s h = on (kinds.Null ∷ ks) (Ref store.null ∷ s) (tt, h)
  act_sound (operations.LoadInt32 z) arg ks s h = on (kinds.I4 ∷ ks) (I4 (cast_unsigned w32 z) ∷ s) (tt, h)
  act_sound (operations.LoadInt64 z) arg ks s h = on (kinds.I8 ∷ ks) (I8 (cast_unsigned w64 z) ∷ s) (tt, h)
  act_sound operations.Duplicate arg ks s h =
      popped (λ kind rest. goes_on world m next (kind ∷ kind ∷ rest)) (λ v rest. on_stack (v ∷ v ∷ rest))
      (λ k ks v s hv hs. on (k ∷ k ∷ ks) (v ∷ v ∷ s) (hv, (hv, hs))) ks s h
  act_sound operations.Pop arg ks s h =
      popped (λ kind rest. goes_on world m next rest) (λ v rest. on_stack rest) (λ k ks v s hv hs. on ks s hs) ks s h
  act_sound operations.Call arg ks s h = calls_on arg ks s h
  act_sound operations.Return arg ks s h = returns_as m.shape.result refl ks s h
  act_sound operations.Jump arg ks s h = jumped arg ks s h
  act_sound operations.BranchFalse arg ks s h =
      popped (λ kind rest. branches world m next arg rest)
      (λ v rest. jump_if store world m arguments locals heap (not (is_true store v)) arg rest)
      (λ k ks v s hv hs. jumped_if (not (is_true store v)) arg ks s hs) ks s h
  act_sound operations.BranchTrue arg ks s h =
      popped (λ kind rest. branches world m next arg rest)
      (λ v rest. jump_if store world m arguments locals heap (is_true store v) arg rest)
      (λ k ks v s hv hs. jumped_if (is_true store v) arg ks s hs) ks s h
  act_sound (operations.Branch c) arg ks s h =
      compares_on true c (branches world m next arg) (λ b rest. jump_if store world m arguments locals heap b arg rest)
      (λ b ks s hs. jumped_if b arg ks s hs) ks s h
  act_sound operations.Switch arg ks s h = switched_on arg ks s h
  act_sound (operations.Binary operator) arg ks s h =
      two (λ w make x y rest. computed store world m arguments locals heap make rest (binary w operator x y))
      (λ a b ks s hs. computed_on kinds.I4 I4 (λ n. tt) (binary w32 operator a b) ks s hs)
      (λ a b ks s hs. computed_on kinds.I8 I8 (λ n. tt) (binary w64 operator a b) ks s hs) ks s h
  act_sound (operations.Checked operator) arg ks s h =
      two (λ w make x y rest. computed store world m arguments locals heap make rest (checked_binary w operator x y))
      (λ a b ks s hs. computed_on kinds.I4 I4 (λ n. tt) (checked_binary w32 operator a b) ks s hs)
      (λ a b ks s hs. computed_on kinds.I8 I8 (λ n. tt) (checked_binary w64 operator a b) ks s hs) ks s h
  act_sound (operations.Shift operator) arg ks s h =
      shifts_on (λ n w make x rest. on_stack (make (shifted w operator x n) ∷ rest))
      (λ n a ks s hs. on (kinds.I4 ∷ ks) (I4 (shifted w32 operator a n) ∷ s) (tt, hs))
      (λ n a ks s hs. on (kinds.I8 ∷ ks) (I8 (shifted w64 operator a n) ∷ s) (tt, hs)) ks s h
  act_sound operations.Negate arg ks s h =
      one_number (λ w make x rest. on_stack (make (negated w x) ∷ rest))
      (λ a ks s hs. on (kinds.I4 ∷ ks) (I4 (negated w32 a) ∷ s) (tt, hs))
      (λ a ks s hs. on (kinds.I8 ∷ ks) (I8 (negated w64 a) ∷ s) (tt, hs)) ks s h
  act_sound operations.Not arg ks s h =
      one_number (λ w make x rest. on_stack (make (inverted w x) ∷ rest))
      (λ a ks s hs. on (kinds.I4 ∷ ks) (I4 (inverted w32 a) ∷ s) (tt, hs))
      (λ a ks s hs. on (kinds.I8 ∷ ks) (I8 (inverted w64 a) ∷ s) (tt, hs)) ks s h
  act_sound (operations.Compare c) arg ks s h =
      compares_on false c (λ rest. goes_on world m next (kinds.I4 ∷ rest))
      (λ b rest. on_stack (flag store world m arguments locals heap b ∷ rest))
      (λ b ks s hs. on (kinds.I4 ∷ ks) (flag store world m arguments locals heap b ∷ s) (flag_kind b, hs)) ks s h
  act_sound (operations.Convert to) arg ks s h = converts_on to ks s h
  act_sound operation arg ks s h = tt

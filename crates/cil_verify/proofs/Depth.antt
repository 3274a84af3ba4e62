-- How many types are on the stack at an offset stays the same in all rounds, so an instruction that once leaves too many has no typing.
use Rattle.std.proofs.Common.{◌≡◌, ℕ, zero, suc, ◌+◌, ◌<◌, ◌≤◌, ◌==◌, ◌&&◌, Bool, true, false, nat_lt, nat_le, List, [], ◌∷◌}
use Rattle.std.proofs.Common.{length, find, fold, drop, get_or, Option, Some, None, refl, sym, ap, ◌∙◌, subst, arith, cond}
use Rattle.std.proofs.Common.{if◌then◌else◌, eqb-true, eq-eqb, ltb-true, leb-true}
use Rattle.std.specs.Prelude.{slice_get}
use Rattle.std.specs.Option.{option_map, option_map_or}
use Rattle.std.specs.List.{list_all}
use Rattle.cil_decode.specs.declared.instr.Arg.{Arg}
use Rattle.cil_decode.specs.declared.instr.Arg.TheVariants as args
use Rattle.cil_decode.specs.declared.instr.Instr.{Instr}
use Rattle.cil_decode.specs.declared.operation.Operation.{Operation}
use Rattle.cil_decode.specs.declared.operation.Operation.TheVariants as operations
use Rattle.cil_decode.specs.Operations.{operation_of}
use Rattle.cil_decode.specs.Instructions.{instr_size}
use Rattle.type_world.specs.declared.identity.MethodId.{MethodId}
use Rattle.cil_meaning.specs.declared.kind.Kind.{Kind}
use Rattle.cil_meaning.specs.declared.kind.Kind.TheVariants as kinds
use Rattle.type_world.specs.declared.place.Place.{Place}
use Rattle.type_world.specs.declared.place.Shape.{Shape}
use Rattle.type_world.specs.World.{World}
use Rattle.cil_meaning.specs.Arithmetic.{is_wide}
use Rattle.type_world.specs.Members.{resolve_method}
use Rattle.type_world.specs.Profile.{Method, is_abstract, profile_shape}
use Rattle.cil_meaning.specs.Typing.{Flow, Untyped, Stops, Flows, Typing, asks, branches, called, calls, calls_of, calls_with, can_compare}
use Rattle.cil_meaning.specs.Typing.{compares_two, flow_at, flow_by, flow_if, flow_of, goes_on, is_integer, is_typing, joins, jumps, keeps}
use Rattle.cil_meaning.specs.Typing.{kind_fits, kind_of, last_first, pops, pops_into, pushes, result_onto, returns, same_typing, same_width}
use Rattle.cil_meaning.specs.Typing.{settled, settled_or, stack_at, switches, takes_count, under_arguments, widen_all, with_flow}
use Rattle.cil_meaning.specs.Typing.{with_stack}
use Rattle.cil_meaning.proofs.Rounds.{at_itself, at_others, merged}
use Rattle.cil_verify.specs.Subjects.{Subject, is_deep, is_typing_of, least_of, meets_in, rounded, settled_in}
use Rattle.cil_verify.specs.Subjects.{settled_of, takes_in, too_deep, visited}

-- ---- stacks of one length

abbrev pub AsLong : List Kind → List Kind → Type 0
AsLong [] [] = Unit {0}
AsLong (k ∷ ks) (l ∷ ls) = AsLong ks ls
AsLong ks ls = ⊥

long_itself : (ks : List Kind) → AsLong ks ks
long_itself [] = tt
long_itself (k ∷ ks) = long_itself ks

long_after : (ks ls ms : List Kind) → AsLong ks ls → AsLong ls ms → AsLong ks ms
long_after [] [] [] g h = tt
long_after (k ∷ ks) (l ∷ ls) (m ∷ ms) g h = long_after ks ls ms g h
long_after [] [] (m ∷ ms) g h = absurd h
long_after [] (l ∷ ls) ms g h = absurd g
long_after (k ∷ ks) [] ms g h = absurd g
long_after (k ∷ ks) (l ∷ ls) [] g h = absurd h

long_back : (ks ls : List Kind) → AsLong ks ls → AsLong ls ks
long_back [] [] h = tt
long_back (k ∷ ks) (l ∷ ls) h = long_back ks ls h
long_back [] (l ∷ ls) h = absurd h
long_back (k ∷ ks) [] h = absurd h

same_length : (ks ls : List Kind) → AsLong ks ls → length ks ≡ length ls
same_length [] [] h = refl
same_length (k ∷ ks) (l ∷ ls) h = ap suc (same_length ks ls h)
same_length [] (l ∷ ls) h = absurd h
same_length (k ∷ ks) [] h = absurd h

widened_long : (world : World) (ks ls : List Kind) → AsLong (widen_all world ks ls) ks
unfolding widen_all
widened_long world [] ls = tt
widened_long world (k ∷ ks) [] = long_itself ks
widened_long world (k ∷ ks) (l ∷ ls) = widened_long world ks ls

-- ---- what instructions leave on stacks of one length: an instruction without a typing may have one at another stack

abbrev pub Sized : Flow → Flow → Type 0
Sized (Flows ks to) (Flows ls at) = AsLong ks ls
Sized (Flows ks to) Stops = ⊥
Sized f g = Unit {0}

module _ (world : World) (method : Method) (next : ℕ) where
  untyped_last : (f : Flow) → Sized f Untyped
  untyped_last Untyped = tt
  untyped_last Stops = tt
  untyped_last (Flows ks to) = tt

  asked : (b c : Bool) (f g : Flow) → Sized f g → Sized (asks world method next b f) (asks world method next c g)
  asked true true f g h = h
  asked true false f g h = untyped_last f
  asked false c f g h = tt

  popped : (go : Kind → List Kind → Flow) → ((k l : Kind) (ks ls : List Kind) → AsLong ks ls → Sized (go k ks) (go l ls))
      → (ks ls : List Kind) → AsLong ks ls → Sized (pops world method next go ks) (pops world method next go ls)
  popped go each [] [] h = tt
  popped go each (k ∷ ks) (l ∷ ls) h = each k l ks ls h
  popped go each [] (l ∷ ls) h = absurd h
  popped go each (k ∷ ks) [] h = absurd h

  pushed : (o : Option Kind) (ks ls : List Kind) → AsLong ks ls → Sized (pushes world method next o ks) (pushes world method next o ls)
  pushed None ks ls h = tt
  pushed (Some k) ks ls h = h

  stored : (o : Option Place) (ks ls : List Kind) → AsLong ks ls
      → Sized (pops_into world method next o ks) (pops_into world method next o ls)
  stored None ks ls h = tt
  stored (Some place) ks ls h =
      popped (λ kind rest. asks world method next (kind_fits world kind (kind_of place)) (goes_on world method next rest))
      (λ k l ks ls r. asked (kind_fits world k (kind_of place)) (kind_fits world l (kind_of place)) (goes_on world method next ks)
      (goes_on world method next ls) r)
      ks ls h

  joined : (takes : Kind → Kind → Bool) (ks ls : List Kind) → AsLong ks ls
      → Sized (joins world method next takes ks) (joins world method next takes ls)
  joined takes [] [] h = tt
  joined takes (y ∷ []) (z ∷ []) h = tt
  joined takes (y ∷ x ∷ ks) (z ∷ w ∷ ls) h =
      asked (takes x y) (takes w z) (goes_on world method next (x ∷ ks)) (goes_on world method next (w ∷ ls)) h
  joined takes [] (z ∷ ls) h = absurd h
  joined takes (y ∷ ks) [] h = absurd h
  joined takes (y ∷ []) (z ∷ w ∷ ls) h = absurd h
  joined takes (y ∷ x ∷ ks) (z ∷ []) h = absurd h

  compared : (takes : Kind → Kind → Bool) (go : List Kind → Flow) → ((ks ls : List Kind) → AsLong ks ls → Sized (go ks) (go ls))
      → (ks ls : List Kind) → AsLong ks ls → Sized (compares_two world method next takes go ks) (compares_two world method next takes go ls)
  compared takes go each [] [] h = tt
  compared takes go each (y ∷ []) (z ∷ []) h = tt
  compared takes go each (y ∷ x ∷ ks) (z ∷ w ∷ ls) h = asked (takes x y) (takes w z) (go ks) (go ls) (each ks ls h)
  compared takes go each [] (z ∷ ls) h = absurd h
  compared takes go each (y ∷ ks) [] h = absurd h
  compared takes go each (y ∷ []) (z ∷ w ∷ ls) h = absurd h
  compared takes go each (y ∷ x ∷ ks) (z ∷ []) h = absurd h

  jumped : (arg : Arg) (ks ls : List Kind) → AsLong ks ls → Sized (jumps world method next arg ks) (jumps world method next arg ls)
  jumped (args.Target to) ks ls h = h
  jumped arg ks ls h = tt

  branched : (arg : Arg) (ks ls : List Kind) → AsLong ks ls → Sized (branches world method next arg ks) (branches world method next arg ls)
  branched (args.Target to) ks ls h = h
  branched arg ks ls h = tt

  switched : (arg : Arg) (ks ls : List Kind) → AsLong ks ls → Sized (switches world method next arg ks) (switches world method next arg ls)
  switched (args.Targets targets) ks ls h = h
  switched arg ks ls h = tt

  -- calls and returns
  abbrev UnderLong : Option (List Kind) → Option (List Kind) → Type 0
  UnderLong (Some ks) (Some ls) = AsLong ks ls
  UnderLong o p = Unit {0}

  none_last : (o : Option (List Kind)) → UnderLong o None
  none_last None = tt
  none_last (Some ks) = tt

  under_if : (b c : Bool) (o p : Option (List Kind)) → UnderLong o p → UnderLong (if b then o else None) (if c then p else None)
  under_if true true o p h = h
  under_if true false o p h = none_last o
  under_if false c o p h = tt

  under_long : (places : List Place) (ks ls : List Kind) → AsLong ks ls
      → UnderLong (under_arguments world places ks) (under_arguments world places ls)
  unfolding under_arguments
  under_long [] ks ls h = h
  under_long (place ∷ places) [] [] h = tt
  under_long (place ∷ places) (k ∷ ks) (l ∷ ls) h =
      under_if (kind_fits world k (kind_of place)) (kind_fits world l (kind_of place)) (under_arguments world places ks)
      (under_arguments world places ls) (under_long places ks ls h)
  under_long (place ∷ places) [] (l ∷ ls) h = absurd h
  under_long (place ∷ places) (k ∷ ks) [] h = absurd h

  result_long : (place : Option Place) (ks ls : List Kind) → AsLong ks ls
      → AsLong (result_onto world method next place ks) (result_onto world method next place ls)
  result_long None ks ls h = h
  result_long (Some place) ks ls h = h

  called_sized : (b : Bool) (place : Option Place) (o p : Option (List Kind)) → UnderLong o p
      → Sized (called world method next b place o) (called world method next b place p)
  called_sized true place o p h = tt
  called_sized false place None p h = tt
  called_sized false place (Some ks) None h = tt
  called_sized false place (Some ks) (Some ls) h = result_long place ks ls h

  shape_sized : (target : MethodId) (o : Option Shape) (ks ls : List Kind) → AsLong ks ls
      → Sized (calls_with world method next ks target o) (calls_with world method next ls target o)
  shape_sized target None ks ls h = tt
  shape_sized target (Some shape) ks ls h =
      called_sized (is_abstract world target) shape.result (under_arguments world (last_first shape.arguments []) ks)
      (under_arguments world (last_first shape.arguments []) ls) (under_long (last_first shape.arguments []) ks ls h)

  method_sized : (o : Option MethodId) (ks ls : List Kind) → AsLong ks ls
      → Sized (calls_of world method next ks o) (calls_of world method next ls o)
  method_sized None ks ls h = tt
  method_sized (Some target) ks ls h = shape_sized target (profile_shape world target) ks ls h

  call_sized : (arg : Arg) (ks ls : List Kind) → AsLong ks ls → Sized (calls world method next arg ks) (calls world method next arg ls)
  call_sized (args.Token token) ks ls h = method_sized (resolve_method world method.id.asm token) ks ls h
  call_sized arg ks ls h = tt

  stops_first : (b : Bool) (g : Flow) → Sized (asks world method next b Stops) g
  stops_first true g = tt
  stops_first false g = tt

  return_sized : (place : Option Place) (ks : List Kind) (g : Flow) → Sized (returns world method next place ks) g
  return_sized None [] g = tt
  return_sized None (k ∷ ks) g = tt
  return_sized (Some place) [] g = tt
  return_sized (Some place) (k ∷ []) g = stops_first (kind_fits world k (kind_of place)) g
  return_sized (Some place) (k ∷ j ∷ ks) g = tt

  one_number : (left : Kind → Kind) (ks ls : List Kind) → AsLong ks ls
      → Sized
      (pops world method next (λ kind rest. asks world method next (is_integer kind) (goes_on world method next (left kind ∷ rest))) ks)
      (pops world method next (λ kind rest. asks world method next (is_integer kind) (goes_on world method next (left kind ∷ rest))) ls)
  one_number left ks ls h =
      popped (λ kind rest. asks world method next (is_integer kind) (goes_on world method next (left kind ∷ rest)))
      (λ k l ks ls r. asked (is_integer k) (is_integer l) (goes_on world method next (left k ∷ ks))
      (goes_on world method next (left l ∷ ls)) r)
      ks ls h

  flow_sized : (operation : Operation) (arg : Arg) (ks ls : List Kind) → AsLong ks ls
      → Sized (flow_of world method next operation arg ks) (flow_of world method next operation arg ls)
  unfolding flow_of
  flow_sized operations.Nop arg ks ls h = h
  flow_sized (operations.LoadArgument i) arg ks ls h = pushed (option_map kind_of (slice_get method.shape.arguments i)) ks ls h
  flow_sized (operations.StoreArgument i) arg ks ls h = stored (slice_get method.shape.arguments i) ks ls h
  flow_sized (operations.LoadLocal i) arg ks ls h = pushed (option_map kind_of (slice_get method.locals i)) ks ls h
  flow_sized (operations.StoreLocal i) arg ks ls h = stored (slice_get method.locals i) ks ls h
  flow_sized operations.LoadNull arg ks ls h = h
  flow_sized (operations.LoadInt32 z) arg ks ls h = h
  flow_sized (operations.LoadInt64 z) arg ks ls h = h
  flow_sized operations.Duplicate arg ks ls h =
      popped (λ kind rest. goes_on world method next (kind ∷ kind ∷ rest)) (λ k l ks ls r. r) ks ls h
  flow_sized operations.Pop arg ks ls h = popped (λ kind rest. goes_on world method next rest) (λ k l ks ls r. r) ks ls h
  flow_sized operations.Call arg ks ls h = call_sized arg ks ls h
  flow_sized operations.Return arg ks ls h = return_sized method.shape.result ks (returns world method next method.shape.result ls)
  flow_sized operations.Jump arg ks ls h = jumped arg ks ls h
  flow_sized operations.BranchFalse arg ks ls h =
      popped (λ kind rest. branches world method next arg rest) (λ k l ks ls r. branched arg ks ls r) ks ls h
  flow_sized operations.BranchTrue arg ks ls h =
      popped (λ kind rest. branches world method next arg rest) (λ k l ks ls r. branched arg ks ls r) ks ls h
  flow_sized (operations.Branch c) arg ks ls h = compared (can_compare true c) (branches world method next arg) (branched arg) ks ls h
  flow_sized operations.Switch arg ks ls h =
      popped (λ kind rest. asks world method next (same_width kind kinds.I4) (switches world method next arg rest))
      (λ k l ks ls r. asked (same_width k kinds.I4) (same_width l kinds.I4) (switches world method next arg ks)
      (switches world method next arg ls) (switched arg ks ls r))
      ks ls h
  flow_sized (operations.Binary operator) arg ks ls h = joined same_width ks ls h
  flow_sized (operations.Checked operator) arg ks ls h = joined same_width ks ls h
  flow_sized (operations.Shift operator) arg ks ls h = joined (takes_count world method next) ks ls h
  flow_sized operations.Negate arg ks ls h = one_number (λ kind. kind) ks ls h
  flow_sized operations.Not arg ks ls h = one_number (λ kind. kind) ks ls h
  flow_sized (operations.Compare c) arg ks ls h =
      compared (can_compare false c) (λ rest. goes_on world method next (kinds.I4 ∷ rest)) (λ ks ls r. r) ks ls h
  flow_sized (operations.Convert to) arg ks ls h = one_number (λ kind. if is_wide to then kinds.I8 else kinds.I4) ks ls h
  flow_sized operation arg ks ls h = tt

flow_at_sized : (world : World) (method : Method) (last : ℕ) (i : Instr) (ks ls : List Kind) → AsLong ks ls
    → Sized (flow_at world method last i ks) (flow_at world method last i ls)
unfolding flow_at
flow_at_sized world method last i ks ls h = by_last (nat_lt last i.at)
  where
    by_operation : (o : Option Operation) → Sized (flow_by world method i ks o) (flow_by world method i ls o)
    by_operation None = tt
    by_operation (Some operation) = flow_sized world method (i.at + instr_size i) operation i.arg ks ls h

    by_last : (b : Bool) → Sized (flow_if b world method i ks) (flow_if b world method i ls)
    by_last true = tt
    by_last false = by_operation (operation_of i)

-- ---- the stacks of an offset are as long after any round

record LongIn (typing : Typing) (at : ℕ) (ks : List Kind) : Type 0 where
  found : List Kind
  is : stack_at typing at ≡ Some found
  long : AsLong found ks

abbrev Longs : Typing → Typing → Type 0
Longs t u = (at : ℕ) (ks : List Kind) → stack_at t at ≡ Some ks → LongIn u at ks

longs_itself : (t : Typing) → Longs t t
longs_itself t = λ at ks e. record { found = ks; is = e; long = long_itself ks }

longs_after : (t u v : Typing) → Longs t u → Longs u v → Longs t v
longs_after t u v g h = λ at ks e.
    let one = g at ks e in
    let two = h at one.found one.is in
    record { found = two.found; is = two.is; long = long_after two.found one.found ks two.long one.long }

module _ (world : World) where
  kept : (s : List Kind) (to : ℕ) (t : Typing) → Longs t (with_stack world s to t)
  kept s to t = λ at ks e. by_test at ks e (to == at) refl
    where
      by_test : (at : ℕ) (ks : List Kind) → stack_at t at ≡ Some ks → (b : Bool) → (to == at) ≡ b → LongIn (with_stack world s to t) at ks
      by_test at ks e true q =
          let here : to ≡ at = eqb-true to at q in
          let before : stack_at t to ≡ Some ks = subst (λ n. stack_at t n ≡ Some ks) (sym here) e in
          let after : stack_at (with_stack world s to t) to ≡ Some (widen_all world ks s) =
          at_itself world s to t ∙ ap (λ o. Some (merged world s o)) before in
          record {
            found = widen_all world ks s;
            is = subst (λ n. stack_at (with_stack world s to t) n ≡ Some (widen_all world ks s)) here after;
            long = widened_long world ks s;
          }
      by_test at ks e false q = record { found = ks; is = at_others world s to at t q ∙ e; long = long_itself ks }

  each_kept : (s : List Kind) (to : List ℕ) (t : Typing) → Longs t (fold (λ so_far at. with_stack world s at so_far) t to)
  each_kept s [] t = longs_itself t
  each_kept s (at ∷ to) t =
      longs_after t (with_stack world s at t) (fold (λ so_far at. with_stack world s at so_far) (with_stack world s at t) to)
      (kept s at t) (each_kept s to (with_stack world s at t))

  flow_kept : (flow : Flow) (t : Typing) → Longs t (with_flow world t flow)
  flow_kept Untyped t = longs_itself t
  flow_kept Stops t = longs_itself t
  flow_kept (Flows s to) t = each_kept s to t

module _ (s : Subject) (last : ℕ) where
  instr_kept : (i : Instr) (t : Typing) → Longs t (visited s last t i)
  instr_kept i t = by_stack (stack_at t i.at)
    where
      by_stack : (o : Option (List Kind))
          → Longs t (option_map_or (λ ks. with_flow s.world t (flow_at s.world s.method last i ks)) o t)
      by_stack None = longs_itself t
      by_stack (Some ks) = flow_kept s.world (flow_at s.world s.method last i ks) t

  rest_kept : (list : List Instr) (t : Typing) → Longs t (fold (visited s last) t list)
  rest_kept [] t = longs_itself t
  rest_kept (i ∷ list) t =
      longs_after t (visited s last t i) (fold (visited s last) (visited s last t i) list) (instr_kept i t)
      (rest_kept list (visited s last t i))

  settled_kept : (n : ℕ) (t : Typing) → Longs t (settled_in s last n t)
  unfolding settled
  settled_kept zero t = longs_itself t
  settled_kept (suc n) t = by_test (settled_kept n (rounded s last t)) (same_typing (rounded s last t) t)
    where
      by_test : Longs (rounded s last t) (settled_in s last n (rounded s last t)) → (b : Bool)
          → Longs t (settled_or (settled_in s last n) b (rounded s last t))
      by_test rest true = rest_kept s.instrs t
      by_test rest false =
          longs_after t (rounded s last t) (settled_in s last n (rounded s last t)) (rest_kept s.instrs t) rest

  -- ---- an instruction that leaves too many types meets no rule

  not_kept : (final : Typing) (f g : Flow) → is_deep s f ≡ true → Sized f g → keeps s.world s.method s.instrs final g ≡ false
  not_kept final Untyped g deep h = absurd (cc)
  not_kept final Stops g deep h = absurd (cc)
  not_kept final (Flows ks to) Untyped deep h = refl
  not_kept final (Flows ks to) Stops deep h = absurd h
  not_kept final (Flows ks to) (Flows ls at) deep h = by_test (nat_le (length ls) s.method.max_stack) refl
    where
      by_test : (b : Bool) → nat_le (length ls) s.method.max_stack ≡ b → (b && list_all (takes_in s final ls) at) ≡ false
      by_test true e =
          let few : length ls ≤ s.method.max_stack = leb-true (length ls) s.method.max_stack e in
          let many : s.method.max_stack < length ks = ltb-true s.method.max_stack (length ks) deep in
          absurd (omega (arith, few, many, same_length ks ls h))
      by_test false e = refl

  fails : (t final : Typing) (i : Instr) → too_deep s last t i ≡ true → Longs t final → meets_in s last final i ≡ false
  fails t final i deep longs = by_stack (stack_at t i.at) refl deep
    where
      by_stack : (o : Option (List Kind)) → stack_at t i.at ≡ o
          → option_map_or (λ ks. is_deep s (flow_at s.world s.method last i ks)) o false ≡ true → meets_in s last final i ≡ false
      by_stack None q e = absurd (cc)
      by_stack (Some ks) q e =
          let there = longs i.at ks q in
          ap (λ o. option_map_or (λ ls. keeps s.world s.method s.instrs final (flow_at s.world s.method last i ls)) o true) there.is
          ∙ not_kept final (flow_at s.world s.method last i ks) (flow_at s.world s.method last i there.found) e
          (flow_at_sized s.world s.method last i ks there.found (long_back there.found ks there.long))

  one_fails : (p : Instr → Bool) (list : List Instr) (k : ℕ) (d : Instr) → k < length list → p (get_or list k d) ≡ false
      → list_all p list ≡ false
  one_fails p [] k d k_in e = absurd (omega arith)
  one_fails p (i ∷ list) zero d k_in e = ap (λ b. b && list_all p list) e
  one_fails p (i ∷ list) (suc k) d k_in e = ap (λ b. p i && b) (one_fails p list k d (omega arith) e) ∙ nothing (p i)
    where
      nothing : (b : Bool) → (b && false) ≡ false
      nothing true = refl
      nothing false = refl

  -- no typing comes of rounds
  pub never_least : is_typing_of s last (settled_of s last) ≡ false → least_of s last ≡ None
  never_least e = ap (λ b. if b then Some (settled_of s last) else None) e

  pub deep_round : (t so_far : Typing) (k : ℕ) (i : Instr) → i ≡ get_or s.instrs k i → k < length s.instrs
      → fold (visited s last) so_far (drop k s.instrs) ≡ rounded s last t → too_deep s last so_far i ≡ true → (n : ℕ)
      → is_typing_of s last (settled_in s last n (rounded s last t)) ≡ false
  unfolding is_typing
  deep_round t so_far k i i_is k_in rest deep n =
      let final = settled_in s last n (rounded s last t) in
      let longs : Longs so_far final =
      longs_after so_far (rounded s last t) final
      (subst (λ u. Longs so_far u) rest (rest_kept (drop k s.instrs) so_far)) (settled_kept n (rounded s last t)) in
      let failed : meets_in s last final (get_or s.instrs k i) ≡ false =
      subst (λ (j : Instr). meets_in s last final j ≡ false) i_is (fails so_far final i deep longs) in
      ap (λ b. option_map_or (λ stack. length stack == 0) (stack_at final 0) false && b)
      (one_fails (meets_in s last final) s.instrs k i k_in failed)
      ∙ nothing (option_map_or (λ stack. length stack == 0) (stack_at final 0) false)
    where
      nothing : (b : Bool) → (b && false) ≡ false
      nothing true = refl
      nothing false = refl

-- The rule of an instruction is monotone: with a stack that fits another one it flows as with the other one, to a stack that fits.
use Rattle.std.proofs.Common.{◌≡◌, ℕ, ◌+◌, ◌&&◌, nat_lt, Bool, true, false, not, List, [], ◌∷◌, Option, Some, None}
use Rattle.std.proofs.Common.{refl, ap, ◌∙◌, if◌then◌else◌, slice_get}
use Rattle.std.specs.Option.{option_map}
use Rattle.cil_decode.specs.declared.instr.Arg.{Arg}
use Rattle.cil_decode.specs.declared.instr.Arg.TheVariants as args
use Rattle.cil_decode.specs.declared.instr.Instr.{Instr}
use Rattle.cil_decode.specs.declared.operation.Operation.{Operation}
use Rattle.cil_decode.specs.declared.operation.Operation.TheVariants as operations
use Rattle.cil_decode.specs.declared.operation.Comparison.{Comparison}
use Rattle.cil_decode.specs.declared.operation.Comparison.TheVariants as comparisons
use Rattle.cil_decode.specs.Operations.{operation_of}
use Rattle.cil_decode.specs.Instructions.{instr_size}
use Rattle.type_world.specs.declared.identity.MethodId.{MethodId}
use Rattle.cil_meaning.specs.declared.kind.Kind.{Kind}
use Rattle.cil_meaning.specs.declared.kind.Kind.TheVariants as kinds
use Rattle.type_world.specs.World.{World}
use Rattle.type_world.specs.Members.{resolve_method}
use Rattle.type_world.specs.declared.place.Place.{Place}
use Rattle.type_world.specs.declared.place.Shape.{Shape}
use Rattle.type_world.specs.Profile.{Method, is_abstract, profile_shape}
use Rattle.cil_meaning.specs.Arithmetic.{is_wide}
use Rattle.cil_meaning.specs.Typing.{Flow, Untyped, Stops, Flows, asks, branches, called, calls, calls_of, calls_with}
use Rattle.cil_meaning.specs.Typing.{can_compare, can_compare_references, compares_two, flow_at, flow_by, flow_if}
use Rattle.cil_meaning.specs.Typing.{flow_of, goes_on, is_integer, is_null, is_reference, joins, jumps, kind_fits}
use Rattle.cil_meaning.specs.Typing.{kind_of, last_first, pops, pops_into, pushes, result_onto, returns, same_width}
use Rattle.cil_meaning.specs.Typing.{stack_fits, switches, takes_count, under_arguments}
use Rattle.type_world.proofs.Bound.{both_left, both_right}
use Rattle.cil_meaning.proofs.Widening.{both, kind_itself, kind_more}

-- what a flow says where another one has a typing
abbrev pub FlowFits : World → Flow → Flow → Type 0
FlowFits world f Untyped = Unit {0}
FlowFits world Stops Stops = Unit {0}
FlowFits world (Flows ks to) (Flows ls up) = (stack_fits world ks ls ≡ true) × (to ≡ up)
FlowFits world f g = ⊥

module _ (world : World) where
  -- ---- integers fit themselves alone, and null fits no other type but references

  integer_is : (l k : Kind) → kind_fits world k l ≡ true → is_integer l ≡ true → k ≡ l
  unfolding kind_fits
  integer_is kinds.I4 kinds.I4 a b = refl
  integer_is kinds.I8 kinds.I8 a b = refl
  integer_is l k a b = absurd (cc)

  same_sort : (l k : Kind) → kind_fits world k l ≡ true → is_integer k ≡ is_integer l
  unfolding kind_fits
  same_sort kinds.I4 kinds.I4 a = refl
  same_sort kinds.I8 kinds.I8 a = refl
  same_sort kinds.Null kinds.Null a = refl
  same_sort (kinds.Ref to) kinds.Null a = refl
  same_sort (kinds.Ref to) (kinds.Ref of) a = refl
  same_sort l k a = absurd (cc)

  null_is : (l k : Kind) → kind_fits world k l ≡ true → is_null l ≡ true → is_null k ≡ true
  unfolding kind_fits
  null_is kinds.Null kinds.Null a b = refl
  null_is l k a b = absurd (cc)

  integers : (l m : Kind) → same_width l m ≡ true → (is_integer l ≡ true) × (is_integer m ≡ true)
  integers kinds.I4 kinds.I4 e = (refl, refl)
  integers kinds.I8 kinds.I8 e = (refl, refl)
  integers l m e = absurd (cc)

  -- what two operands are asked holds of those that fit them
  abbrev IsMonotone : (Kind → Kind → Bool) → Type 0
  IsMonotone takes = (x up y top : Kind) → kind_fits world x up ≡ true → kind_fits world y top ≡ true
      → takes up top ≡ true → takes x y ≡ true

  width_monotone : IsMonotone same_width
  width_monotone x up y top a b e =
      let both_are : (is_integer up ≡ true) × (is_integer top ≡ true) = integers up top e in
      ap (λ k. same_width k y) (integer_is up x a both_are.0) ∙ ap (same_width up) (integer_is top y b both_are.1) ∙ e

  integer_monotone : (k l : Kind) → kind_fits world k l ≡ true → is_integer l ≡ true → is_integer k ≡ true
  integer_monotone k l a e = same_sort l k a ∙ e

  references_monotone : (jumps_so : Bool) (c : Comparison) (x up y top : Kind) → kind_fits world y top ≡ true
      → can_compare_references jumps_so c up top ≡ true → can_compare_references jumps_so c x y ≡ true
  references_monotone jumps_so comparisons.Equal x up y top b e = refl
  references_monotone jumps_so comparisons.NotEqual x up y top b e = refl
  references_monotone false comparisons.GreaterUnsigned x up y top b e = null_is top y b e
  references_monotone true comparisons.GreaterUnsigned x up y top b e = absurd (cc)
  references_monotone jumps_so c x up y top b e = absurd (cc)

  compare_monotone : (jumps_so : Bool) (c : Comparison) → IsMonotone (can_compare jumps_so c)
  compare_monotone jumps_so c x up y top a b e =
      let sorts : (is_reference x && is_reference y) ≡ (is_reference up && is_reference top) =
      ap (λ s. not s && is_reference y) (same_sort up x a) ∙ ap (λ s. is_reference up && not s) (same_sort top y b) in
      ap (λ r. if r then can_compare_references jumps_so c x y else same_width x y) sorts ∙ by_sort (is_reference up && is_reference top) e
    where
      by_sort : (r : Bool) → (if r then can_compare_references jumps_so c up top else same_width up top) ≡ true
          → (if r then can_compare_references jumps_so c x y else same_width x y) ≡ true
      by_sort true h = references_monotone jumps_so c x up y top b h
      by_sort false h = width_monotone x up y top a b h

module _ (world : World) (method : Method) (next : ℕ) where
  abbrev Fit : Flow → Flow → Type 0
  Fit f g = FlowFits world f g

  on : (ks ls : List Kind) → stack_fits world ks ls ≡ true → Fit (goes_on world method next ks) (goes_on world method next ls)
  on ks ls h = (h, refl)

  asked : (b c : Bool) (f g : Flow) → (c ≡ true → b ≡ true) → Fit f g → Fit (asks world method next b f) (asks world method next c g)
  asked true true f g h fit = fit
  asked b false f g h fit = tt
  asked false true f g h fit = absurd (let missed = h refl in cc)

  popped : (go : Kind → List Kind → Flow)
      → ((k l : Kind) (ks ls : List Kind) → kind_fits world k l ≡ true → stack_fits world ks ls ≡ true
      → Fit (go k ks) (go l ls)) → (ks ls : List Kind) → stack_fits world ks ls ≡ true
      → Fit (pops world method next go ks) (pops world method next go ls)
  popped go each [] [] h = tt
  popped go each (k ∷ ks) (l ∷ ls) h =
      each k l ks ls (both_left (kind_fits world k l) (stack_fits world ks ls) h)
      (both_right (kind_fits world k l) (stack_fits world ks ls) h)
  popped go each ks ls h = absurd (cc)

  pushed : (o : Option Kind) (ks ls : List Kind) → stack_fits world ks ls ≡ true
      → Fit (pushes world method next o ks) (pushes world method next o ls)
  pushed None ks ls h = tt
  pushed (Some k) ks ls h = (both world (kind_fits world k k) (stack_fits world ks ls) (kind_itself world k) h, refl)

  stored : (o : Option Place) (ks ls : List Kind) → stack_fits world ks ls ≡ true
      → Fit (pops_into world method next o ks) (pops_into world method next o ls)
  stored None ks ls h = tt
  stored (Some place) ks ls h =
      popped (λ kind rest. asks world method next (kind_fits world kind (kind_of place)) (goes_on world method next rest))
      (λ k l ks ls a r. asked (kind_fits world k (kind_of place)) (kind_fits world l (kind_of place))
      (goes_on world method next ks) (goes_on world method next ls) (λ e. kind_more world k l (kind_of place) a e) (r, refl)) ks ls h

  -- two operands
  two : (takes : Kind → Kind → Bool) (go : Kind → List Kind → Flow) → IsMonotone world takes
      → ((k l : Kind) (ks ls : List Kind) → kind_fits world k l ≡ true → stack_fits world ks ls ≡ true
      → Fit (go k ks) (go l ls)) → (y top : Kind) → kind_fits world y top ≡ true → (x up : Kind) (ks ls : List Kind)
      → kind_fits world x up ≡ true → stack_fits world ks ls ≡ true
      → Fit (asks world method next (takes x y) (go x ks)) (asks world method next (takes up top) (go up ls))
  two takes go monotone each y top b x up ks ls a h =
      asked (takes x y) (takes up top) (go x ks) (go up ls) (λ e. monotone x up y top a b e) (each x up ks ls a h)

  joined : (takes : Kind → Kind → Bool) → IsMonotone world takes → (ks ls : List Kind) → stack_fits world ks ls ≡ true
      → Fit (joins world method next takes ks) (joins world method next takes ls)
  joined takes monotone [] [] h = tt
  joined takes monotone (y ∷ ks) (top ∷ ls) h =
      under ks ls (both_left (kind_fits world y top) (stack_fits world ks ls) h)
      (both_right (kind_fits world y top) (stack_fits world ks ls) h)
    where
      under : (ks ls : List Kind) → kind_fits world y top ≡ true → stack_fits world ks ls ≡ true
          → Fit (joins world method next takes (y ∷ ks)) (joins world method next takes (top ∷ ls))
      under [] [] b r = tt
      under (x ∷ ks) (up ∷ ls) b r =
          two takes (λ kind rest. goes_on world method next (kind ∷ rest)) monotone
          (λ k l ks ls a s. (both world (kind_fits world k l) (stack_fits world ks ls) a s, refl)) y top b x up ks ls
          (both_left (kind_fits world x up) (stack_fits world ks ls) r) (both_right (kind_fits world x up) (stack_fits world ks ls) r)
      under ks ls b r = absurd (cc)
  joined takes monotone ks ls h = absurd (cc)

  compared : (takes : Kind → Kind → Bool) (go : List Kind → Flow) → IsMonotone world takes
      → ((ks ls : List Kind) → stack_fits world ks ls ≡ true → Fit (go ks) (go ls)) → (ks ls : List Kind)
      → stack_fits world ks ls ≡ true → Fit (compares_two world method next takes go ks) (compares_two world method next takes go ls)
  compared takes go monotone each [] [] h = tt
  compared takes go monotone each (y ∷ ks) (top ∷ ls) h =
      under ks ls (both_left (kind_fits world y top) (stack_fits world ks ls) h)
      (both_right (kind_fits world y top) (stack_fits world ks ls) h)
    where
      under : (ks ls : List Kind) → kind_fits world y top ≡ true → stack_fits world ks ls ≡ true
          → Fit (compares_two world method next takes go (y ∷ ks)) (compares_two world method next takes go (top ∷ ls))
      under [] [] b r = tt
      under (x ∷ ks) (up ∷ ls) b r =
          two takes (λ kind rest. go rest) monotone (λ k l ks ls a s. each ks ls s) y top b x up ks ls
          (both_left (kind_fits world x up) (stack_fits world ks ls) r) (both_right (kind_fits world x up) (stack_fits world ks ls) r)
      under ks ls b r = absurd (cc)
  compared takes go monotone each ks ls h = absurd (cc)

  -- jumps
  jumped : (arg : Arg) (ks ls : List Kind) → stack_fits world ks ls ≡ true
      → Fit (jumps world method next arg ks) (jumps world method next arg ls)
  jumped (args.Target to) ks ls h = (h, refl)
  jumped arg ks ls h = tt

  branched : (arg : Arg) (ks ls : List Kind) → stack_fits world ks ls ≡ true
      → Fit (branches world method next arg ks) (branches world method next arg ls)
  branched (args.Target to) ks ls h = (h, refl)
  branched arg ks ls h = tt

  switched : (arg : Arg) (ks ls : List Kind) → stack_fits world ks ls ≡ true
      → Fit (switches world method next arg ks) (switches world method next arg ls)
  switched (args.Targets targets) ks ls h = (h, refl)
  switched arg ks ls h = tt

  -- calls and returns
  abbrev UnderFits : Option (List Kind) → Option (List Kind) → Type 0
  UnderFits o None = Unit {0}
  UnderFits (Some ks) (Some ls) = stack_fits world ks ls ≡ true
  UnderFits None (Some ls) = ⊥

  under_if : (b c : Bool) (o p : Option (List Kind)) → (c ≡ true → b ≡ true) → UnderFits o p
      → UnderFits (if b then o else None) (if c then p else None)
  under_if true true o p h fit = fit
  under_if b false o p h fit = tt
  under_if false true o p h fit = absurd (let missed = h refl in cc)

  under_fits : (places : List Place) (ks ls : List Kind) → stack_fits world ks ls ≡ true
      → UnderFits (under_arguments world places ks) (under_arguments world places ls)
  unfolding under_arguments
  under_fits [] ks ls h = h
  under_fits (place ∷ places) [] [] h = tt
  under_fits (place ∷ places) (k ∷ ks) (l ∷ ls) h =
      under_if (kind_fits world k (kind_of place)) (kind_fits world l (kind_of place)) (under_arguments world places ks)
      (under_arguments world places ls)
      (λ e. kind_more world k l (kind_of place) (both_left (kind_fits world k l) (stack_fits world ks ls) h) e)
      (under_fits places ks ls (both_right (kind_fits world k l) (stack_fits world ks ls) h))
  under_fits (place ∷ places) ks ls h = absurd (cc)

  result_fits : (place : Option Place) (ks ls : List Kind) → stack_fits world ks ls ≡ true
      → stack_fits world (result_onto world method next place ks) (result_onto world method next place ls) ≡ true
  result_fits None ks ls h = h
  result_fits (Some place) ks ls h =
      both world (kind_fits world (kind_of place) (kind_of place)) (stack_fits world ks ls) (kind_itself world (kind_of place)) h

  called_fits : (b : Bool) (place : Option Place) (o p : Option (List Kind)) → UnderFits o p
      → Fit (called world method next b place o) (called world method next b place p)
  called_fits true place o p h = tt
  called_fits false place o None h = tt
  called_fits false place (Some ks) (Some ls) h = (result_fits place ks ls h, refl)
  called_fits false place None (Some ls) h = absurd h

  shape_fits : (target : MethodId) (o : Option Shape) (ks ls : List Kind) → stack_fits world ks ls ≡ true
      → Fit (calls_with world method next ks target o) (calls_with world method next ls target o)
  shape_fits target None ks ls h = tt
  shape_fits target (Some shape) ks ls h =
      called_fits (is_abstract world target) shape.result (under_arguments world (last_first shape.arguments []) ks)
      (under_arguments world (last_first shape.arguments []) ls)
      (under_fits (last_first shape.arguments []) ks ls h)

  method_fits : (o : Option MethodId) (ks ls : List Kind) → stack_fits world ks ls ≡ true
      → Fit (calls_of world method next ks o) (calls_of world method next ls o)
  method_fits None ks ls h = tt
  method_fits (Some target) ks ls h = shape_fits target (profile_shape world target) ks ls h

  call_fits : (arg : Arg) (ks ls : List Kind) → stack_fits world ks ls ≡ true
      → Fit (calls world method next arg ks) (calls world method next arg ls)
  call_fits (args.Token token) ks ls h = method_fits (resolve_method world method.id.asm token) ks ls h
  call_fits arg ks ls h = tt

  return_fits : (place : Option Place) (ks ls : List Kind) → stack_fits world ks ls ≡ true
      → Fit (returns world method next place ks) (returns world method next place ls)
  return_fits None [] [] h = tt
  return_fits None (k ∷ ks) [] h = absurd (cc)
  return_fits None ks (l ∷ ls) h = tt
  return_fits (Some place) ks [] h = tt
  return_fits (Some place) [] (l ∷ ls) h = absurd (cc)
  return_fits (Some place) (k ∷ ks) (l ∷ m ∷ ls) h = tt
  return_fits (Some place) (k ∷ []) (l ∷ []) h =
      asked (kind_fits world k (kind_of place)) (kind_fits world l (kind_of place)) Stops Stops
      (λ e. kind_more world k l (kind_of place) (both_left (kind_fits world k l) true h) e) tt
  return_fits (Some place) (k ∷ j ∷ ks) (l ∷ []) h = absurd (let missed : false ≡ true = both_right (kind_fits world k l) false h in cc)

  -- ---- each instruction

  flow_fits : (operation : Operation) (arg : Arg) (ks ls : List Kind) → stack_fits world ks ls ≡ true
      → Fit (flow_of world method next operation arg ks) (flow_of world method next operation arg ls)
  unfolding flow_of
  flow_fits operations.Nop arg ks ls h = on ks ls h
  flow_fits (operations.LoadArgument i) arg ks ls h = pushed (option_map kind_of (slice_get method.shape.arguments i)) ks ls h
  flow_fits (operations.StoreArgument i) arg ks ls h = stored (slice_get method.shape.arguments i) ks ls h
  flow_fits (operations.LoadLocal i) arg ks ls h = pushed (option_map kind_of (slice_get method.locals i)) ks ls h
  flow_fits (operations.StoreLocal i) arg ks ls h = stored (slice_get method.locals i) ks ls h
  flow_fits operations.LoadNull arg ks ls h = pushed (Some kinds.Null) ks ls h
  flow_fits (operations.LoadInt32 z) arg ks ls h = pushed (Some kinds.I4) ks ls h
  flow_fits (operations.LoadInt64 z) arg ks ls h = pushed (Some kinds.I8) ks ls h
  flow_fits operations.Duplicate arg ks ls h =
      popped (λ kind rest. goes_on world method next (kind ∷ kind ∷ rest))
      (λ k l ks ls a r. (
        both world (kind_fits world k l) (kind_fits world k l && stack_fits world ks ls) a
            (both world (kind_fits world k l) (stack_fits world ks ls) a r),
        refl,
      )) ks ls h
  flow_fits operations.Pop arg ks ls h = popped (λ kind rest. goes_on world method next rest) (λ k l ks ls a r. (r, refl)) ks ls h
  flow_fits operations.Call arg ks ls h = call_fits arg ks ls h
  flow_fits operations.Return arg ks ls h = return_fits method.shape.result ks ls h
  flow_fits operations.Jump arg ks ls h = jumped arg ks ls h
  flow_fits operations.BranchFalse arg ks ls h =
      popped (λ kind rest. branches world method next arg rest) (λ k l ks ls a r. branched arg ks ls r) ks ls h
  flow_fits operations.BranchTrue arg ks ls h =
      popped (λ kind rest. branches world method next arg rest) (λ k l ks ls a r. branched arg ks ls r) ks ls h
  flow_fits (operations.Branch c) arg ks ls h =
      compared (can_compare true c) (branches world method next arg) (compare_monotone world true c) (branched arg) ks ls h
  flow_fits operations.Switch arg ks ls h =
      popped (λ kind rest. asks world method next (same_width kind kinds.I4) (switches world method next arg rest))
      (λ k l ks ls a r. asked (same_width k kinds.I4) (same_width l kinds.I4) (switches world method next arg ks)
      (switches world method next arg ls)
      (λ e. width_monotone world k l kinds.I4 kinds.I4 a (kind_itself world kinds.I4) e) (switched arg ks ls r)) ks ls h
  flow_fits (operations.Binary operator) arg ks ls h = joined same_width (width_monotone world) ks ls h
  flow_fits (operations.Checked operator) arg ks ls h = joined same_width (width_monotone world) ks ls h
  flow_fits (operations.Shift operator) arg ks ls h = joined (takes_count world method next) count_monotone ks ls h
    where
      count_monotone : IsMonotone world (takes_count world method next)
      count_monotone x up y top a b e =
          both world (is_integer x) (same_width y kinds.I4)
          (integer_monotone world x up a (both_left (is_integer up) (same_width top kinds.I4) e))
          (width_monotone world y top kinds.I4 kinds.I4 b (kind_itself world kinds.I4)
          (both_right (is_integer up) (same_width top kinds.I4) e))
  flow_fits operations.Negate arg ks ls h = one_number ks ls h
    where
      one_number : (ks ls : List Kind) → stack_fits world ks ls ≡ true
          → Fit (pops world method next
          (λ kind rest. asks world method next (is_integer kind) (goes_on world method next (kind ∷ rest))) ks)
          (pops world method next (λ kind rest. asks world method next (is_integer kind) (goes_on world method next (kind ∷ rest))) ls)
      one_number ks ls h =
          popped (λ kind rest. asks world method next (is_integer kind) (goes_on world method next (kind ∷ rest)))
          (λ k l ks ls a r. asked (is_integer k) (is_integer l) (goes_on world method next (k ∷ ks))
          (goes_on world method next (l ∷ ls)) (λ e. integer_monotone world k l a e)
          (both world (kind_fits world k l) (stack_fits world ks ls) a r, refl)) ks ls h
  flow_fits operations.Not arg ks ls h =
      popped (λ kind rest. asks world method next (is_integer kind) (goes_on world method next (kind ∷ rest)))
      (λ k l ks ls a r. asked (is_integer k) (is_integer l) (goes_on world method next (k ∷ ks))
      (goes_on world method next (l ∷ ls)) (λ e. integer_monotone world k l a e)
      (both world (kind_fits world k l) (stack_fits world ks ls) a r, refl)) ks ls h
  flow_fits (operations.Compare c) arg ks ls h =
      compared (can_compare false c) (λ rest. goes_on world method next (kinds.I4 ∷ rest))
      (compare_monotone world false c) (λ ks ls r. pushed (Some kinds.I4) ks ls r) ks ls h
  flow_fits (operations.Convert to) arg ks ls h =
      popped (λ kind rest. asks world method next (is_integer kind)
      (goes_on world method next ((if is_wide to then kinds.I8 else kinds.I4) ∷ rest)))
      (λ k l ks ls a r. asked (is_integer k) (is_integer l) _ _ (λ e. integer_monotone world k l a e)
      (pushed (Some (if is_wide to then kinds.I8 else kinds.I4)) ks ls r)) ks ls h
  flow_fits operation arg ks ls h = tt

-- of the instruction at an offset
pub flow_at_fits : (world : World) (method : Method) (last : ℕ) (i : Instr) (ks ls : List Kind)
    → stack_fits world ks ls ≡ true → FlowFits world (flow_at world method last i ks) (flow_at world method last i ls)
unfolding flow_at
flow_at_fits world method last i ks ls h = by_last (nat_lt last i.at)
  where
    by_operation : (o : Option Operation) → FlowFits world (flow_by world method i ks o) (flow_by world method i ls o)
    by_operation None = tt
    by_operation (Some operation) = flow_fits world method (i.at + instr_size i) operation i.arg ks ls h

    by_last : (b : Bool) → FlowFits world (flow_if b world method i ks) (flow_if b world method i ls)
    by_last true = tt
    by_last false = by_operation (operation_of i)

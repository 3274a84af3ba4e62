-- A run of typed code is never stuck: each frame is at an instruction of its typing, with values of the types that are said there.
use Rattle.std.proofs.Common.{◌≡◌, ◌≢◌, inl, inr, ℕ, zero, suc, ◌+◌, ◌<◌, ◌*◌, ◌++◌, ◌&&◌, ◌||◌, ◌==◌, not, Bool, true}
use Rattle.std.proofs.Common.{false, nat_lt, nat_le, ℤ, List, [], ◌∷◌, length, Option, Some, None}
use Rattle.std.proofs.Common.{Ok, refl, sym, ap, ◌∙◌, subst, arith, if◌then◌else◌, option_and_then, is_some}
use Rattle.std.proofs.Common.{eqb-true, eq-eqb, le-ltb}
use Rattle.std.specs.Option.{option_map, option_map_or}
use Rattle.std.specs.List.{list_all, list_any}
use Rattle.std.specs.Cmp.Lexicographic.{pointwise}
use Rattle.metadata.specs.declared.schema.Table.TheVariants as tables
use Rattle.cil_decode.specs.declared.instr.Instr.{Instr}
use Rattle.cil_decode.specs.declared.operation.Operation.{Operation}
use Rattle.cil_decode.specs.Operations.{operation_of}
use Rattle.cil_decode.specs.Instructions.{instr_at, instr_size}
use Rattle.cil_decode.specs.Bodies.{Follow, IsBody, is_start}
use Rattle.cli_assembly.specs.declared.signature.MethodSig.{MethodSig}
use Rattle.cli_assembly.specs.declared.flags.TheConstants.{METHOD_STATIC}
use Rattle.cli_assembly.specs.Bodies.{MethodBody}
use Rattle.cli_assembly.specs.Assemblies.{body_of}
use Rattle.type_world.specs.declared.identity.MethodId.{MethodId}
use Rattle.cil_meaning.specs.declared.kind.Kind.{Kind}
use Rattle.cil_meaning.specs.declared.kind.Kind.TheVariants as kinds
use Rattle.cil_meaning.specs.declared.ending.Ending.TheVariants as endings
use Rattle.type_world.specs.World.{World, assembly_in}
use Rattle.type_world.specs.Members.{class_of_method, is_built_in, signature_of}
use Rattle.type_world.specs.declared.place.Place.{Place}
use Rattle.type_world.specs.declared.place.Shape.{Shape}
use Rattle.type_world.specs.Profile.{Method, few_arguments, if_meets, if_narrow, instrs_of, is_abstract, is_generic}
use Rattle.type_world.specs.Profile.{is_in_profile, is_narrow, locals_of, meets_limits, meets_profile, method}
use Rattle.type_world.specs.Profile.{method_flag, method_of, method_with, places_of, profile_method, profile_shape}
use Rattle.type_world.specs.Profile.{result_of, shape, shape_by, shape_in_profile, shape_of, shape_with, with_this}
use Rattle.type_world.specs.Entries.{can_start, is_printable, takes_number, takes_numbers}
use Rattle.cil_meaning.specs.Typing.{Flow, Untyped, Stops, Flows, Typing, flow_at, flow_by, flow_if, flow_of}
use Rattle.cil_meaning.specs.Typing.{if_verifies, is_typing, keeps, kind_fits, meets_rule, method_in_profile}
use Rattle.cil_meaning.specs.Typing.{stack_at, stack_fits, takes_stack, typing_by, typing_of}
use Rattle.cil_meaning.specs.State.{Value, Ref, Answer, Fine, Bad, Wrong, Store, Frame, Begun, State, Run, Going}
use Rattle.cil_meaning.specs.State.{Over, Stuck, Next, Stays, Goes, Calls, Gives, Ends, no_objects}
use Rattle.cil_meaning.specs.Step.{act_on, at_frame, frame_step, instr_in, kept_all}
use Rattle.cil_meaning.specs.Run.{after, arguments_by, arguments_of, begin, begin_below, begin_in, cil, enter, enter_by}
use Rattle.cil_meaning.specs.Run.{give, given, go_to, line_of, onto as onto_stack, print_line, proceed}
use Rattle.cil_meaning.specs.Run.{run_of, start, step, step_at, tick}
use Rattle.cil_meaning.specs.Soundness.{CallFits, HasKind, HasKinds, Holds, In, ResultFits, Sound, onto}
use Rattle.cil_meaning.specs.Laws.{TypedCodeRuns}
use Rattle.cil_decode.proofs.Sizes.{offset_is}
use Rattle.type_world.proofs.Bound.{both_left, both_right, instr_inside}
use Rattle.type_world.proofs.Decoded.{whole}
use Rattle.cil_meaning.proofs.Typed.{typed}
use Rattle.cil_meaning.proofs.Sound.{act_sound}
use Rattle.cil_meaning.proofs.Entered.{AreKeptBy, Prints, call_prints, entry_prints, held_are_kept, numbers_held, zeros_held}

-- ---- the instruction at an offset

-- one of the instructions of a code is read where it begins, and has whatever all of them have
record IsAt (code : List ℕ) (list : List Instr) (k : ℕ) : Type 0 where
  i : Instr
  read : instr_at code k ≡ Ok i
  here : i.at ≡ k
  all : (p : Instr → Bool) → list_all p list ≡ true → p i ≡ true

found_at : (code : List ℕ) (at end k : ℕ) (list : List Instr) → Follow code at list end → is_start list k ≡ true → IsAt code list k
found_at code at end k [] follow e = absurd (cc)
found_at code at end k (i ∷ list) follow e = by_start (λ e1. found_at code (at + instr_size i) end k list follow.1 e1) (i.at == k) refl e
  where
    more : IsAt code list k → IsAt code (i ∷ list) k
    more f = record { i = f.i; read = f.read; here = f.here; all = λ p h. f.all p (both_right (p i) (list_all p list) h) }

    by_start : (is_start list k ≡ true → IsAt code list k) → (b : Bool) → (i.at == k) ≡ b
        → (b || list_any (λ j. j.at == k) list) ≡ true → IsAt code (i ∷ list) k
    by_start rest true q h =
        let here : i.at ≡ k = eqb-true i.at k q in
        record {
          i = i;
          read = subst (λ n. instr_at code n ≡ Ok i) (sym (offset_is code at i follow.0) ∙ here) follow.0;
          here = here;
          all = λ p all. both_left (p i) (list_all p list) all;
        }
    by_start rest false q h = more (rest h)

-- ---- values of a stack that fits another one

module _ {R : Type 0} (world : World) where
  kind_has : (k l : Kind) (v : Value R) → kind_fits world k l ≡ true → HasKind k v → HasKind l v
  unfolding kind_fits
  kind_has kinds.I4 kinds.I4 v e h = h
  kind_has kinds.I8 kinds.I8 v e h = h
  kind_has kinds.Null kinds.Null v e h = h
  kind_has kinds.Null (kinds.Ref to) (Ref r) e h = tt
  kind_has (kinds.Ref of) (kinds.Ref to) (Ref r) e h = tt
  kind_has k l v e h = absurd (first_of (cc, assumption))

  stack_has : (ks ls : List Kind) (s : List (Value R)) → stack_fits world ks ls ≡ true → HasKinds ks s → HasKinds ls s
  stack_has [] [] s e h = h
  stack_has [] (l ∷ ls) s e h = absurd (cc)
  stack_has (k ∷ ks) [] s e h = absurd (cc)
  stack_has (k ∷ ks) (l ∷ ls) [] e h = absurd h
  stack_has (k ∷ ks) (l ∷ ls) (v ∷ s) e h = (
    kind_has k l v (both_left (kind_fits world k l) (stack_fits world ks ls) e) h.0,
    stack_has ks ls s (both_right (kind_fits world k l) (stack_fits world ks ls) e) h.1,
  )

  result_has : (place : Option Place) (v : Option (Value R)) (ks : List Kind) (s : List (Value R)) (H : Type 0)
      (store : Store R H) → ResultFits place v → HasKinds ks s → HasKinds (onto place ks) (onto_stack store world v s)
  result_has None None ks s H store f h = h
  result_has None (Some v) ks s H store f h = absurd f
  result_has (Some place) None ks s H store f h = absurd f
  result_has (Some place) (Some v) ks s H store f h = (f, h)

-- ---- a method in the profile, with its instructions and its typing

record Verified (world : World) (id : MethodId) (m : Method) : Type 0 where
  instrs : List Instr
  typing : Typing
  profile : method_in_profile world id ≡ Some m
  found : method_of world id ≡ Some m
  shape_is : profile_shape world id ≡ Some m.shape
  some : 0 < length m.code
  follow : Follow m.code 0 instrs (length m.code)
  typing_is : is_typing world m (length m.code) instrs typing ≡ true

-- the parts of a row that was found
record Parts (world : World) (id : MethodId) (m : Method) : Type 0 where
  is : m.id ≡ id
  shape_is : shape_of world id ≡ Some m.shape

parts_of : (world : World) (id : MethodId) (m : Method) → method_of world id ≡ Some m → Parts world id m
unfolding method_of
parts_of world id m e = by_shape (shape_of world id) refl e
  where
    by_locals : (s : Shape) (body : MethodBody) (o : Option (List Place)) → shape_of world id ≡ Some s
        → option_map (method id body s) o ≡ Some m → Parts world id m
    by_locals s body None q h = absurd (cc)
    by_locals s body (Some locals) q h =
        let same : method id body s locals ≡ m = cc in
        subst (λ x. Parts world id x) same (record { is = refl; shape_is = q })

    by_body : (s : Shape) (o : Option MethodBody) → shape_of world id ≡ Some s
        → option_and_then (method_with world id s) o ≡ Some m → Parts world id m
    by_body s None q h = absurd (cc)
    by_body s (Some body) q h = by_locals s body (locals_of world id.asm body.locals) q h

    by_shape : (o : Option Shape) → shape_of world id ≡ o
        → option_and_then (λ s. option_and_then (method_with world id s) (body_of (assembly_in world id.asm) id.row)) o
        ≡ Some m → Parts world id m
    by_shape None q h = absurd (cc)
    by_shape (Some s) q h = by_body s (body_of (assembly_in world id.asm) id.row) q h

-- a shape that is in the profile is the method's own
shape_in : (world : World) (id : MethodId) (s : Shape) → shape_of world id ≡ Some s → shape_in_profile world id ≡ true
    → profile_shape world id ≡ Some s
unfolding profile_shape
shape_in world id s e h =
    ap (option_and_then (if_narrow world id)) e
    ∙ by_narrow (is_narrow world id s) (subst (λ o. is_some (option_and_then (if_narrow world id) o) ≡ true) e h)
  where
    by_narrow : (b : Bool) → is_some (if b then Some s else None) ≡ true → (if b then Some s else None) ≡ Some s
    by_narrow true h = refl
    by_narrow false h = absurd (cc)

shape_asked : (world : World) (m : Method) → meets_profile world m ≡ true → shape_in_profile world m.id ≡ true
shape_asked world m h =
    let a = shape_in_profile world m.id in
    let b = is_in_profile world (class_of_method world m.id) in
    let c = not (is_abstract world m.id) in
    let d = not (is_generic world m.id.asm tables.MethodDef m.id.row) in
    both_left a b (both_left (a && b) c (both_left (a && b && c) d (both_left (a && b && c && d) (meets_limits m) h)))

verified : (world : World) (id : MethodId) (m : Method) → method_in_profile world id ≡ Some m → Verified world id m
unfolding method_in_profile profile_method typing_of
verified world id m e = by_found (method_of world id) refl e
  where
    by_instrs : (x : Method) (t : Typing) → method_of world id ≡ Some x → meets_profile world x ≡ true
        → (o : Option (List Instr)) → instrs_of x.code ≡ o → option_and_then (typing_by world x) o ≡ Some t → x ≡ m → Verified world id m
    by_instrs x t found meets None c h same = absurd (cc)
    by_instrs x t found meets (Some instrs) c h same =
        let parts : Parts world id x = parts_of world id x found in
        let body : IsBody x.code instrs = whole x.code instrs c in
        subst (λ y. Verified world id y) same (record {
          instrs = instrs;
          typing = t;
          profile = e ∙ ap Some (sym same);
          found = found;
          shape_is =
              shape_in world id x.shape parts.shape_is (subst (λ n. shape_in_profile world n ≡ true) parts.is (shape_asked world x meets));
          some = body.code_is.some;
          follow = body.code_is.follow;
          typing_is = typed world x instrs t c (ap (option_and_then (typing_by world x)) c ∙ h);
        })

    by_typing : (x : Method) → method_of world id ≡ Some x → meets_profile world x ≡ true → (o : Option Typing)
        → typing_of world x ≡ o → option_map (λ t. x) o ≡ Some m → Verified world id m
    by_typing x found meets None q h = absurd (cc)
    by_typing x found meets (Some t) q h = let same : x ≡ m = cc in by_instrs x t found meets (instrs_of x.code) refl q same

    by_meets : (x : Method) → method_of world id ≡ Some x → (b : Bool) → meets_profile world x ≡ b
        → option_and_then (if_verifies world) (if b then Some x else None) ≡ Some m → Verified world id m
    by_meets x found true q h = by_typing x found q (typing_of world x) refl h
    by_meets x found false q h = absurd (cc)

    by_found : (o : Option Method) → method_of world id ≡ o
        → option_and_then (if_verifies world) (option_and_then (if_meets world) o) ≡ Some m → Verified world id m
    by_found None q h = absurd (cc)
    by_found (Some x) q h = by_meets x q (meets_profile world x) refl h

-- ---- frames

-- an offset of a typing, and a stack of the types that are said there
record IsTyped {R : Type 0} (instrs : List Instr) (typing : Typing) (at : ℕ) (s : List (Value R)) : Type 0 where
  types : List Kind
  said : stack_at typing at ≡ Some types
  begins : is_start instrs at ≡ true
  has : HasKinds types s

-- a frame of a method in the profile
record IsFrame {R : Type 0} (world : World) (f : Frame R) : Type 0 where
  m : Method
  verified : Verified world f.method m
  arguments : Holds m.shape.arguments f.arguments
  locals : Holds m.locals f.locals

-- the one that runs
record Runs {R : Type 0} (world : World) (f : Frame R) : Type 0 where
  frame : IsFrame world f
  typed : IsTyped frame.verified.instrs frame.verified.typing f.at f.stack

-- and one that waits for a result of a place
record Waits {R H : Type 0} (store : Store R H) (world : World) (place : Option Place) (f : Frame R) : Type 0 where
  frame : IsFrame world f
  typed : (v : Option (Value R)) → ResultFits place v
      → IsTyped frame.verified.instrs frame.verified.typing f.at (onto_stack store world v f.stack)

module _ {R H : Type 0} (store : Store R H) (world : World) (never : (heap : H) (line : List ℕ) → store.print heap line ≢ Wrong) where
  -- frames that wait, the first one for a result of a place
  abbrev AllWait : Option Place → List (Frame R) → Type 0
  AllWait place [] = Unit {0}
  AllWait place (f ∷ frames) = (w : Waits store world place f) × AllWait w.frame.m.shape.result frames

  abbrev IsRun : Run R H → Type 0
  IsRun (Going s) = (r : Runs world s.top) × AllWait r.frame.m.shape.result s.waiting
  IsRun (Over o) = Unit {0}
  IsRun Stuck = ⊥

  ticked : (begun : List Begun) (heap : H) (ticks : ℕ) (go : ℕ → Run R H) → ((left : ℕ) → IsRun (go left))
      → IsRun (tick store world begun heap ticks go)
  ticked begun heap zero go each = tt
  ticked begun heap (suc left) go each = each left

  -- ---- returns

  given_back : (place : Option Place) (waiting : List (Frame R)) (value : Option (Value R)) (heap : H) (ticks : ℕ)
      (begun : List Begun) → AllWait place waiting → ResultFits place value → IsRun (give store world waiting value heap ticks begun)
  given_back place [] value heap ticks begun w h = tt
  given_back place (f ∷ waiting) value heap ticks begun w h = (
    record {
      frame = record { m = w.0.frame.m; verified = w.0.frame.verified; arguments = w.0.frame.arguments; locals = w.0.frame.locals };
      typed = w.0.typed value h;
    },
    w.1,
  )

  -- ---- calls

  -- what is passed to a method fits, and its result fits the frame that waits
  record Enters (waiting : List (Frame R)) (target : MethodId) (passed : List (Value R)) : Type 0 where
    prints : is_built_in target ≡ true → AllWait None waiting × ((line : List ℕ) × (line_of store world target.row passed ≡ Some line))
    begins : (m : Method) → Verified world target m → AllWait m.shape.result waiting × Holds m.shape.arguments passed

  printed : (waiting : List (Frame R)) (heap : H) (ticks : ℕ) (begun : List Begun) (line : List ℕ) (a : Answer H)
      → store.print heap line ≡ a → AllWait None waiting → IsRun (given store world waiting heap ticks begun a)
  printed waiting heap ticks begun line Wrong e w = never heap line e
  printed waiting heap ticks begun line (Bad ending) e w = tt
  printed waiting heap ticks begun line (Fine h) e w = given_back None waiting None h ticks begun w tt

  line_printed : (waiting : List (Frame R)) (heap : H) (ticks : ℕ) (begun : List Begun) (o : Option (List ℕ))
      (line : List ℕ) → o ≡ Some line → AllWait None waiting → IsRun (print_line store world waiting heap ticks begun o)
  line_printed waiting heap ticks begun o line e w =
      subst (λ x. IsRun (print_line store world waiting heap ticks begun x)) (sym e)
      (printed waiting heap ticks begun line (store.print heap line) refl w)

  -- the first instruction has the empty stack
  first_typed : (id : MethodId) (m : Method) (v : Verified world id m) → IsTyped {R = R} v.instrs v.typing 0 []
  unfolding is_typing
  first_typed id m v =
      let parts = v.typing_is in
      by_stack (stack_at v.typing 0) refl
      (both_left (option_map_or (λ stack. length stack == 0) (stack_at v.typing 0) false)
      (list_all (meets_rule world m (length m.code) v.instrs v.typing) v.instrs) parts)
    where
      begins : (list : List Instr) → Follow m.code 0 list (length m.code) → is_start list 0 ≡ true
      begins [] f = absurd (omega (arith, f, v.some))
      begins (i ∷ list) f = ap (λ b. b || list_any (λ j. j.at == 0) list) (eq-eqb i.at 0 (offset_is m.code 0 i f.0))

      by_stack : (o : Option (List Kind)) → stack_at v.typing 0 ≡ o
          → option_map_or (λ stack. length stack == 0) o false ≡ true → IsTyped {R = R} v.instrs v.typing 0 []
      by_stack None q h = absurd (cc)
      by_stack (Some []) q h = record { types = []; said = q; begins = begins v.instrs v.follow; has = tt }
      by_stack (Some (k ∷ ks)) q h = absurd (let none : length (k ∷ ks) ≡ 0 = eqb-true (length (k ∷ ks)) 0 h in omega (arith, none))

  begun_in : (waiting : List (Frame R)) (target : MethodId) (passed : List (Value R)) (heap : H) (ticks : ℕ)
      (begun : List Begun) (o : Option Method) → method_in_profile world target ≡ o → Enters waiting target passed
      → IsRun (begin_in store world waiting target passed heap ticks begun o)
  begun_in waiting target passed heap ticks begun None e x = tt
  begun_in waiting target passed heap ticks begun (Some m) e x =
      let v : Verified world target m = verified world target m e in
      let fits : AllWait m.shape.result waiting × Holds m.shape.arguments passed = x.begins m v in
      let kept : AreKeptBy m.shape.arguments (kept_all m.shape.arguments passed) = held_are_kept m.shape.arguments passed fits.1 in
      subst (λ o. IsRun (begin store world waiting target m heap ticks begun o)) (sym kept.1) (
        record {
          frame = record { m = m; verified = v; arguments = kept.2; locals = zeros_held store world m.locals };
          typed = first_typed target m v;
        },
        fits.0,
      )

  begun_below : (b : Bool) (waiting : List (Frame R)) (target : MethodId) (passed : List (Value R)) (heap : H)
      (ticks : ℕ) (begun : List Begun) → Enters waiting target passed
      → IsRun (begin_below store world b waiting target passed heap ticks begun)
  begun_below true waiting target passed heap ticks begun x =
      begun_in waiting target passed heap ticks begun (method_in_profile world target) refl x
  begun_below false waiting target passed heap ticks begun x = tt

  entered_by : (b : Bool) (waiting : List (Frame R)) (target : MethodId) (passed : List (Value R)) (heap : H)
      (ticks : ℕ) (begun : List Begun) → is_built_in target ≡ b → Enters waiting target passed
      → IsRun (enter_by store world b waiting target passed heap ticks begun)
  entered_by true waiting target passed heap ticks begun e x =
      let lined : AllWait None waiting × ((line : List ℕ) × (line_of store world target.row passed ≡ Some line)) = x.prints e in
      line_printed waiting heap ticks begun (line_of store world target.row passed) lined.1.0 lined.1.1 lined.0
  entered_by false waiting target passed heap ticks begun e x =
      begun_below (nat_lt (length waiting) 1024) waiting target passed heap ticks begun x

  entered : (waiting : List (Frame R)) (target : MethodId) (passed : List (Value R)) (heap : H) (ticks : ℕ)
      (begun : List Begun) → Enters waiting target passed → IsRun (enter store world waiting target passed heap ticks begun)
  unfolding enter
  entered waiting target passed heap ticks begun x =
      ticked begun heap ticks _ (λ left. entered_by (is_built_in target) waiting target passed heap left begun refl x)

  -- ---- one step

  in_all : (p : ℕ → Bool) (k : ℕ) (to : List ℕ) → list_all p to ≡ true → In k to → p k ≡ true
  in_all p k [] e h = absurd h
  in_all p k (x ∷ to) e (inl same) = subst (λ n. p n ≡ true) (sym same) (both_left (p x) (list_all p to) e)
  in_all p k (x ∷ to) e (inr later) = in_all p k to (both_right (p x) (list_all p to) e) later

  -- an offset that follows has a stack that the one after the instruction fits
  landed : (m : Method) (instrs : List Instr) (typing : Typing) (ks : List Kind) (to : List ℕ) (k : ℕ)
      (s : List (Value R)) → keeps world m instrs typing (Flows ks to) ≡ true → In k to → HasKinds ks s → IsTyped instrs typing k s
  landed m instrs typing ks to k s e here h =
      by_stack (stack_at typing k) refl
      (both_right (is_start instrs k) (option_map_or (stack_fits world ks) (stack_at typing k) false) takes)
    where
      takes : takes_stack world instrs typing ks k ≡ true
      takes =
          in_all (takes_stack world instrs typing ks) k to
          (both_right (nat_le (length ks) m.max_stack) (list_all (takes_stack world instrs typing ks) to) e) here

      by_stack : (o : Option (List Kind)) → stack_at typing k ≡ o → option_map_or (stack_fits world ks) o false ≡ true
          → IsTyped instrs typing k s
      by_stack None q f = absurd (cc)
      by_stack (Some ls) q f = record {
        types = ls;
        said = q;
        begins = both_left (is_start instrs k) (option_map_or (stack_fits world ks) (stack_at typing k) false) takes;
        has = stack_has world ks ls s f h;
      }

  went : (b : Bool) (s : State R H) (there : Frame R) (heap : H) (r : Runs world there)
      → AllWait r.frame.m.shape.result s.waiting → IsRun (go_to store world b s there heap)
  went true s there heap r w = (r, w)
  went false s there heap r w = ticked s.begun heap s.ticks _ (λ left. (r, w))

  called : (f : Frame R) (waiting : List (Frame R)) (target : MethodId) (passed : List (Value R)) (heap : H) (ticks : ℕ)
      (begun : List Begun) (s : Shape) → profile_shape world target ≡ Some s → Holds s.arguments passed
      → AllWait s.result (f ∷ waiting) → IsRun (enter store world (f ∷ waiting) target passed heap ticks begun)
  called f waiting target passed heap ticks begun s e h w =
      entered (f ∷ waiting) target passed heap ticks begun (record { prints = prints; begins = begins })
    where
      prints : is_built_in target ≡ true
          → AllWait None (f ∷ waiting) × ((line : List ℕ) × (line_of store world target.row passed ≡ Some line))
      prints b = let p : Prints store world target.row s =
          call_prints store world target s b e in (subst (λ place. AllWait place (f ∷ waiting)) p.0 w, p.1 passed h)

      begins : (m : Method) → Verified world target m → AllWait m.shape.result (f ∷ waiting) × Holds m.shape.arguments passed
      begins m v =
          let is = v.shape_is in
          let same : s ≡ m.shape = cc in
          (subst (λ x. AllWait x.result (f ∷ waiting)) same w, subst (λ x. Holds x.arguments passed) same h)

  proceeded : (s : State R H) (r : Runs world s.top) (w : AllWait r.frame.m.shape.result s.waiting) (next : ℕ)
      (flow : Flow) (n : Next R H) → keeps world r.frame.m r.frame.verified.instrs r.frame.verified.typing flow ≡ true
      → Sound world r.frame.m next flow n → IsRun (proceed store world s next n)
  proceeded s r w next Untyped n e h = absurd (cc)
  proceeded s r w next Stops (Gives value heap) e h =
      ticked s.begun heap s.ticks _ (λ left. given_back r.frame.m.shape.result s.waiting value heap left s.begun w h)
  proceeded s r w next Stops (Ends ending heap) e h = tt
  proceeded s r w next (Flows ks to) (Stays arguments locals stack heap) e h = (
    record {
      frame = record { m = r.frame.m; verified = r.frame.verified; arguments = h.1; locals = h.2 };
      typed = landed r.frame.m r.frame.verified.instrs r.frame.verified.typing ks to next stack e h.3 h.0;
    },
    w,
  )
  proceeded s r w next (Flows ks to) (Goes at stack heap) e h =
      went (nat_lt s.top.at at) s (record (s.top) { at = at; stack = stack }) heap
      (record {
        frame = record { m = r.frame.m; verified = r.frame.verified; arguments = r.frame.arguments; locals = r.frame.locals };
        typed = landed r.frame.m r.frame.verified.instrs r.frame.verified.typing ks to at stack e h.1 h.0;
      }) w
  proceeded s r w next (Flows ks to) (Calls target passed stack heap) e h =
      let fits : CallFits world target passed ks stack = h.0 in
      called (record (s.top) { at = next; stack = stack }) s.waiting target passed heap s.ticks _ fits.shape fits.is fits.arguments (
        record {
          frame = record { m = r.frame.m; verified = r.frame.verified; arguments = r.frame.arguments; locals = r.frame.locals };
          typed = λ v f. landed r.frame.m r.frame.verified.instrs r.frame.verified.typing ks to next (onto_stack store world v stack) e h.1
              (subst (λ x. HasKinds x (onto_stack store world v stack)) (sym fits.result)
              (result_has world fits.shape.result v fits.under stack H store f fits.below));
        },
        w,
      )
  proceeded s r w next (Flows ks to) (Ends ending heap) e h = tt
  proceeded s r w next flow n e h = absurd h

  -- the rule of the instruction that is read
  rule : (m : Method) (instrs : List Instr) (typing : Typing) (at : ℕ) (types : List Kind) (f : IsAt m.code instrs at)
      → at < length m.code → is_typing world m (length m.code) instrs typing ≡ true → stack_at typing at ≡ Some types
      → keeps world m instrs typing (flow_by world m f.i types (operation_of f.i)) ≡ true
  unfolding is_typing flow_at
  rule m instrs typing at types f inside typing_is said =
      let each : meets_rule world m (length m.code) instrs typing f.i ≡ true = f.all (meets_rule world m (length m.code) instrs typing)
      (both_right (option_map_or (λ stack. length stack == 0) (stack_at typing 0) false)
      (list_all (meets_rule world m (length m.code) instrs typing) instrs) typing_is) in
      let there : stack_at typing f.i.at ≡ Some types = ap (stack_at typing) f.here ∙ said in
      let kept : keeps world m instrs typing (flow_at world m (length m.code) f.i types) ≡ true =
      subst (λ o. option_map_or (λ stack. keeps world m instrs typing (flow_at world m (length m.code) f.i stack)) o
      true ≡ true) there each in
      let here = f.here in
      let before : nat_lt (length m.code) f.i.at ≡ false = le-ltb (length m.code) f.i.at (omega (arith, inside, here)) in
      subst (λ b. keeps world m instrs typing (flow_if b world m f.i types) ≡ true) before kept

  stepped : (s : State R H) (r : Runs world s.top) → AllWait r.frame.m.shape.result s.waiting → IsRun (step store world s)
  unfolding step at_frame frame_step
  stepped s r w =
      let m : Method = r.frame.m in
      let v : Verified world s.top.method m = r.frame.verified in
      let f : IsAt m.code v.instrs s.top.at = found_at m.code 0 (length m.code) s.top.at v.instrs v.follow r.typed.begins in
      let frame_is : at_frame world s.top ≡ Some (m, f.i) =
      ap (option_and_then (λ m. instr_in m (instr_at m.code s.top.at))) v.found ∙ ap (instr_in m) f.read in
      let kept : keeps world m v.instrs v.typing (flow_by world m f.i r.typed.types (operation_of f.i)) ≡ true =
      rule m v.instrs v.typing s.top.at r.typed.types f (instr_inside m.code s.top.at f.i f.read) v.typing_is r.typed.said in
      subst (λ o. IsRun (step_at store world s o)) (sym frame_is) (by_operation f (operation_of f.i) kept)
    where
      by_operation : (f : IsAt r.frame.m.code r.frame.verified.instrs s.top.at) (o : Option Operation)
          → keeps world r.frame.m r.frame.verified.instrs r.frame.verified.typing
          (flow_by world r.frame.m f.i r.typed.types o) ≡ true
          → IsRun (proceed store world s (s.top.at + instr_size f.i) (act_on store world r.frame.m f.i s.top s.heap o))
      by_operation f None e = absurd (cc)
      by_operation f (Some operation) e =
          subst (λ k. IsRun (proceed store world s (k + instr_size f.i)
          (act_on store world r.frame.m f.i s.top s.heap (Some operation)))) f.here
          (proceeded s r w (f.i.at + instr_size f.i) (flow_of world r.frame.m (f.i.at + instr_size f.i) operation f.i.arg r.typed.types) _ e
          (act_sound store world r.frame.m s.top.arguments s.top.locals s.heap (f.i.at + instr_size f.i)
          r.frame.arguments r.frame.locals operation f.i.arg r.typed.types s.top.stack r.typed.has))

  -- ---- the run

  goes_on : (n : ℕ) (run : Run R H) → IsRun run → IsRun (after store world n run)
  unfolding after
  goes_on zero run r = r
  goes_on (suc n) (Going s) r = goes_on n (step store world s) (stepped s r.0 r.1)
  goes_on (suc n) (Over o) r = tt
  goes_on (suc n) Stuck r = absurd r

  -- an entry that can be started takes its numbers
  entry_held : (entry : MethodId) (m : Method) (sig : MethodSig) (numbers : List ℤ)
      → signature_of world entry ≡ Some sig → takes_numbers sig numbers ≡ true → shape_of world entry ≡ Some m.shape
      → Holds m.shape.arguments (arguments_by store world sig.params numbers)
  unfolding shape_of
  entry_held entry m sig numbers e t h =
      by_result (result_of world entry.asm sig.ret) (subst (λ o. option_and_then (shape_by world entry) o ≡ Some m.shape) e h)
    where
      no_this : not sig.has_this ≡ true
      no_this =
          both_left (not sig.has_this) (is_printable sig.ret)
          (both_left (not sig.has_this && is_printable sig.ret) (pointwise takes_number sig.params numbers) t)

      fit : pointwise takes_number sig.params numbers ≡ true
      fit = both_right (not sig.has_this && is_printable sig.ret) (pointwise takes_number sig.params numbers) t

      by_this : (b : Bool) → sig.has_this ≡ b → (places : List Place) → with_this world entry sig.has_this places ≡ places
      by_this true q places = absurd (let missed : not true ≡ true = subst (λ b. not b ≡ true) q no_this in cc)
      by_this false q places = ap (λ b. with_this world entry b places) q

      by_few : (r : Option Place) (places : List Place) → places_of world entry.asm sig.params ≡ Some places
          → (b : Bool) → (if b then Some (shape r (with_this world entry sig.has_this places)) else None) ≡ Some m.shape
          → Holds m.shape.arguments (arguments_by store world sig.params numbers)
      by_few r places q false g = absurd (cc)
      by_few r places q true g =
          let same : shape r (with_this world entry sig.has_this places) ≡ m.shape = cc in
          subst (λ ps. Holds ps (arguments_by store world sig.params numbers))
          (sym (by_this sig.has_this refl places) ∙ ap (λ x. x.arguments) same)
          (numbers_held store world entry.asm sig.params numbers places fit q)

      by_places : (r : Option Place) (o : Option (List Place)) → places_of world entry.asm sig.params ≡ o
          → option_and_then (λ places. few_arguments (shape r (with_this world entry sig.has_this places))) o
          ≡ Some m.shape → Holds m.shape.arguments (arguments_by store world sig.params numbers)
      by_places r None q g = absurd (cc)
      by_places r (Some places) q g = by_few r places q (nat_le (length (with_this world entry sig.has_this places)) 16) g

      by_result : (o : Option (Option Place)) → option_and_then (shape_with world entry sig) o ≡ Some m.shape
          → Holds m.shape.arguments (arguments_by store world sig.params numbers)
      by_result None g = absurd (cc)
      by_result (Some r) g = by_places r (places_of world entry.asm sig.params) refl g

  started : (entry : MethodId) (numbers : List ℤ) (heap : H) (ticks : ℕ) → can_start world entry numbers ≡ true
      → IsRun (start store world entry numbers heap ticks)
  unfolding can_start
  started entry numbers heap ticks e =
      by_signature (signature_of world entry) refl
      (both_right (method_flag world entry METHOD_STATIC)
      (option_map_or (λ sig. takes_numbers sig numbers) (signature_of world entry) false) e)
    where
      by_signature : (o : Option MethodSig) → signature_of world entry ≡ o
          → option_map_or (λ sig. takes_numbers sig numbers) o false ≡ true → IsRun (start store world entry numbers heap ticks)
      by_signature None q t = absurd (cc)
      by_signature (Some sig) q t =
          let passed : arguments_by store world sig.params numbers ≡ arguments_of store world entry numbers =
          sym (ap (λ o. option_map_or (λ sig. arguments_by store world sig.params numbers) o []) q) in
          entered [] entry (arguments_of store world entry numbers) heap ticks _ (record {
            prints =
                λ b. (
                  tt,
                  subst (λ values. (line : List ℕ) × (line_of store world entry.row values ≡ Some line)) passed
                      (entry_prints store world entry sig numbers b q t),
                );
            begins =
                λ m v. (
                  tt,
                  subst (λ values. Holds m.shape.arguments values) passed
                      (entry_held entry m sig numbers q t (parts_of world entry m v.found).shape_is),
                );
          })

  pub never_stuck : (entry : MethodId) (numbers : List ℤ) (heap : H) (ticks : ℕ) → can_start world entry numbers ≡ true
      → run_of store world entry numbers heap ticks ≢ Stuck
  unfolding run_of
  never_stuck entry numbers heap ticks e stuck =
      subst (λ run. IsRun run) stuck
      (goes_on ((ticks + 1) * 65536) (start store world entry numbers heap ticks) (started entry numbers heap ticks e))

-- the output takes a line, or has no room for it
never_wrong : (b : Bool) (output : List ℕ) → (if b then Fine output else Bad endings.OutputFull) ≢ Wrong
never_wrong true output e = cc
never_wrong false output e = cc

pub typed_code_runs : TypedCodeRuns
unfolding cil
typed_code_runs world entry numbers ticks e =
    never_stuck no_objects world
    (λ output line. never_wrong (nat_le (length output + length line + 1) 1048576) (output ++ (line ++ 10 ∷ [])))
    entry numbers [] ticks e

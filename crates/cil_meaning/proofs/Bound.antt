-- A run is over within its bound: between two ticks a frame only moves forward.
use Rattle.std.proofs.Common.{◌≡◌, ℕ, zero, suc, ◌+◌, ◌-◌, ◌*◌, ◌<◌, ◌≤◌, ◌&&◌, not, Bool, true, false, nat_lt, nat_le}
use Rattle.std.proofs.Common.{List, [], ◌∷◌, length, drop, Option, Some, None, Result, Ok, Err, refl, sym, ap, ◌∙◌}
use Rattle.std.proofs.Common.{subst, arith, if◌then◌else◌, option_and_then, is_some, leb-true, ltb-true}
use Rattle.cil_decode.specs.declared.instr.Instr.{Instr}
use Rattle.cil_decode.specs.declared.body.BodyRefusal.{BodyRefusal}
use Rattle.cil_decode.specs.Instructions.{instr_at, instr_size, form_in, with_form}
use Rattle.cil_decode.proofs.Sizes.{some_size}
use Rattle.type_world.specs.declared.identity.MethodId.{MethodId}
use Rattle.type_world.specs.World.{World}
use Rattle.type_world.proofs.Bound.{both_left, both_right, instr_inside}
use Rattle.metadata.specs.declared.schema.Table.TheVariants as tables
use Rattle.type_world.specs.Members.{class_of_method}
use Rattle.type_world.specs.Profile.{Method, if_meets, instrs_of, is_abstract, is_generic, is_in_profile, meets_profile}
use Rattle.type_world.specs.Profile.{meets_limits, method_of, profile_method, shape_in_profile}
use Rattle.cil_meaning.specs.Typing.{if_verifies, method_in_profile}
use Rattle.cil_meaning.specs.State.{Value, Answer, Fine, Bad, Wrong, Store, Frame, Begun, State, Outcome, Run, Going}
use Rattle.cil_meaning.specs.State.{Over, Stuck, IsOver, Next, Stays, Goes, Calls, Gives, Ends, Fails}
use Rattle.cil_meaning.specs.Step.{at_frame, instr_in, kept_all}
use Rattle.cil_meaning.specs.Run.{EndsAreReached, RunsEnd, after, begin, begin_below, begin_in, enter, enter_by, give}
use Rattle.cil_meaning.specs.Run.{given, go_to, line_of, print_line, proceed, run_of, start, step, step_at, tick}

-- ---- a method that can be entered has at most 65,536 bytes of code

abbrev pub Short : World → MethodId → Type 0
Short world id = (m : Method) → method_of world id ≡ Some m → length m.code ≤ 65536

fourth : (a b c d e : Bool) → (a && b && c && d && e) ≡ true → d ≡ true
fourth a b c d e h = both_right (a && b && c) d (both_left (a && b && c && d) e h)

short_code : (m : Method) → meets_limits m ≡ true → length m.code ≤ 65536
short_code m h =
    leb-true (length m.code) 65536
    (fourth (not m.more) (nat_le (length m.locals) 128) (nat_le m.max_stack 128) (nat_le (length m.code) 65536)
    (is_some (instrs_of m.code)) h)

short_if : (world : World) (x m : Method) (b : Bool) → meets_profile world x ≡ b
    → option_and_then (if_verifies world) (if b then Some x else None) ≡ Some m → length x.code ≤ 65536
short_if world x m true e h =
    short_code x
    (both_right
    (shape_in_profile world x.id && is_in_profile world (class_of_method world x.id) && not (is_abstract world x.id)
    && not (is_generic world x.id.asm tables.MethodDef x.id.row))
    (meets_limits x) e)
short_if world x m false e h = absurd (cc)

in_profile_short : (world : World) (id : MethodId) (m : Method) → method_in_profile world id ≡ Some m → Short world id
unfolding method_in_profile profile_method
in_profile_short world id m h x e =
    short_if world x m (meets_profile world x) refl
    (subst (λ o. option_and_then (if_verifies world) (option_and_then (if_meets world) o) ≡ Some m) e h)

abbrev pub AllShort : {R : Type 0} → World → List (Frame R) → Type 0
AllShort world [] = Unit {0}
AllShort world (f ∷ frames) = Short world f.method × AllShort world frames

module _ {R H : Type 0} where
  abbrev pub measure : Run R H → ℕ
  measure (Going s) = suc (s.ticks * 65536 + (65536 - s.top.at))
  measure (Over o) = 0
  measure Stuck = 0

  abbrev pub RunsShort : World → Run R H → Type 0
  RunsShort world (Going s) = Short world s.top.method × AllShort world s.waiting
  RunsShort world (Over o) = Unit {0}
  RunsShort world Stuck = Unit {0}

  -- what a run comes to after a tick: it is short, and its measure is at most that of a start
  abbrev pub Fits : World → ℕ → Run R H → Type 0
  Fits world most run = (measure run ≤ most) × RunsShort world run

module _ {R H : Type 0} (store : Store R H) (world : World) where
  ticked : (begun : List Begun) (heap : H) (ticks most : ℕ) (go : ℕ → Run R H)
      → ((left : ℕ) → Fits world (suc (left * 65536 + 65536)) (go left)) → ticks * 65536 < most
      → Fits world most (tick store world begun heap ticks go)
  ticked begun heap zero most go fits l = (omega arith, tt)
  ticked begun heap (suc left) most go fits l = (omega (arith, (fits left).0), (fits left).1)

  given_back : (waiting : List (Frame R)) (value : Option (Value R)) (heap : H) (ticks : ℕ) (begun : List Begun)
      → AllShort world waiting → Fits world (suc (ticks * 65536 + 65536)) (give store world waiting value heap ticks begun)
  given_back [] value heap ticks begun short = (omega arith, tt)
  given_back (f ∷ waiting) value heap ticks begun short = (omega arith, short)

  printed_back : (waiting : List (Frame R)) (heap : H) (ticks : ℕ) (begun : List Begun) (a : Answer H)
      → AllShort world waiting → Fits world (suc (ticks * 65536 + 65536)) (given store world waiting heap ticks begun a)
  printed_back waiting heap ticks begun Wrong short = (omega arith, tt)
  printed_back waiting heap ticks begun (Bad ending) short = (omega arith, tt)
  printed_back waiting heap ticks begun (Fine printed) short = given_back waiting None printed ticks begun short

  line_back : (waiting : List (Frame R)) (heap : H) (ticks : ℕ) (begun : List Begun) (line : Option (List ℕ))
      → AllShort world waiting → Fits world (suc (ticks * 65536 + 65536)) (print_line store world waiting heap ticks begun line)
  line_back waiting heap ticks begun None short = (omega arith, tt)
  line_back waiting heap ticks begun (Some line) short = printed_back waiting heap ticks begun (store.print heap line) short

  begun_with : (waiting : List (Frame R)) (target : MethodId) (m : Method) (heap : H) (ticks : ℕ) (begun : List Begun)
      (passed : Option (List (Value R))) → Short world target → AllShort world waiting
      → Fits world (suc (ticks * 65536 + 65536)) (begin store world waiting target m heap ticks begun passed)
  begun_with waiting target m heap ticks begun None top short = (omega arith, tt)
  begun_with waiting target m heap ticks begun (Some passed) top short = (omega arith, (top, short))

  begun_in : (waiting : List (Frame R)) (target : MethodId) (passed : List (Value R)) (heap : H) (ticks : ℕ)
      (begun : List Begun) (found : Option Method) → method_in_profile world target ≡ found → AllShort world waiting
      → Fits world (suc (ticks * 65536 + 65536)) (begin_in store world waiting target passed heap ticks begun found)
  begun_in waiting target passed heap ticks begun None e short = (omega arith, tt)
  begun_in waiting target passed heap ticks begun (Some m) e short =
      begun_with waiting target m heap ticks begun (kept_all m.shape.arguments passed) (in_profile_short world target m e) short

  begun_below : (b : Bool) (waiting : List (Frame R)) (target : MethodId) (passed : List (Value R)) (heap : H)
      (ticks : ℕ) (begun : List Begun) → AllShort world waiting
      → Fits world (suc (ticks * 65536 + 65536)) (begin_below store world b waiting target passed heap ticks begun)
  begun_below true waiting target passed heap ticks begun short =
      begun_in waiting target passed heap ticks begun (method_in_profile world target) refl short
  begun_below false waiting target passed heap ticks begun short = (omega arith, tt)

  entered_by : (b : Bool) (waiting : List (Frame R)) (target : MethodId) (passed : List (Value R)) (heap : H)
      (ticks : ℕ) (begun : List Begun) → AllShort world waiting
      → Fits world (suc (ticks * 65536 + 65536)) (enter_by store world b waiting target passed heap ticks begun)
  entered_by true waiting target passed heap ticks begun short =
      line_back waiting heap ticks begun (line_of store world target.row passed) short
  entered_by false waiting target passed heap ticks begun short =
      begun_below (nat_lt (length waiting) 1024) waiting target passed heap ticks begun short

  entered : (waiting : List (Frame R)) (target : MethodId) (passed : List (Value R)) (heap : H) (ticks most : ℕ)
      (begun : List Begun) → AllShort world waiting → ticks * 65536 < most
      → Fits world most (enter store world waiting target passed heap ticks begun)
  unfolding enter
  entered waiting target passed heap ticks most begun short l =
      ticked begun heap ticks most _ (λ left. entered_by _ waiting target passed heap left begun short) l

  went : (b : Bool) (s : State R H) (there : Frame R) (heap : H) → nat_lt s.top.at there.at ≡ b → s.top.at < 65536
      → Short world there.method → AllShort world s.waiting
      → Fits world (s.ticks * 65536 + (65536 - s.top.at)) (go_to store world b s there heap)
  went true s there heap e l top short = (omega (arith, ltb-true s.top.at there.at e), (top, short))
  went false s there heap e l top short = ticked s.begun heap s.ticks _ _ (λ left. (omega arith, (top, short))) (omega arith)

  proceeded : (s : State R H) (next : ℕ) (n : Next R H) → s.top.at < 65536 → s.top.at < next → Short world s.top.method
      → AllShort world s.waiting → Fits world (s.ticks * 65536 + (65536 - s.top.at)) (proceed store world s next n)
  proceeded s next (Stays arguments locals stack heap) l m top short = (omega arith, (top, short))
  proceeded s next (Goes to stack heap) l m top short =
      went (nat_lt s.top.at to) s (record (s.top) { at = to; stack = stack }) heap refl l top short
  proceeded s next (Calls target passed stack heap) l m top short = entered _ target passed heap s.ticks _ _ (top, short) (omega arith)
  proceeded s next (Gives value heap) l m top short =
      ticked s.begun heap s.ticks _ _ (λ left. given_back s.waiting value heap left s.begun short) (omega arith)
  proceeded s next (Ends ending heap) l m top short = (omega arith, tt)
  proceeded s next Fails l m top short = (omega arith, tt)

  -- the instruction of a short method is below 65,536
  below : (s : State R H) (o : Option Method) (found : Method × Instr) → method_of world s.top.method ≡ o
      → option_and_then (λ m. instr_in m (instr_at m.code s.top.at)) o ≡ Some found → Short world s.top.method → s.top.at < 65536
  below s None found e h top = absurd (cc)
  below s (Some m) found e h top = by_instr (instr_at m.code s.top.at) refl h
    where
      by_instr : (r : Result Instr BodyRefusal) → instr_at m.code s.top.at ≡ r → instr_in m r ≡ Some found → s.top.at < 65536
      by_instr (Err b) q k = absurd (cc)
      by_instr (Ok i) q k = omega (arith, instr_inside m.code s.top.at i q, top m e)

  stepped_at : (s : State R H) (found : Option (Method × Instr)) → at_frame world s.top ≡ found
      → Short world s.top.method → AllShort world s.waiting
      → Fits world (s.ticks * 65536 + (65536 - s.top.at)) (step_at store world s found)
  unfolding at_frame
  stepped_at s None e top short = (omega arith, tt)
  stepped_at s (Some found) e top short =
      let l : s.top.at < 65536 = below s (method_of world s.top.method) found refl e top in
      proceeded s (s.top.at + instr_size found.1) _ l (omega (arith, some_size found.1)) top short

  stepped : (s : State R H) → Short world s.top.method → AllShort world s.waiting
      → Fits world (s.ticks * 65536 + (65536 - s.top.at)) (step store world s)
  unfolding step
  stepped s top short = stepped_at s (at_frame world s.top) refl top short

  ends_within : (n : ℕ) (run : Run R H) → RunsShort world run → measure run ≤ n → IsOver (after store world n run)
  unfolding after
  ends_within zero (Going s) short l = omega arith
  ends_within zero (Over o) short l = tt
  ends_within zero Stuck short l = tt
  ends_within (suc n) (Going s) short l =
      let next : Fits world (s.ticks * 65536 + (65536 - s.top.at)) (step store world s) = stepped s short.0 short.1 in
      ends_within n (step store world s) next.1 (omega (arith, next.0))
  ends_within (suc n) (Over o) short l = tt
  ends_within (suc n) Stuck short l = tt

  pub runs_end : RunsEnd store world
  unfolding run_of
  runs_end entry numbers heap ticks =
      let begin_ : Fits world ((ticks + 1) * 65536) (start store world entry numbers heap ticks) =
      entered [] entry _ heap ticks _ _ tt (omega arith) in
      ends_within ((ticks + 1) * 65536) (start store world entry numbers heap ticks) begin_.1 begin_.0

  -- ---- an ending that is reached is the only one

  after_over : (n : ℕ) (o : Outcome) → after store world n (Over o) ≡ Over o
  unfolding after
  after_over zero o = refl
  after_over (suc n) o = refl

  after_stuck : (n : ℕ) → after store world n Stuck ≡ Stuck
  unfolding after
  after_stuck zero = refl
  after_stuck (suc n) = refl

  after_more : (j k : ℕ) (run : Run R H) → after store world (j + k) run ≡ after store world k (after store world j run)
  unfolding after
  after_more zero k run = let e : 0 + k ≡ k = omega arith in ap (λ n. after store world n run) e
  after_more (suc j) k (Going s) =
      let e : suc j + k ≡ suc (j + k) = omega arith in
      ap (λ n. after store world n (Going s)) e ∙ after_more j k (step store world s)
  after_more (suc j) k (Over o) = after_over (suc j + k) o ∙ sym (after_over k o)
  after_more (suc j) k Stuck = after_stuck (suc j + k) ∙ sym (after_stuck k)

  stays_over : (n : ℕ) (run : Run R H) → IsOver run → after store world n run ≡ run
  stays_over n (Going s) o = absurd o
  stays_over n (Over outcome) o = after_over n outcome
  stays_over n Stuck o = after_stuck n

  one_end : (run a b : Run R H) (j k : ℕ) → after store world j run ≡ a → after store world k run ≡ b → IsOver a → IsOver b → a ≡ b
  one_end run a b j k p q o n =
      let there : after store world (j + k) run ≡ a = after_more j k run ∙ ap (after store world k) p ∙ stays_over k a o in
      let here : after store world (k + j) run ≡ b = after_more k j run ∙ ap (after store world j) q ∙ stays_over j b n in
      let e : j + k ≡ k + j = omega arith in
      sym there ∙ ap (λ n. after store world n run) e ∙ here

  pub ends_are_reached : EndsAreReached store world
  unfolding run_of
  ends_are_reached entry numbers heap ticks run reached o =
      one_end (start store world entry numbers heap ticks) _ run ((ticks + 1) * 65536) reached.steps refl reached.is
      (runs_end entry numbers heap ticks) o

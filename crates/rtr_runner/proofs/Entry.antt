-- The run of an entry by its words is that of its numbers, and what comes of entering it.
use Rattle.std.proofs.Common.{◌≡◌, ◌≢◌, ◌<◌, ℕ, zero, suc, true, false, ℤ, List, [], ◌∷◌, map, Option, Some, None}
use Rattle.std.proofs.Common.{refl, sym, ap, ◌∙◌, subst, arith}
use Rattle.std.proofs.lemmas.List.{length-map}
use Rattle.std.proofs.lemmas.Bool.Decides.{nat_tests}
use Rattle.std.specs.Option.{option_map, option_map_or}
use Rattle.type_world.specs.declared.identity.MethodId.{MethodId}
use Rattle.cil_meaning.specs.declared.ending.Ending.{Ending}
use Rattle.type_world.specs.World.{World}
use Rattle.type_world.specs.Members.{is_built_in}
use Rattle.type_world.specs.Profile.{Method, profile_shape}
use Rattle.type_world.specs.Entries.{can_start}
use Rattle.cil_meaning.specs.Typing.{method_in_profile}
use Rattle.cil_meaning.specs.State.{Begun, Run, Going, IsOver, no_objects}
use Rattle.cil_meaning.specs.Step.{kept_all}
use Rattle.cil_meaning.specs.Run.{Reaches, after, arguments_of, begin, begin_in, cil, enter, enter_by, start}
use Rattle.cil_interp.specs.declared.act.Activation.{Activation}
use Rattle.cil_interp.specs.declared.meter.Event.{Event}
use Rattle.cil_interp.specs.declared.meter.Event.TheVariants as events
use Rattle.cil_interp.specs.Frames.{Comes, Frames, GoesOn, PassesAll, ended, passed, passed_as, state_of, waiting_frames, waiting_in}
use Rattle.cil_interp.specs.Ran.{IsEntry, RunEnds}
use Rattle.cil_interp.specs.View.{Word}
use Rattle.rtr_runner.specs.Workers.{Ended, Job, ended_of, ends_as, low_word}
use Rattle.rtr_runner.proofs.Given.{given}
use Rattle.rtr_runner.proofs.Shaped.{profile_shape_is, shape_found}

-- ---- frames of a worker that has not run

pub none_wait : (world : World) (f : Frames) → f.frames ≡ [] → waiting_in world f ≡ []
unfolding waiting_frames
none_wait world f e = ap (λ (frames : List Activation). waiting_frames world frames f.words) e

pub from_none : (world : World) (f : Frames) → f.frames ≡ [] → (entry : MethodId) (values : List Word) (before : List ℕ) (ticks : ℕ)
    (begun : List Begun) (output : List ℕ) (ending : Ending)
    → RunEnds world (enter no_objects world (waiting_in world f) entry values before ticks begun) output ending
    → RunEnds world (enter no_objects world [] entry values before ticks begun) output ending
from_none world f none entry values before ticks begun output ending ends =
    subst (λ waiting. RunEnds world (enter no_objects world waiting entry values before ticks begun) output ending)
    (none_wait world f none) ends

-- ---- what comes of the entry

pub ends_at_once : (world : World) (begun : List Begun) (output : List ℕ) (ending : Ending) (run : Run (Unit {0}) (List ℕ))
    → run ≡ ended begun output ending → RunEnds world run output ending
unfolding after
ends_at_once world begun output ending run e = record { begun = begun; reaches = record { steps = 0; is = e } }

pub ends_later : (world : World) (f : Frames) (before output : List ℕ) (ticks : ℕ) (begun : List Begun) (ending : Ending)
    (run : Run (Unit {0}) (List ℕ)) → GoesOn world f before ticks begun run
    → RunEnds world (Going (state_of world f before ticks begun)) output ending → RunEnds world run output ending
ends_later world f before output ticks begun ending run g e = subst (λ r. RunEnds world r output ending) (sym g.is) e

-- an entry that does not end the run goes on
pub runs_on : (world : World) (f : Frames) (output : List ℕ) (ticks : ℕ) (begun : List Begun) (event : Event)
    (run : Run (Unit {0}) (List ℕ)) → IsEntry event → ((ending : Ending) → event ≢ events.End ending)
    → Comes world f [] output ticks begun event run → GoesOn world f output ticks begun run
runs_on world f output ticks begun events.Next run entry free comes = comes
runs_on world f output ticks begun (events.End ending) run entry free comes = absurd (free ending refl)
runs_on world f output ticks begun (events.Call target) run entry free comes = absurd entry
runs_on world f output ticks begun (events.Returned word) run entry free comes = absurd entry

-- ---- an entry that can be started

module _ (world : World) (entry : MethodId) (numbers : List ℤ) (starts : can_start world entry numbers ≡ true) where
  abbrev words : List ℕ
  words = map low_word numbers

  pub passes_all : PassesAll world entry words
  passes_all = λ s e. length-map numbers low_word ∙ (given world entry numbers s starts (shape_found world entry s e)).count

  same_passed : (m : Method) → profile_shape world entry ≡ Some m.shape
      → passed world entry words ≡ arguments_of no_objects world entry numbers
  same_passed m e =
      ap (λ o. option_map_or (passed_as words) o []) e
      ∙ (given world entry numbers m.shape starts (shape_found world entry m.shape e)).arguments_are

  -- what is passed is looked at only where the entry is in the profile
  same_entry : (output : List ℕ) (ticks : ℕ) (begun : List Begun) → entry.asm < 64
      → enter no_objects world [] entry (passed world entry words) output ticks begun
      ≡ enter no_objects world [] entry (arguments_of no_objects world entry numbers) output ticks begun
  unfolding enter
  same_entry output zero begun low = refl
  same_entry output (suc left) begun low =
      ap (λ b. enter_by no_objects world b [] entry (passed world entry words) output left begun) own
      ∙ by_method (method_in_profile world entry) refl
      ∙ sym (ap (λ b. enter_by no_objects world b [] entry (arguments_of no_objects world entry numbers) output left begun) own)
    where
      own : is_built_in entry ≡ false
      own = grind (arith, nat_tests)

      by_method : (o : Option Method) → method_in_profile world entry ≡ o
          → begin_in no_objects world [] entry (passed world entry words) output left begun o
          ≡ begin_in no_objects world [] entry (arguments_of no_objects world entry numbers) output left begun o
      by_method None q = refl
      by_method (Some m) q =
          ap (λ (values : List Word). begin no_objects world [] entry m output left begun (kept_all m.shape.arguments values))
          (same_passed m (profile_shape_is world entry m q))

  abbrev first : List Begun
  first = record { caller = None; target = entry } ∷ []

  -- the ending that is reached is that of the run
  pub is_ended : (output : List ℕ) (ending : Ending) (ticks : ℕ) → entry.asm < 64
      → ((run : Run (Unit {0}) (List ℕ)) → Reaches no_objects world (start no_objects world entry numbers [] ticks) run → IsOver run
      → cil world entry numbers ticks ≡ run)
      → RunEnds world (enter no_objects world [] entry (passed world entry words) [] ticks first) output ending
      → ends_as world (record { entry = entry; numbers = numbers; ticks = ticks })
      ≡ Some (record { output = output; ending = ending })
  is_ended output ending ticks low law ends =
      let e : RunEnds world (start no_objects world entry numbers [] ticks) output ending =
      subst (λ r. RunEnds world r output ending) (same_entry [] ticks first low) ends in
      ap (ended_of {R = Unit {0}} {H = List ℕ}) (law (ended e.begun output ending) e.reaches tt)

pub not_ended : (f : Ending → Ended) (o : Option Ending) → option_map f o ≡ None → o ≡ None
not_ended f None e = refl
not_ended f (Some ending) e = absurd (cc)

-- and so is it of a worker, whose words are those of its numbers
module _ (world : World) (job : Job) (words : List ℕ) (same : words ≡ map low_word job.numbers)
    (starts : can_start world job.entry job.numbers ≡ true) where
  pub passes : PassesAll world job.entry words
  passes = subst (λ ws. PassesAll world job.entry ws) (sym same) (passes_all world job.entry job.numbers starts)

  pub ends_so : (before output : List ℕ) (ending : Ending) → before ≡ [] → job.entry.asm < 64
      → ((run : Run (Unit {0}) (List ℕ)) → Reaches no_objects world (start no_objects world job.entry job.numbers [] job.ticks) run
      → IsOver run → cil world job.entry job.numbers job.ticks ≡ run)
      → ((begun : List Begun)
      → RunEnds world (enter no_objects world [] job.entry (passed world job.entry words) before job.ticks begun) output ending)
      → ends_as world job ≡ Some (record { output = output; ending = ending })
  ends_so before output ending empty low law ends =
      is_ended world job.entry job.numbers starts output ending job.ticks low law
      (subst (λ ws. RunEnds world (enter no_objects world [] job.entry (passed world job.entry ws) [] job.ticks
      (first world job.entry job.numbers starts)) output ending) same
      (subst (λ b. RunEnds world (enter no_objects world [] job.entry (passed world job.entry words) b job.ticks
      (first world job.entry job.numbers starts)) output ending) empty
      (ends (first world job.entry job.numbers starts))))

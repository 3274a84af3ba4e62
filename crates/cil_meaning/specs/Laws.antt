-- What is stated of the definitions, over all worlds.
use Rattle.std.specs.Prelude.{◌≡◌, ◌≢◌, ◌<◌, ◌≤◌, ◌⊎◌, ◌↔◌, ℕ, ℤ, List, [], ◌∷◌, Some, None, IsTrue, false, is_some}
use Rattle.std.specs.Option.{option_map_or}
use Rattle.cil_decode.specs.declared.instr.Instr.{Instr}
use Rattle.cil_decode.specs.Bodies.{is_start}
use Rattle.type_world.specs.declared.identity.MethodId.{MethodId}
use Rattle.cil_meaning.specs.declared.kind.Kind.{Kind}
use Rattle.type_world.specs.World.{World}
use Rattle.type_world.specs.Profile.{Method, instrs_of}
use Rattle.cil_meaning.specs.Typing.{Typing, Flows, first_untyped, flow_at, is_typing, least_typing, stack_at, stack_fits, typing_of}
use Rattle.cil_meaning.specs.Soundness.{In}
use Rattle.type_world.specs.Entries.{can_start}
use Rattle.cil_meaning.specs.State.{Stuck}
use Rattle.cil_meaning.specs.Run.{cil}

-- there is a typing, where each instruction after a last offset is read as one that ends the run
pub record HasTyping (world : World) (method : Method) (last : ℕ) (instrs : List Instr) : Type 0 where
  pub typing : Typing
  pub meets : IsTrue (is_typing world method last instrs typing)

-- an instruction of a list
abbrev pub Has : List Instr → Instr → Type 0
Has [] i = ⊥
Has (j ∷ list) i = (i ≡ j) ⊎ Has list i

-- The offsets that are reached under a typing: the start, and each one to which the flow goes from an instruction that is reached, with
-- the stack that the typing gives there.
pub data Reached (world : World) (method : Method) (last : ℕ) (instrs : List Instr) (typing : Typing) : ℕ → Type 0 where
  Begins : Reached world method last instrs typing 0
  Follows : (i : Instr) (stack after : List Kind) (to : List ℕ) (at : ℕ) → Reached world method last instrs typing i.at
      → Has instrs i → stack_at typing i.at ≡ Some stack → flow_at world method last i stack ≡ Flows after to → In at to
      → Reached world method last instrs typing at

-- the stack of an offset fits that which another typing has there
abbrev pub FitsAt : World → Typing → ℕ → List Kind → Type 0
FitsAt world other at stack = IsTrue (option_map_or (stack_fits world stack) (stack_at other at) false)

-- The least typing: it has exactly the offsets that are reached, and its stacks fit those of every typing.
pub record IsLeast (world : World) (method : Method) (last : ℕ) (instrs : List Instr) (typing : Typing) : Type 0 where
  pub meets : IsTrue (is_typing world method last instrs typing)
  pub reached : (at : ℕ) → IsTrue (is_some (stack_at typing at)) ↔ Reached world method last instrs typing at
  pub fits : (other : Typing) → IsTrue (is_typing world method last instrs other)
      → (at : ℕ) (stack : List Kind) → stack_at typing at ≡ Some stack → FitsAt world other at stack

-- the typing that the rounds come to is the least one
abbrev pub RoundsFindTheLeast : Type 0
RoundsFindTheLeast =
    (world : World) (method : Method) (last : ℕ) (instrs : List Instr) (typing : Typing) →
    least_typing world method last instrs ≡ Some typing → IsLeast world method last instrs typing

-- the rounds come to a typing wherever there is one
abbrev pub RoundsFindTypings : Type 0
RoundsFindTypings =
    (world : World) (method : Method) (last : ℕ) (instrs : List Instr) →
    HasTyping world method last instrs ↔ IsTrue (is_some (least_typing world method last instrs))

-- a typing of a part of the code up to a last offset is one of each part up to an earlier one
abbrev pub TypingsNarrow : Type 0
TypingsNarrow =
    (world : World) (method : Method) (instrs : List Instr) (last earlier : ℕ) →
    earlier ≤ last → HasTyping world method last instrs → HasTyping world method earlier instrs

-- code without a typing has an instruction up to which there is none
abbrev pub UntypedIsFound : Type 0
UntypedIsFound =
    (world : World) (method : Method) (instrs : List Instr) →
    instrs_of method.code ≡ Some instrs → typing_of world method ≡ None → IsTrue (is_some (first_untyped world method))

-- an instruction up to which there is no typing, where there is one up to each earlier instruction
pub record IsFirstUntyped (world : World) (method : Method) (instrs : List Instr) (k : ℕ) : Type 0 where
  pub starts : IsTrue (is_start instrs k)
  pub none : HasTyping world method k instrs → ⊥
  pub earlier : (i : Instr) → Has instrs i → i.at < k → HasTyping world method i.at instrs

abbrev pub FirstUntypedIsFirst : Type 0
FirstUntypedIsFirst =
    (world : World) (method : Method) (instrs : List Instr) (k : ℕ) →
    instrs_of method.code ≡ Some instrs → first_untyped world method ≡ Some k → IsFirstUntyped world method instrs k

-- code in the profile never meets an operand of the wrong kind
abbrev pub TypedCodeRuns : Type 0
TypedCodeRuns =
    (world : World) (entry : MethodId) (numbers : List ℤ) (ticks : ℕ) →
    IsTrue (can_start world entry numbers) → cil world entry numbers ticks ≢ Stuck

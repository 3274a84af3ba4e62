-- A method of the profile with its world and its instructions, of which typings are asked.
use Rattle.std.specs.Prelude.{◌≡◌, ℕ, List, [], ◌∷◌, Option, Bool, false, find, is_none, length, nat_lt}
use Rattle.std.specs.Option.{option_map, option_map_or}
use Rattle.cil_decode.specs.declared.instr.Instr.{Instr}
use Rattle.type_world.specs.World.{World}
use Rattle.type_world.specs.Profile.{Method}
use Rattle.cil_meaning.specs.Typing.{Flow, Flows, Typing, is_typing, keeps, least_typing, meets_rule, round, rounds, settled, with_instr}
use Rattle.cil_meaning.specs.declared.kind.Kind.{Kind}
use Rattle.cil_meaning.specs.Typing.{flow_at, stack_at, takes_stack}

pub record Subject : Type 0 where
  pub world : World
  pub method : Method
  pub instrs : List Instr

abbrev pub subject : World → Method → List Instr → Subject
subject world method instrs = record { world = world; method = method; instrs = instrs }

-- ---- what is asked of it, where each instruction after a last offset ends the run

abbrev pub visited : Subject → ℕ → Typing → Instr → Typing
visited s last typing i = with_instr s.world s.method last typing i

abbrev pub rounded : Subject → ℕ → Typing → Typing
rounded s last typing = round s.world s.method last s.instrs typing

abbrev pub settled_in : Subject → ℕ → ℕ → Typing → Typing
settled_in s last n typing = settled n s.world s.method last s.instrs typing

abbrev pub rounds_of : Subject → ℕ
rounds_of s = rounds s.world s.method s.instrs

-- what the rounds come to
abbrev pub settled_of : Subject → ℕ → Typing
settled_of s last = settled_in s last (rounds_of s) ((0, []) ∷ [])

abbrev pub takes_in : Subject → Typing → List Kind → ℕ → Bool
takes_in s typing stack to = takes_stack s.world s.instrs typing stack to

abbrev pub keeps_in : Subject → Typing → Flow → Bool
keeps_in s typing flow = keeps s.world s.method s.instrs typing flow

abbrev pub meets_in : Subject → ℕ → Typing → Instr → Bool
meets_in s last typing i = meets_rule s.world s.method last s.instrs typing i

abbrev pub is_typing_of : Subject → ℕ → Typing → Bool
is_typing_of s last typing = is_typing s.world s.method last s.instrs typing

abbrev pub least_of : Subject → ℕ → Option Typing
least_of s last = least_typing s.world s.method last s.instrs

-- there is none up to an instruction, and the first such
abbrev pub no_typing_at : Subject → Instr → Bool
no_typing_at s i = is_none (least_of s i.at)

abbrev pub first_of : Subject → Option ℕ
first_of s = option_map (λ i. i.at) (find (no_typing_at s) s.instrs)

-- ---- an instruction that leaves more types than MaxStack

abbrev pub is_deep : Subject → Flow → Bool
is_deep s (Flows stack to) = nat_lt s.method.max_stack (length stack)
is_deep s flow = false

abbrev pub too_deep : Subject → ℕ → Typing → Instr → Bool
too_deep s last typing i = option_map_or (λ stack. is_deep s (flow_at s.world s.method last i stack)) (stack_at typing i.at) false

-- whatever rounds follow, there is no typing
abbrev pub NeverTyped : Subject → ℕ → Typing → Type 0
NeverTyped s last typing = (n : ℕ) → is_typing_of s last (settled_in s last n typing) ≡ false

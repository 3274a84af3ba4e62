-- Typings of a method's code (ECMA-335 III.1.8.1; stack states merge by III.1.8.1.3): which types are on the stack at each offset that is reached.
use Rattle.std.specs.Prelude.{ℕ, zero, suc, ◌+◌, ◌*◌, ◌==◌, ◌&&◌, not, Bool, true, false, List, [], ◌∷◌, length, find}
use Rattle.std.specs.Prelude.{fold, Option, Some, None, is_none, slice_get, if◌then◌else◌, nat_le, nat_lt}
use Rattle.std.specs.Option.{option_map, option_map_or, option_and_then}
use Rattle.std.specs.List.{list_all, list_any}
use Rattle.std.specs.Cmp.Lexicographic.{pointwise}
use Rattle.cil_decode.specs.declared.instr.Arg.{Arg}
use Rattle.cil_decode.specs.declared.instr.Arg.TheVariants as args
use Rattle.cil_decode.specs.declared.instr.Instr.{Instr}
use Rattle.cil_decode.specs.declared.operation.Operation.{Operation}
use Rattle.cil_decode.specs.declared.operation.Operation.TheVariants as operations
use Rattle.cil_decode.specs.declared.operation.Comparison.{Comparison}
use Rattle.cil_decode.specs.declared.operation.Comparison.TheVariants as comparisons
use Rattle.cil_decode.specs.Operations.{operation_of}
use Rattle.cil_decode.specs.Instructions.{instr_size}
use Rattle.cil_decode.specs.Bodies.{is_start}
use Rattle.type_world.specs.declared.identity.TypeId.{TypeId}
use Rattle.type_world.specs.declared.identity.TypeId.TheVariants as types
use Rattle.type_world.specs.declared.identity.MethodId.{MethodId}
use Rattle.cil_meaning.specs.declared.kind.Kind.{Kind}
use Rattle.cil_meaning.specs.declared.kind.Kind.TheVariants as kinds
use Rattle.metadata.specs.declared.schema.Table.TheVariants as tables
use Rattle.type_world.specs.World.{World, rows_of_world}
use Rattle.type_world.specs.Resolution.{common_base, fits, type_eq}
use Rattle.type_world.specs.Members.{resolve_method}
use Rattle.type_world.specs.declared.place.Place.{Place}
use Rattle.type_world.specs.declared.place.Place.TheVariants.{Integer, Reference}
use Rattle.type_world.specs.declared.place.Shape.{Shape}
use Rattle.type_world.specs.Profile.{Method, instrs_of, is_abstract, profile_method, profile_shape}
use Rattle.cil_meaning.specs.Arithmetic.{integer_of, is_wide}

-- ---- the types of a stack; the first one is the top's

-- the type of the value that a place gives
abbrev pub kind_of : Place → Kind
kind_of (Integer elem) = if is_wide (integer_of elem) then kinds.I8 else kinds.I4
kind_of (Reference to) = kinds.Ref to

-- a value of a type is one of another type too (III.1.8.1.2): integers keep theirs, null fits each reference, and references fit by
-- their types
unfoldable pub kind_fits : World → Kind → Kind → Bool
kind_fits world kinds.I4 kinds.I4 = true
kind_fits world kinds.I8 kinds.I8 = true
kind_fits world kinds.Null kinds.Null = true
kind_fits world kinds.Null (kinds.Ref to) = true
kind_fits world (kinds.Ref of) (kinds.Ref to) = fits world of to
kind_fits world of to = false

-- of two stacks of one length
abbrev pub stack_fits : World → List Kind → List Kind → Bool
stack_fits world stack other = pointwise (kind_fits world) stack other

-- ---- what an instruction asks of the stack, and what it leaves

-- it has no typing; no instruction follows, since it returns or ends the run; or the stack after it, and the offsets that follow
pub data Flow : Type 0 where
  Untyped : Flow
  Stops : Flow
  Flows : (stack : List Kind) (to : List ℕ) → Flow

-- integers of either width, or a reference
abbrev pub is_integer : Kind → Bool
is_integer kinds.I4 = true
is_integer kinds.I8 = true
is_integer kind = false

abbrev pub same_width : Kind → Kind → Bool
same_width kinds.I4 kinds.I4 = true
same_width kinds.I8 kinds.I8 = true
same_width kind other = false

abbrev pub is_reference : Kind → Bool
is_reference kind = not (is_integer kind)

abbrev pub is_null : Kind → Bool
is_null kinds.Null = true
is_null kind = false

-- two values that a comparison takes (III.1.5, table 4): numbers of one width, references for equality, and for cgt.un a reference and null
abbrev pub can_compare_references : Bool → Comparison → Kind → Kind → Bool
can_compare_references branches comparisons.Equal x y = true
can_compare_references branches comparisons.NotEqual x y = true
can_compare_references false comparisons.GreaterUnsigned x y = is_null y
can_compare_references branches comparison x y = false

abbrev pub can_compare : Bool → Comparison → Kind → Kind → Bool
can_compare branches comparison x y =
    if is_reference x && is_reference y then can_compare_references branches comparison x y else same_width x y

-- arguments fit their places, of which the last one is the top's: the stack below them
unfoldable pub last_first : List Place → List Place → List Place
last_first [] so_far = so_far
last_first (place ∷ places) so_far = last_first places (place ∷ so_far)

unfoldable pub under_arguments : World → List Place → List Kind → Option (List Kind)
under_arguments world [] stack = Some stack
under_arguments world (place ∷ places) [] = None
under_arguments world (place ∷ places) (kind ∷ stack) =
    if kind_fits world kind (kind_of place) then under_arguments world places stack else None

module _ (world : World) (method : Method) (next : ℕ) where
  -- what follows: the instruction after it; the target; both; that after it and each target of a switch
  abbrev pub goes_on : List Kind → Flow
  goes_on stack = Flows stack (next ∷ [])

  abbrev pub jumps : Arg → List Kind → Flow
  jumps (args.Target to) stack = Flows stack (to ∷ [])
  jumps arg stack = Untyped

  abbrev pub branches : Arg → List Kind → Flow
  branches (args.Target to) stack = Flows stack (next ∷ to ∷ [])
  branches arg stack = Untyped

  abbrev pub switches : Arg → List Kind → Flow
  switches (args.Targets targets) stack = Flows stack (next ∷ targets)
  switches arg stack = Untyped

  abbrev pub pushes : Option Kind → List Kind → Flow
  pushes None stack = Untyped
  pushes (Some kind) stack = goes_on (kind ∷ stack)

  abbrev pub pops : (Kind → List Kind → Flow) → List Kind → Flow
  pops go [] = Untyped
  pops go (kind ∷ stack) = go kind stack

  abbrev pub asks : Bool → Flow → Flow
  asks true flow = flow
  asks false flow = Untyped

  -- a value that fits a place, where there is such a place
  abbrev pub pops_into : Option Place → List Kind → Flow
  pops_into None stack = Untyped
  pops_into (Some place) stack = pops (λ kind rest. asks (kind_fits world kind (kind_of place)) (goes_on rest)) stack

  -- two integers of one width, which leave one; a shift takes its count as four bytes
  abbrev pub joins : (Kind → Kind → Bool) → List Kind → Flow
  joins takes [] = Untyped
  joins takes (y ∷ []) = Untyped
  joins takes (y ∷ x ∷ stack) = asks (takes x y) (goes_on (x ∷ stack))

  abbrev pub takes_count : Kind → Kind → Bool
  takes_count x count = is_integer x && same_width count kinds.I4

  abbrev pub compares_two : (Kind → Kind → Bool) → (List Kind → Flow) → List Kind → Flow
  compares_two takes go [] = Untyped
  compares_two takes go (y ∷ []) = Untyped
  compares_two takes go (y ∷ x ∷ stack) = asks (takes x y) (go stack)

  -- the result of a call
  abbrev pub result_onto : Option Place → List Kind → List Kind
  result_onto None stack = stack
  result_onto (Some place) stack = kind_of place ∷ stack

  abbrev pub called : Bool → Option Place → Option (List Kind) → Flow
  called true result stack = Untyped
  called false result None = Untyped
  called false result (Some stack) = goes_on (result_onto result stack)

  -- an abstract method is called by no call instruction
  abbrev pub calls_with : List Kind → MethodId → Option Shape → Flow
  calls_with stack target None = Stops
  calls_with stack target (Some shape) =
      called (is_abstract world target) shape.result (under_arguments world (last_first shape.arguments []) stack)

  abbrev pub calls_of : List Kind → Option MethodId → Flow
  calls_of stack None = Stops
  calls_of stack (Some target) = calls_with stack target (profile_shape world target)

  abbrev pub calls : Arg → List Kind → Flow
  calls (args.Token token) stack = calls_of stack (resolve_method world method.id.asm token)
  calls arg stack = Untyped

  -- exactly the result, or nothing for void (III.3.57)
  abbrev pub returns : Option Place → List Kind → Flow
  returns None [] = Stops
  returns (Some place) (kind ∷ []) = asks (kind_fits world kind (kind_of place)) Stops
  returns result stack = Untyped

  -- the rule of each instruction
  unfoldable pub flow_of : Operation → Arg → List Kind → Flow
  -- nothing, arguments, locals, constants
  flow_of operations.Nop arg stack = goes_on stack
  flow_of (operations.LoadArgument i) arg stack = pushes (option_map kind_of (slice_get method.shape.arguments i)) stack
  flow_of (operations.StoreArgument i) arg stack = pops_into (slice_get method.shape.arguments i) stack
  flow_of (operations.LoadLocal i) arg stack = pushes (option_map kind_of (slice_get method.locals i)) stack
  flow_of (operations.StoreLocal i) arg stack = pops_into (slice_get method.locals i) stack
  flow_of operations.LoadNull arg stack = goes_on (kinds.Null ∷ stack)
  flow_of (operations.LoadInt32 z) arg stack = goes_on (kinds.I4 ∷ stack)
  flow_of (operations.LoadInt64 z) arg stack = goes_on (kinds.I8 ∷ stack)
  flow_of operations.Duplicate arg stack = pops (λ kind rest. goes_on (kind ∷ kind ∷ rest)) stack
  flow_of operations.Pop arg stack = pops (λ kind rest. goes_on rest) stack
  -- calls and returns
  flow_of operations.Call arg stack = calls arg stack
  flow_of operations.Return arg stack = returns method.shape.result stack
  -- branches
  flow_of operations.Jump arg stack = jumps arg stack
  flow_of operations.BranchFalse arg stack = pops (λ kind rest. branches arg rest) stack
  flow_of operations.BranchTrue arg stack = pops (λ kind rest. branches arg rest) stack
  flow_of (operations.Branch comparison) arg stack = compares_two (can_compare true comparison) (branches arg) stack
  flow_of operations.Switch arg stack = pops (λ kind rest. asks (same_width kind kinds.I4) (switches arg rest)) stack
  -- arithmetic and comparisons
  flow_of (operations.Binary operator) arg stack = joins same_width stack
  flow_of (operations.Checked operator) arg stack = joins same_width stack
  flow_of (operations.Shift operator) arg stack = joins takes_count stack
  flow_of operations.Negate arg stack = pops (λ kind rest. asks (is_integer kind) (goes_on (kind ∷ rest))) stack
  flow_of operations.Not arg stack = pops (λ kind rest. asks (is_integer kind) (goes_on (kind ∷ rest))) stack
  flow_of (operations.Compare comparison) arg stack =
      compares_two (can_compare false comparison) (λ rest. goes_on (kinds.I4 ∷ rest)) stack
  flow_of (operations.Convert to) arg stack =
      pops (λ kind rest. asks (is_integer kind) (goes_on ((if is_wide to then kinds.I8 else kinds.I4) ∷ rest))) stack
  -- no method in the profile has the others yet
  flow_of operation arg stack = Untyped

abbrev pub flow_by : World → Method → Instr → List Kind → Option Operation → Flow
flow_by world method i stack None = Untyped
flow_by world method i stack (Some operation) = flow_of world method (i.at + instr_size i) operation i.arg stack

abbrev pub flow_if : Bool → World → Method → Instr → List Kind → Flow
flow_if true world method i stack = Stops
flow_if false world method i stack = flow_by world method i stack (operation_of i)

-- of an instruction up to a last offset; each later one is read as one that ends the run
unfoldable pub flow_at : World → Method → ℕ → Instr → List Kind → Flow
flow_at world method last i stack = flow_if (nat_lt last i.at) world method i stack

-- ---- typings

-- the stacks of some offsets, each once
abbrev pub Typing : Type 0
Typing = List (ℕ × List Kind)

abbrev pub stack_at : Typing → ℕ → Option (List Kind)
stack_at typing at = option_map (λ found. found.1) (find (λ found. found.0 == at) typing)

-- an offset of an instruction whose stack such a stack fits
abbrev pub takes_stack : World → List Instr → Typing → List Kind → ℕ → Bool
takes_stack world instrs typing stack to = is_start instrs to && option_map_or (stack_fits world stack) (stack_at typing to) false

abbrev pub keeps : World → Method → List Instr → Typing → Flow → Bool
keeps world method instrs typing Untyped = false
keeps world method instrs typing Stops = true
keeps world method instrs typing (Flows stack to) =
    nat_le (length stack) method.max_stack && list_all (takes_stack world instrs typing stack) to

-- an instruction that is reached meets its rule
abbrev pub meets_rule : World → Method → ℕ → List Instr → Typing → Instr → Bool
meets_rule world method last instrs typing i =
    option_map_or (λ stack. keeps world method instrs typing (flow_at world method last i stack)) (stack_at typing i.at) true

-- A typing: the stack is empty at the start, and each instruction that is reached meets its rule.
unfoldable pub is_typing : World → Method → ℕ → List Instr → Typing → Bool
is_typing world method last instrs typing =
    option_map_or (λ stack. length stack == 0) (stack_at typing 0) false && list_all (meets_rule world method last instrs typing) instrs

-- ---- the least typing, by rounds over the instructions: where flows meet, references widen to their nearest common base

abbrev pub widen : World → Kind → Kind → Kind
widen world kinds.Null other = other
widen world (kinds.Ref of) (kinds.Ref other) = kinds.Ref (common_base world of other)
widen world kind other = kind

unfoldable pub widen_all : World → List Kind → List Kind → List Kind
widen_all world (kind ∷ kinds) (other ∷ others) = widen world kind other ∷ widen_all world kinds others
widen_all world kinds others = kinds

unfoldable pub with_stack : World → List Kind → ℕ → Typing → Typing
with_stack world stack to [] = (to, stack) ∷ []
with_stack world stack to (found ∷ typing) =
    if found.0 == to then (to, widen_all world found.1 stack) ∷ typing else found ∷ with_stack world stack to typing

abbrev pub with_flow : World → Typing → Flow → Typing
with_flow world typing (Flows stack to) = fold (λ so_far at. with_stack world stack at so_far) typing to
with_flow world typing flow = typing

abbrev pub with_instr : World → Method → ℕ → Typing → Instr → Typing
with_instr world method last typing i =
    option_map_or (λ stack. with_flow world typing (flow_at world method last i stack)) (stack_at typing i.at) typing

abbrev pub round : World → Method → ℕ → List Instr → Typing → Typing
round world method last instrs typing = fold (with_instr world method last) typing instrs

abbrev pub kind_eq : Kind → Kind → Bool
kind_eq kinds.I4 kinds.I4 = true
kind_eq kinds.I8 kinds.I8 = true
kind_eq kinds.Null kinds.Null = true
kind_eq (kinds.Ref of) (kinds.Ref to) = type_eq of to
kind_eq kind other = false

abbrev pub same_typing : Typing → Typing → Bool
same_typing typing other = pointwise (λ a b. a.0 == b.0 && pointwise kind_eq a.1 b.1) typing other

abbrev pub settled_or : (Typing → Typing) → Bool → Typing → Typing
settled_or go_on true typing = typing
settled_or go_on false typing = go_on typing

-- what the rounds come to: a round that changes nothing is the last one
unfoldable pub settled : ℕ → World → Method → ℕ → List Instr → Typing → Typing
settled zero world method last instrs typing = typing
settled (suc n) world method last instrs typing =
    let widened = round world method last instrs typing in
    settled_or (settled n world method last instrs) (same_typing widened typing) widened

-- Each round but the last reaches another instruction, or widens one of at most MaxStack types. A type is widened no more often than
-- there are rows of TypeDef, and to System.Object and from null.
abbrev pub rounds : World → Method → List Instr → ℕ
rounds world method instrs = length instrs * (1 + method.max_stack * (rows_of_world world tables.TypeDef + 2))

abbrev pub if_typing : World → Method → ℕ → List Instr → Typing → Option Typing
if_typing world method last instrs typing = if is_typing world method last instrs typing then Some typing else None

-- the least typing, where there is one
abbrev pub least_typing : World → Method → ℕ → List Instr → Option Typing
least_typing world method last instrs =
    if_typing world method last instrs (settled (rounds world method instrs) world method last instrs ((0, []) ∷ []))

-- of the whole code
abbrev pub typing_by : World → Method → List Instr → Option Typing
typing_by world method instrs = least_typing world method (length method.code) instrs

unfoldable pub typing_of : World → Method → Option Typing
typing_of world method = option_and_then (typing_by world method) (instrs_of method.code)

-- the least offset of an instruction such that there is no typing, even where each later instruction ends the run
abbrev pub first_untyped_in : World → Method → List Instr → Option ℕ
first_untyped_in world method instrs = option_map (λ i. i.at) (find (λ i. is_none (least_typing world method i.at instrs)) instrs)

unfoldable pub first_untyped : World → Method → Option ℕ
first_untyped world method = option_and_then (first_untyped_in world method) (instrs_of method.code)

-- ---- a method is in the profile where it meets its conditions, and verifies

abbrev pub if_verifies : World → Method → Option Method
if_verifies world method = option_map (λ typing. method) (typing_of world method)

unfoldable pub method_in_profile : World → MethodId → Option Method
method_in_profile world id = option_and_then (if_verifies world) (profile_method world id)

-- What the Rust type says of what follows an instruction.
use Rattle.std.specs.Prelude.{ℕ, Bool, true, false, List, [], ◌∷◌, drop, Option, Some, None}
use Rattle.cil_decode.specs.declared.instr.Arg.{Arg}
use Rattle.cil_decode.specs.Bodies.{targets_of}
use Rattle.cil_decode.specs.declared.operation.Operation.{Operation}
use Rattle.cil_decode.specs.declared.operation.Operation.TheVariants as operations
use Rattle.cil_meaning.specs.declared.kind.Kind.{Kind}
use Rattle.cil_meaning.specs.Typing.{Flow, Untyped, Stops, Flows}
use Rattle.cil_verify.specs.declared.flow.Leaves.{Leaves}
use Rattle.cil_verify.specs.declared.flow.Flow.{Flow as Found}
use Rattle.cil_verify.specs.declared.flow.Flow.TheVariants as found

abbrev pub onto : Option Kind → List Kind → List Kind
onto None under = under
onto (Some kind) under = kind ∷ under

abbrev pub offsets : Option ℕ → List ℕ → List ℕ
offsets None targets = targets
offsets (Some next) targets = next ∷ targets

abbrev pub targets_if : Bool → Arg → List ℕ
targets_if true arg = targets_of arg
targets_if false arg = []

-- the stack after an instruction, and the offsets that follow
abbrev pub stack_after : Leaves → List Kind → List Kind
stack_after leaves stack = onto leaves.pushed (drop leaves.popped stack)

abbrev pub offsets_after : Leaves → Arg → List ℕ
offsets_after leaves arg = offsets leaves.next (targets_if leaves.targets arg)

abbrev pub as_flow : Found → Arg → List Kind → Flow
as_flow found.Untyped arg stack = Untyped
as_flow found.Stops arg stack = Stops
as_flow (found.Flows leaves) arg stack = Flows (stack_after leaves stack) (offsets_after leaves arg)

-- ---- operations by what they are about

-- calls, returns and branches
abbrev pub is_control : Operation → Bool
is_control operations.Call = true
is_control operations.Return = true
is_control operations.Jump = true
is_control operations.BranchFalse = true
is_control operations.BranchTrue = true
is_control (operations.Branch comparison) = true
is_control operations.Switch = true
is_control operation = false

-- arguments, locals, constants and the stack itself
abbrev pub is_of_values : Operation → Bool
is_of_values operations.Nop = true
is_of_values (operations.LoadArgument i) = true
is_of_values (operations.StoreArgument i) = true
is_of_values (operations.LoadLocal i) = true
is_of_values (operations.StoreLocal i) = true
is_of_values operations.LoadNull = true
is_of_values (operations.LoadInt32 z) = true
is_of_values (operations.LoadInt64 z) = true
is_of_values operations.Duplicate = true
is_of_values operations.Pop = true
is_of_values operation = false

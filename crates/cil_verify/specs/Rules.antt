-- The parts of the rules of instructions, by what a rule depends on beside the instruction.
use Rattle.std.specs.Prelude.{List, ◌∷◌, Option, if◌then◌else◌, true, false}
use Rattle.cil_decode.specs.declared.instr.Arg.{Arg}
use Rattle.cil_decode.specs.declared.operation.Operation.{Operation}
use Rattle.cil_decode.specs.declared.operation.Comparison.{Comparison}
use Rattle.cil_decode.specs.declared.operation.IntegerType.{IntegerType}
use Rattle.type_world.specs.declared.identity.MethodId.{MethodId}
use Rattle.cil_meaning.specs.declared.kind.Kind.{Kind}
use Rattle.cil_meaning.specs.declared.kind.Kind.TheVariants as kinds
use Rattle.type_world.specs.declared.place.Place.{Place}
use Rattle.cil_meaning.specs.Arithmetic.{is_wide}
use Rattle.type_world.specs.Loading.{as_method, world_of}
use Rattle.type_world.specs.Profile.{profile_shape}
use Rattle.cil_meaning.specs.Typing.{Flow, asks, branches, calls_with, can_compare, compares_two, flow_of, goes_on, is_integer, joins, jumps}
use Rattle.cil_meaning.specs.Typing.{pops, pops_into, pushes, result_onto, returns, same_width, switches, takes_count}
use Rattle.cil_verify.specs.declared.rule.Rule.{Rule}

-- of each instruction
abbrev pub rule_of : Rule → Operation → Arg → List Kind → Flow
rule_of r operation arg stack = flow_of (world_of r.world.now) (as_method r.method.now) r.next operation arg stack

-- ---- its parts

abbrev pub goes_by : Rule → List Kind → Flow
goes_by r stack = goes_on (world_of r.world.now) (as_method r.method.now) r.next stack

abbrev pub pushes_by : Rule → Option Kind → List Kind → Flow
pushes_by r kind stack = pushes (world_of r.world.now) (as_method r.method.now) r.next kind stack

abbrev pub pops_into_by : Rule → Option Place → List Kind → Flow
pops_into_by r place stack = pops_into (world_of r.world.now) (as_method r.method.now) r.next place stack

abbrev pub popped_by : Rule → (Kind → List Kind → Flow) → List Kind → Flow
popped_by r go stack = pops (world_of r.world.now) (as_method r.method.now) r.next go stack

abbrev pub duplicates_by : Rule → List Kind → Flow
duplicates_by r stack = popped_by r (λ kind rest. goes_by r (kind ∷ kind ∷ rest)) stack

abbrev pub pops_by : Rule → List Kind → Flow
pops_by r stack = popped_by r (λ kind rest. goes_by r rest) stack

abbrev pub joins_by : Rule → List Kind → Flow
joins_by r stack = joins (world_of r.world.now) (as_method r.method.now) r.next same_width stack

abbrev pub counts_by : Rule → List Kind → Flow
counts_by r stack =
    joins (world_of r.world.now) (as_method r.method.now) r.next (takes_count (world_of r.world.now) (as_method r.method.now) r.next) stack

abbrev pub keeps_integer_by : Rule → List Kind → Flow
keeps_integer_by r stack =
    popped_by r
    (λ kind rest. asks (world_of r.world.now) (as_method r.method.now) r.next (is_integer kind) (goes_by r (kind ∷ rest)))
    stack

abbrev pub compares_by : Rule → Comparison → List Kind → Flow
compares_by r comparison stack =
    compares_two (world_of r.world.now) (as_method r.method.now) r.next (can_compare false comparison)
    (λ rest. goes_by r (kinds.I4 ∷ rest))
    stack

abbrev pub converts_by : Rule → IntegerType → List Kind → Flow
converts_by r to stack =
    popped_by r
    (λ kind rest. asks (world_of r.world.now) (as_method r.method.now) r.next (is_integer kind)
    (goes_by r ((if is_wide to then kinds.I8 else kinds.I4) ∷ rest)))
    stack

abbrev pub jumps_by : Rule → Arg → List Kind → Flow
jumps_by r arg stack = jumps (world_of r.world.now) (as_method r.method.now) r.next arg stack

abbrev pub branches_by : Rule → Arg → List Kind → Flow
branches_by r arg stack = branches (world_of r.world.now) (as_method r.method.now) r.next arg stack

abbrev pub tests_by : Rule → Arg → List Kind → Flow
tests_by r arg stack = popped_by r (λ kind rest. branches_by r arg rest) stack

abbrev pub pops_then_branches_by : Rule → Comparison → Arg → List Kind → Flow
pops_then_branches_by r comparison arg stack =
    compares_two (world_of r.world.now) (as_method r.method.now) r.next (can_compare true comparison) (branches_by r arg) stack

abbrev pub switches_by : Rule → Arg → List Kind → Flow
switches_by r arg stack =
    popped_by r
    (λ kind rest. asks (world_of r.world.now) (as_method r.method.now) r.next (same_width kind kinds.I4)
    (switches (world_of r.world.now) (as_method r.method.now) r.next arg rest))
    stack

abbrev pub returns_by : Rule → List Kind → Flow
returns_by r stack = returns (world_of r.world.now) (as_method r.method.now) r.next (as_method r.method.now).shape.result stack

abbrev pub called_by : Rule → Option Place → List Kind → Flow
called_by r result under = goes_by r (result_onto (world_of r.world.now) (as_method r.method.now) r.next result under)

abbrev pub calls_by : Rule → MethodId → List Kind → Flow
calls_by r target stack =
    calls_with (world_of r.world.now) (as_method r.method.now) r.next stack target (profile_shape (world_of r.world.now) target)

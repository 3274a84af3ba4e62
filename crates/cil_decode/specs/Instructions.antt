-- One instruction at an offset of a code (ECMA-335 III.1.2 and III.1.7): its opcode, and after it the opcode's operand.
use Rattle.std.specs.Prelude.{◌≡◌, ℕ, ◌+◌, ◌-◌, ◌*◌, ◌%◌, ◌^◌, ◌==◌, ℤ, pos, List, [], ◌∷◌, length, map, drop, Option}
use Rattle.std.specs.Prelude.{Some, None, Result, Ok, Err, nat_le, nat_lt, if◌then◌else◌}
use Rattle.std.specs.Option.{option_map, option_and_then}
use Rattle.std.specs.List.{range_with_len}
use Rattle.byteorder.specs.Endian.{twos_complement}
use Rattle.rtr_bytes.specs.Field.{field_at, u32_of}
use Rattle.cil_decode.specs.declared.opcode.Operand.{Operand}
use Rattle.cil_decode.specs.declared.opcode.Operand.TheVariants as operands
use Rattle.cil_decode.specs.declared.instr.Arg.{Arg}
use Rattle.cil_decode.specs.declared.instr.Arg.TheVariants as args
use Rattle.cil_decode.specs.declared.instr.Instr.{Instr}
use Rattle.cil_decode.specs.declared.body.BodyRefusal.{BodyRefusal}
use Rattle.cil_decode.specs.declared.body.BodyRefusal.TheVariants as refusals
use Rattle.cil_decode.specs.Opcodes.{operand_of}

-- the form that bytes begin with: one byte, or FE and a second one
abbrev pub second_in : List ℕ → Option ℕ
second_in [] = None
second_in (b ∷ bytes) = Some (0xFE00 + b)

abbrev pub form_in : List ℕ → Option ℕ
form_in [] = None
form_in (b ∷ bytes) = if b == 0xFE then second_in bytes else Some b

abbrev pub form_size : ℕ → ℕ
form_size form = if nat_lt form 0x100 then 1 else 2

-- ---- operands

-- the offset that a distance of some bytes names, from the offset of the next instruction on, modulo 2^32
abbrev pub target : ℕ → ℕ → ℕ → ℕ
target size next distance =
    (next + (if nat_lt distance (2 ^ (8 * size - 1)) then distance else distance + (2 ^ 32 - 2 ^ (8 * size)))) % 2 ^ 32

-- the targets of a switch: their number is at an offset, and after it their distances
abbrev pub switch_target : List ℕ → ℕ → ℕ → ℕ → ℕ
switch_target code at count i = target 4 (at + 4 + 4 * count) (u32_of code (at + 4 + 4 * i))

abbrev pub switch_at : List ℕ → ℕ → ℕ → Option Arg
switch_at code at count =
    if nat_le (at + 4 + 4 * count) (length code) then Some
    (args.Targets (map (switch_target code at count) (range_with_len 0 count))) else None

abbrev pub switch_operand_at : List ℕ → ℕ → Option Arg
switch_operand_at code at = option_and_then (switch_at code at) (field_at 4 code at)

-- the signed number of some bytes at an offset
abbrev pub signed_at : List ℕ → ℕ → ℕ → Option ℤ
signed_at code at size = option_map (twos_complement size) (field_at size code at)

-- an operand whose size depends on its kind alone
abbrev pub fixed_operand_at : List ℕ → ℕ → Operand → Option Arg
fixed_operand_at code at operands.Nothing = Some args.Nothing
fixed_operand_at code at operands.UInt8 = option_map (λ n. args.Num (pos n)) (field_at 1 code at)
fixed_operand_at code at operands.UInt16 = option_map (λ n. args.Num (pos n)) (field_at 2 code at)
fixed_operand_at code at operands.Int8 = option_map args.Num (signed_at code at 1)
fixed_operand_at code at operands.Int32 = option_map args.Num (signed_at code at 4)
fixed_operand_at code at operands.Int64 = option_map args.Num (signed_at code at 8)
fixed_operand_at code at operands.Token = option_map args.Token (field_at 4 code at)
fixed_operand_at code at operands.ShortTarget = option_map (λ distance. args.Target (target 1 (at + 1) distance)) (field_at 1 code at)
fixed_operand_at code at operands.Target = option_map (λ distance. args.Target (target 4 (at + 4) distance)) (field_at 4 code at)
fixed_operand_at code at operands.Targets = None

-- the operand at an offset; none where it passes the end
unfoldable pub operand_at : List ℕ → ℕ → Operand → Option Arg
operand_at code at operands.Targets = switch_operand_at code at
operand_at code at operand = fixed_operand_at code at operand

-- ---- the instruction

abbrev pub instr : ℕ → ℕ → Arg → Instr
instr at form arg = record { at = at; form = form; arg = arg }

abbrev pub with_arg : ℕ → ℕ → Option Arg → Result Instr BodyRefusal
with_arg at form None = Err (refusals.Cut at)
with_arg at form (Some arg) = Ok (instr at form arg)

abbrev pub with_operand : List ℕ → ℕ → ℕ → Option Operand → Result Instr BodyRefusal
with_operand code at form None = Err (refusals.OutOfProfile at)
with_operand code at form (Some operand) = with_arg at form (operand_at code (at + form_size form) operand)

abbrev pub with_form : List ℕ → ℕ → Option ℕ → Result Instr BodyRefusal
with_form code at None = Err (refusals.Cut at)
with_form code at (Some form) = with_operand code at form (operand_of form)

-- the instruction at an offset, or why there is none: it passes the end, or its opcode is outside the profile
unfoldable pub instr_at : List ℕ → ℕ → Result Instr BodyRefusal
instr_at code at = with_form code at (form_in (drop at code))

-- what a reader of it answers where it refuses: it found no memory, or there is no instruction for this reason
abbrev pub IsRefusedAt : List ℕ → ℕ → BodyRefusal → Type 0
IsRefusedAt code at refusals.NoMemory = Unit {0}
IsRefusedAt code at (refusals.BadTarget k) = ⊥
IsRefusedAt code at e = instr_at code at ≡ Err e

-- how many bytes an operand has, of which a switch's targets are not counted
abbrev pub fixed_size : Operand → ℕ
fixed_size operands.Nothing = 0
fixed_size operands.UInt8 = 1
fixed_size operands.UInt16 = 2
fixed_size operands.Int8 = 1
fixed_size operands.Int32 = 4
fixed_size operands.Int64 = 8
fixed_size operands.Token = 4
fixed_size operands.ShortTarget = 1
fixed_size operands.Target = 4
fixed_size operands.Targets = 4

abbrev pub operand_size : Operand → Arg → ℕ
operand_size operands.Targets (args.Targets targets) = 4 + 4 * length targets
operand_size operand arg = fixed_size operand

abbrev pub arg_size : Arg → Option Operand → ℕ
arg_size arg None = 0
arg_size arg (Some operand) = operand_size operand arg

-- how many bytes an instruction has
unfoldable pub instr_size : Instr → ℕ
instr_size i = form_size i.form + arg_size i.arg (operand_of i.form)

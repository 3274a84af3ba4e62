-- The bytes of an instruction (ECMA-335 III.1.2 and III.1.7).
use Rattle.std.specs.Prelude.{ℕ, ◌+◌, ◌-◌, ◌%◌, ◌^◌, List, [], ◌∷◌, ◌++◌, length, flat_map, Option, Some, None, nat_lt, if◌then◌else◌}
use Rattle.std.specs.Int.{w64, cast_unsigned}
use Rattle.byteorder.specs.Endian.{little_bytes}
use Rattle.cil_decode.specs.declared.opcode.Operand.{Operand}
use Rattle.cil_decode.specs.declared.instr.Arg.{Arg}
use Rattle.cil_decode.specs.declared.instr.Arg.TheVariants as args
use Rattle.cil_decode.specs.declared.instr.Instr.{Instr}
use Rattle.cil_decode.specs.Opcodes.{operand_of}
use Rattle.cil_decode.specs.Instructions.{fixed_size, instr_size}

abbrev pub form_bytes : ℕ → List ℕ
form_bytes form = if nat_lt form 0x100 then form ∷ [] else 0xFE ∷ form % 0x100 ∷ []

-- how far a target is from the next instruction, modulo 2^32
abbrev pub distance : ℕ → ℕ → ℕ
distance next at = (at + (2 ^ 32 - next)) % 2 ^ 32

abbrev pub distances : ℕ → List ℕ → List ℕ
distances next targets = flat_map (λ at. little_bytes 4 (distance next at)) targets

-- an operand of a size, before the next instruction
abbrev pub arg_bytes : ℕ → ℕ → Arg → List ℕ
arg_bytes size next args.Nothing = []
arg_bytes size next (args.Num z) = little_bytes size (cast_unsigned w64 z)
arg_bytes size next (args.Token token) = little_bytes size token
arg_bytes size next (args.Target at) = little_bytes size (distance next at)
arg_bytes size next (args.Targets targets) = little_bytes size (length targets) ++ distances next targets

abbrev pub operand_bytes : ℕ → Arg → Option Operand → List ℕ
operand_bytes next arg None = []
operand_bytes next arg (Some operand) = arg_bytes (fixed_size operand) next arg

unfoldable pub instr_bytes : Instr → List ℕ
instr_bytes i = form_bytes i.form ++ operand_bytes (i.at + instr_size i) i.arg (operand_of i.form)

-- instructions one after the other
abbrev pub code_bytes : List Instr → List ℕ
code_bytes list = flat_map instr_bytes list

-- What an instruction does, by the table of opcodes.
use Rattle.std.specs.Prelude.{ℕ, ◌%◌, ◌^◌, ℤ, Option}
use Rattle.std.specs.Option.{option_map}
use Rattle.std.specs.Int.{w32, w64, cast_signed, cast_unsigned}
use Rattle.cil_decode.specs.declared.operation.Operation.{Operation}
use Rattle.cil_decode.specs.declared.operation.Operation.TheVariants as operations
use Rattle.cil_decode.specs.declared.instr.Arg.{Arg}
use Rattle.cil_decode.specs.declared.instr.Arg.TheVariants as args
use Rattle.cil_decode.specs.declared.instr.Instr.{Instr}
use Rattle.cil_decode.specs.Opcodes.{opcode_of}

-- an index of an argument or a local has two bytes
abbrev pub index : ℤ → ℕ
index z = cast_unsigned w64 z % 2 ^ 16

-- the number of four bytes with the low bits of another one
abbrev pub int32 : ℤ → ℤ
int32 z = cast_signed w32 (cast_unsigned w64 z % 2 ^ 32)

-- a number takes the place of the one that the table has
abbrev pub with_number : Operation → ℤ → Operation
with_number (operations.LoadArgument n) z = operations.LoadArgument (index z)
with_number (operations.StoreArgument n) z = operations.StoreArgument (index z)
with_number (operations.LoadLocal n) z = operations.LoadLocal (index z)
with_number (operations.StoreLocal n) z = operations.StoreLocal (index z)
with_number (operations.LoadInt32 n) z = operations.LoadInt32 (int32 z)
with_number (operations.LoadInt64 n) z = operations.LoadInt64 z
with_number operation z = operation

abbrev pub with_operand : Arg → Operation → Operation
with_operand (args.Num z) operation = with_number operation z
with_operand arg operation = operation

-- none outside the profile
abbrev pub operation_of : Instr → Option Operation
operation_of i = option_map (λ o. with_operand i.arg o.operation) (opcode_of i.form)

-- An opcode of the table has an operand and an operation.
use Rattle.std.proofs.Common.{◌≡◌, Option, Some, None, refl}
use Rattle.std.specs.Prelude.{is_some}
use Rattle.std.specs.Option.{option_map}
use Rattle.cil_decode.specs.declared.instr.Arg.{Arg}
use Rattle.cil_decode.specs.declared.instr.Instr.{Instr}
use Rattle.cil_decode.specs.declared.opcode.Opcode.{Opcode}
use Rattle.cil_decode.specs.Opcodes.{opcode_of, operand_of}
use Rattle.cil_decode.specs.Operations.{operation_of, with_operand}

both : (arg : Arg) (o : Option Opcode)
    → is_some (option_map (λ c. with_operand arg c.operation) o) ≡ is_some (option_map (λ c. c.operand) o)
both arg None = refl
both arg (Some c) = refl

pub known : (i : Instr) → is_some (operation_of i) ≡ is_some (operand_of i.form)
unfolding operand_of
known i = both i.arg (opcode_of i.form)

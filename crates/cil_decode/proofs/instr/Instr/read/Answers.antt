use Rattle.std.proofs.Common.{◌≡◌, ◌+◌, ◌≤◌, length, Some, sym, ◌∙◌, arith}
use Rattle.cil_decode.specs.Instructions.{form_size, operand_at}
use Rattle.cil_decode.specs.Opcodes.{operand_of}
use Rattle.cil_decode.proofs.Sizes.{some_ends, size_of}
use Rattle.cil_decode.proofs.instr.Instr.read.Goals as goal

pub returns-in-Some-2-clause-inside : goal.returns-in-Some-2-clause-inside
returns-in-Some-2-clause-inside c =
    let code = c.args.code.now in
    let at = c.args.at in
    let form = c.in-Some.form in
    let operand = c.in-Some-operand_of.operand in
    let arg = c.in-Some-2.arg in
    let size = c.form_size.ensures in
    let known : operand_of form ≡ Some operand = sym c.in-Some-operand_of.ensures in
    let read : operand_at code (at + c.form_size.result) operand ≡ Some arg = sym c.in_ok-arg.ensures ∙ c.in-Some-2.is in
    let within : at + form_size form ≤ length code = c.in-Some.ensures.within in
    let ends = some_ends code (at + c.form_size.result) operand arg (omega (arith, size, within)) read in
    let sizes = size_of at form arg operand known in
    omega (arith, size, ends, sizes)

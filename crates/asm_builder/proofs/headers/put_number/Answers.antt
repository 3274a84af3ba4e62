use Rattle.std.proofs.Common.{arith}
use Rattle.std.proofs.lemmas.Grind.{common_steps}
use Rattle.byteorder.proofs.Bytes.{take-bytes_low_first}
use Rattle.asm_builder.proofs.headers.put_number.Goals as goal

pub returns : goal.returns
returns c =
    let low = take-bytes_low_first 0 8 c.args.width c.args.value c.requires in
    grind (arith, common_steps, low)

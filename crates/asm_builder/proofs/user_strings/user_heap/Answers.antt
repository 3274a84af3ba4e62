use Rattle.std.proofs.Common.{length, ap, arith}
use Rattle.asm_builder.proofs.Spelled.{item_is}
use Rattle.asm_builder.proofs.Strings.{string_part}
use Rattle.asm_builder.proofs.user_strings.user_heap.Goals as goal

pub put_user_string-requires : goal.put_user_string-requires
put_user_string-requires c =
    let part = string_part c.args.strings.now c.loop-units.units-index c.units-item.result
    (item_is c.args.strings.now c.loop-units.units-index c.units-item.result (omega arith) c.units-item.is) in
    let same = ap length c.as_slice.ensures in
    omega (arith, part, same)

use Rattle.std.proofs.Common.{◌^◌, ◌<◌, arith}
use Rattle.native_format.proofs.UintLaws.{word_from}
use Rattle.native_format.proofs.sparse_reader.entry_at.Goals as goal

pub overflow_cast-result : goal.overflow_cast-result
overflow_cast-result c =
    let small : c.read_uint.result < 2 ^ 32 =
    word_from c.args.size c.args.at c.read_uint.result c.args.bytes.now c.requires.most
    (λ i. omega (arith, c.type_inv.bytes i)) c.read_uint.ensures in
    omega arith

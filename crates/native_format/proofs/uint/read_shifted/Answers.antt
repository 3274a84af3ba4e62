use Rattle.std.proofs.Common.{arith}
use Rattle.native_format.proofs.UintLaws.{word_fits}
use Rattle.native_format.proofs.uint.read_shifted.Goals as goal

pub overflow_cast-word : goal.overflow_cast-word
overflow_cast-word c =
    omega (arith, c.read_uint-word.ensures, word_fits c.args.size c.args.bytes.now c.requires.most (λ i. omega (arith, c.type_inv.bytes i)))

use Rattle.std.proofs.Common.{◌+◌, ap}
use Rattle.asm_builder.proofs.Padding.{not_empty, size_is}
use Rattle.asm_builder.proofs.content.body_size.Goals as goal

pub returns : goal.returns
returns c =
    size_is c.args.m.now (12 + c.len-len.result) c.padding4.result
    (not_empty c.args.m.now.code c.is_empty.result c.is_empty.ensures c.if-is_empty.false)
    (ap (λ n. 12 + n) c.len-len.ensures) c.padding4.ensures.padding

use Rattle.std.proofs.Common.{◌-◌, arith}
use Rattle.rtr_bytes.proofs.Spellings.{begins_2, begins_4, below_29}
use Rattle.rtr_bytes.proofs.compressed.compressed_at.Goals as goal

pub returns-in-len2-up-clause-found : goal.returns-in-len2-up-clause-found
returns-in-len2-up-clause-found c =
    begins_2 c.args.bytes.now c.in_ok-front.front.now c.args.at (c.read_u16.result - 0x8000)
    c.in_ok-front.ensures.lookup.0.2 (λ i. omega (arith, c.type_inv.bytes i))
    c.in-len2-up.len_at_least c.if-a-lt128.false c.if-a-lt192.true (omega arith)

pub returns-in-len4-up-clause-found : goal.returns-in-len4-up-clause-found
returns-in-len4-up-clause-found c =
    begins_4 c.args.bytes.now c.in_ok-front.front.now c.args.at (c.read_u32.result - 0xC000_0000)
    c.in_ok-front.ensures.lookup.0.2 (λ i. omega (arith, c.type_inv.bytes i))
    c.in-len4-up.len_at_least c.if-a-lt192.false c.if-a-lt224.true (omega arith)

pub returns-in-len4-up-clause-bounded : goal.returns-in-len4-up-clause-bounded
returns-in-len4-up-clause-bounded c = below_29 c.args.bytes.now c.args.at _ _ (returns-in-len4-up-clause-found c)

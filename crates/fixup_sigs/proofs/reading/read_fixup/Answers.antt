use Rattle.std.proofs.Common.{arith}
use Rattle.fixup_sigs.proofs.ReadingLaws.{fixup_at-read, read_is}
use Rattle.fixup_sigs.proofs.reading.read_fixup.Goals as goal

pub returns-clause-exact : goal.returns-clause-exact
returns-clause-exact c =
    read_is c.args.bytes.now c.args.at c.fixup_from.result (λ i. omega (arith, c.type_inv.bytes i)) c.fixup_from.ensures.found
    c.fixup_from.ensures.only

pub returns-clause-alone : goal.returns-clause-alone
returns-clause-alone c = fixup_at-read c.args.bytes.now c.args.at c.fixup_from.result (returns-clause-exact c)

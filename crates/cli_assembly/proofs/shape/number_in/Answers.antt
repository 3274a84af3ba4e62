use Rattle.std.proofs.Common.{rules}
use Rattle.cli_assembly.proofs.Numbers.{no_number}
use Rattle.cli_assembly.proofs.shape.number_in.Goals as goal

-- src/shape.rt:16:25
pub returns-in_err-value-clause-found : goal.returns-in_err-value-clause-found
returns-in_err-value-clause-found c =
    rw (no_number c.args.bytes.now c.in_err-value.ensures.exact) (search rules)

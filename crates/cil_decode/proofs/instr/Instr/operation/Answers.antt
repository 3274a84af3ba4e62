use Rattle.std.proofs.Common.{ap, ◌∙◌}
use Rattle.std.specs.Prelude.{is_some}
use Rattle.cil_decode.proofs.Known.{known}
use Rattle.cil_decode.proofs.instr.Instr.operation.Goals as goal

pub returns-clause-known : goal.returns-clause-known
returns-clause-known c = ap is_some c.operation_of.ensures ∙ known c.args.self.now

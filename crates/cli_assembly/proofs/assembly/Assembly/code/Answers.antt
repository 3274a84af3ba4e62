use Rattle.cli_assembly.proofs.BodiesInside.{code_is}
use Rattle.cli_assembly.proofs.assembly.Assembly.code.Goals as goal

pub returns : goal.returns
returns c = code_is c.args.self.now c.bytes.result.now c.in_ok-code.field-0 _ c.bytes.ensures.bytes c.in_ok-code.ensures.body

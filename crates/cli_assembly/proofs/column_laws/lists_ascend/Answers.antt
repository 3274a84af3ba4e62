use Rattle.cli_assembly.proofs.Lists.{lists_ascend}
use Rattle.cli_assembly.proofs.column_laws.lists_ascend.Goals as goal

pub returns : goal.returns
returns c = lists_ascend

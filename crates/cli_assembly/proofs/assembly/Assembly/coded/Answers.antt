use Rattle.std.proofs.Common.{◌∙◌}
use Rattle.cli_assembly.proofs.Coded.{coded_is}
use Rattle.cli_assembly.proofs.assembly.Assembly.coded.Goals as goal

pub returns : goal.returns
returns c =
    let found = rw (c.metadata.ensures.layout, c.number.ensures) at c.coded.ensures in
    found ∙ coded_is c.args.self.now c.args.kind c.args.value

use Rattle.std.proofs.Common.{sym, ◌∙◌}
use Rattle.cli_assembly.proofs.Records.{file_strings}
use Rattle.cli_assembly.proofs.assembly.Assembly.string.Goals as goal

pub returns : goal.returns
returns c =
    let found = rw (c.metadata.ensures.layout, c.bytes.ensures.bytes) at c.string.ensures in
    found ∙ sym (file_strings c.args.self.now c.args.at)

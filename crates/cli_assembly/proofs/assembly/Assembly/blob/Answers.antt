use Rattle.std.proofs.Common.{sym, ◌∙◌}
use Rattle.cli_assembly.proofs.Records.{file_blobs}
use Rattle.cli_assembly.proofs.assembly.Assembly.blob.Goals as goal

pub returns : goal.returns
returns c =
    let found = rw (c.metadata.ensures.layout, c.bytes.ensures.bytes) at c.blob.ensures in
    found ∙ sym (file_blobs c.args.self.now c.args.at)

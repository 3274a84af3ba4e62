use Rattle.cli_assembly.proofs.Rows.{blob_small}
use Rattle.cli_assembly.proofs.signatures.signature_blob.Goals as goal

pub returns-clause-small : goal.returns-clause-small
returns-clause-small c = blob_small c.args.bytes.now c.args.metadata.now c.in_ok-at.at _ c.blob.result c.requires.small c.blob.ensures

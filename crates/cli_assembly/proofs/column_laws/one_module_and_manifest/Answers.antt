use Rattle.cli_assembly.proofs.Named.{is_one}
use Rattle.cli_assembly.proofs.column_laws.one_module_and_manifest.Goals as goal

pub returns : goal.returns
returns c = is_one

use Rattle.cli_assembly.proofs.Named.{columns_named}
use Rattle.cli_assembly.proofs.column_laws.columns_are_named.Goals as goal

pub returns : goal.returns
returns c = columns_named

use Rattle.cli_assembly.proofs.Classes.{coded_back}
use Rattle.cli_assembly.proofs.SignaturesBack.{field_again, locals_again, method_again}
use Rattle.cli_assembly.proofs.laws.signatures_are_read_back.Goals as goal

pub returns-clause-methods : goal.returns-clause-methods
returns-clause-methods c = method_again

pub returns-clause-fields : goal.returns-clause-fields
returns-clause-fields c = field_again

pub returns-clause-locals : goal.returns-clause-locals
returns-clause-locals c = locals_again

pub returns-clause-tokens : goal.returns-clause-tokens
returns-clause-tokens c = coded_back

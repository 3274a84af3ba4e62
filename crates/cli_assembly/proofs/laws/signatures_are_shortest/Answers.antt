use Rattle.cli_assembly.proofs.ShortestSigs.{shortest_field, shortest_locals, shortest_method}
use Rattle.cli_assembly.proofs.laws.signatures_are_shortest.Goals as goal

pub returns-clause-methods : goal.returns-clause-methods
returns-clause-methods c = shortest_method

pub returns-clause-fields : goal.returns-clause-fields
returns-clause-fields c = shortest_field

pub returns-clause-locals : goal.returns-clause-locals
returns-clause-locals c = shortest_locals

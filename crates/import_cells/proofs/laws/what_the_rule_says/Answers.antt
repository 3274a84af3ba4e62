use Rattle.import_cells.proofs.RuleSays.{says}
use Rattle.import_cells.proofs.laws.what_the_rule_says.Goals as goal

pub returns : goal.returns
returns c = says

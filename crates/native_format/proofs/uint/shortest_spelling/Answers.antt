use Rattle.native_format.proofs.UintLaws.{short_spells, shortest, short_again}
use Rattle.native_format.proofs.uint.shortest_spelling.Goals as goal

pub returns-clause-spells : goal.returns-clause-spells
returns-clause-spells c = short_spells

pub returns-clause-shortest : goal.returns-clause-shortest
returns-clause-shortest c = shortest

pub returns-clause-read_back : goal.returns-clause-read_back
returns-clause-read_back c = short_again

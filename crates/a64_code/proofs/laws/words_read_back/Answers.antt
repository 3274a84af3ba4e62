use Rattle.a64_code.proofs.Inverse.{known, instruction_is_word}
use Rattle.a64_code.proofs.Outside.{outside_words}
use Rattle.a64_code.proofs.laws.words_read_back.Goals as goal

pub returns-clause-read_back : goal.returns-clause-read_back
returns-clause-read_back c = known

pub returns-clause-written_back : goal.returns-clause-written_back
returns-clause-written_back c = instruction_is_word

pub returns-clause-outside : goal.returns-clause-outside
returns-clause-outside c = outside_words

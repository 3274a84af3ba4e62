use Rattle.a64_meaning.proofs.Acts.{step_words}
use Rattle.a64_meaning.proofs.laws.words_stay.Goals as goal

pub returns : goal.returns
returns g c = record {
  words = λ b ground bytes m w h. step_words b ground bytes (λ word inst below is. (c.words_read_back.ensures.written_back word inst below is).range) m w h;
}

use Rattle.std.proofs.Common.{◌≡◌, map, take}
use Rattle.rtr_runner.specs.Workers.{low_word}
use Rattle.rtr_runner.proofs.running.words_of.Given as goal

abbrev pub invariant-loop-number : goal.invariant-loop-number
invariant-loop-number l = l.words.items ≡ map low_word (take l.number-index l.numbers)

use Rattle.std.proofs.Common.{arith}
use Rattle.rtr_sections.proofs.BadWords.{kept, none_left}
use Rattle.rtr_sections.proofs.bad_words.first_from.Goals as goal

pub returns-then-place-end : goal.returns-then-place-end
returns-then-place-end c =
    λ bytes all. kept bytes c.args.firsts.now c.args.end c.args.place (omega arith) (c.requires.known (omega arith)) all

pub returns-else-place-end : goal.returns-else-place-end
returns-else-place-end c = λ bytes all. none_left bytes c.args.end c.args.place (omega arith)

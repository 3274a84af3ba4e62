use Rattle.std.proofs.Common.{◌≡◌, length}
use Rattle.rtr_sections.specs.BadWords.{AreFirstBad}
use Rattle.rtr_sections.proofs.bad_words.first_bad_words.Given as goal

abbrev pub invariant-loop-i : goal.invariant-loop-i
invariant-loop-i l = record {
  count : length l.firsts.items ≡ l.i;
  firsts : AreFirstBad l.file l.end l.firsts.items;
}

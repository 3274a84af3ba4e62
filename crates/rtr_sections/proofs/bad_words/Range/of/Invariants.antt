use Rattle.std.proofs.Common.{take, All}
use Rattle.rtr_sections.specs.BadWords.{IsWithin}
use Rattle.rtr_sections.proofs.bad_words.Range.of.Given as goal

abbrev pub invariant-loop-import : goal.invariant-loop-import
invariant-loop-import l = All (IsWithin l.file l.start l.end) (take l.import-index l.imports)

use Rattle.std.proofs.Common.{◌≡◌, drop}
use Rattle.rtr_sections.specs.Imports.{first_bad_of}
use Rattle.rtr_sections.proofs.bad_words.check_slots.Given as goal

abbrev pub invariant-loop-import : goal.invariant-loop-import
invariant-loop-import l = record {
  -- the first bad word is of one of the records that are left
  checked : first_bad_of l.file (drop l.import-index l.imports) ≡ first_bad_of l.file l.imports;
}

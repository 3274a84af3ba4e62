use Rattle.std.proofs.Common.{◌≡◌, ◌++◌, drop}
use Rattle.std.specs.List.{All}
use Rattle.fixup_sigs.specs.Shortest.{IsSpellable}
use Rattle.r2rdump.specs.OnePass.{imports_in_one_pass}
use Rattle.r2rdump.proofs.image.import_lines.Given as goal

abbrev pub invariant-loop-number : goal.invariant-loop-number
invariant-loop-number l = record {
  spellable : All (λ slot. IsSpellable slot.fixup) l.rest;
  -- what was printed and the lines of the records that are left, with the slots that are left, are all
  lines : l.text ++ imports_in_one_pass l.number (drop l.number l.imports) l.rest ≡ l.fn.text ++ imports_in_one_pass 0 l.imports l.slots;
}

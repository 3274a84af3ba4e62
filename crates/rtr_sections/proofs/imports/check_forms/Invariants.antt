use Rattle.std.proofs.Common.{◌≡◌, ◌+◌, ◌*◌, ◌≤◌, drop}
use Rattle.rtr_sections.specs.Listed.{first_failing}
use Rattle.rtr_sections.specs.Imports.{is_own_import}
use Rattle.rtr_sections.proofs.imports.check_forms.Given as goal

abbrev pub invariant-loop-import : goal.invariant-loop-import
invariant-loop-import l = record {
  -- the first that fails is among those that are left
  checked : first_failing (is_own_import l.file) l.place 20 (drop l.import-index l.imports) ≡ first_failing
      (is_own_import l.file) l.at 20 l.imports;
  here : l.place ≡ l.at + 20 * l.import-index;
}

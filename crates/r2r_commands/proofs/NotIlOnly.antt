-- The first file that has no flag of IL, as a loop finds it.
use Rattle.std.proofs.Common.{◌≡◌, ℕ, ◌+◌, ◌<◌, List, [], ◌∷◌, ◌++◌, length, get_or, Bor, Bool, true, false, cond, Some, refl, ap, ◌∙◌}
use Rattle.cli_assembly.specs.Assemblies.{assembly_of}
use Rattle.r2r_commands.specs.Refusals.{Refusal, NotIlOnly}
use Rattle.r2r_commands.specs.RunRefusals.{is_il_only, not_il_only_by}
use Rattle.r2r_commands.specs.Loaded.{first_of}
use Rattle.r2r_commands.proofs.EachFile.{left, next_of, texts}

refused_by : (b : Bool) (name : List ℕ) (rest : List Refusal) → b ≡ false
    → first_of (cond b [] (NotIlOnly name ∷ []) ++ rest) ≡ Some (NotIlOnly name)
refused_by true name rest e = absurd cc
refused_by false name rest e = refl

passed_by : (b : Bool) (name : List ℕ) (rest : List Refusal) → b ≡ true → cond b [] (NotIlOnly name ∷ []) ++ rest ≡ rest
passed_by true name rest e = refl
passed_by false name rest e = absurd cc

module _ (names : List (Bor (List ℕ))) (files : List (List ℕ)) (i : ℕ) (dn : Bor (List ℕ)) (d bytes : List ℕ)
    (hn : i < length names) (hf : i < length files) (is : bytes ≡ get_or files i d) where
  pub refused_here : is_il_only (assembly_of bytes) ≡ false
      → first_of (left not_il_only_by (texts names) files i) ≡ Some (NotIlOnly (get_or names i dn).now)
  refused_here e =
      ap first_of (next_of not_il_only_by names files i dn d bytes hn hf is)
      ∙ refused_by (is_il_only (assembly_of bytes)) (get_or names i dn).now (left not_il_only_by (texts names) files (i + 1)) e

  pub passed_here : is_il_only (assembly_of bytes) ≡ true
      → left not_il_only_by (texts names) files i ≡ left not_il_only_by (texts names) files (i + 1)
  passed_here e =
      next_of not_il_only_by names files i dn d bytes hn hf is
      ∙ passed_by (is_il_only (assembly_of bytes)) (get_or names i dn).now (left not_il_only_by (texts names) files (i + 1)) e

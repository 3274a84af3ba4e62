-- The marks of the offsets at which instructions begin.
use Rattle.std.proofs.Common.{◌≡◌, ℕ, ◌+◌, ◌<◌, ◌==◌, Bool, true, false, List, length, take, get_or, set, refl, sym}
use Rattle.std.proofs.Common.{◌∙◌, ap, subst, inl, inr}
use Rattle.std.specs.Prelude.{◌||◌}
use Rattle.std.proofs.lemmas.Bool.{cases_eq, eq-eqb, ne_eqb}
use Rattle.std.proofs.lemmas.List.{get_or-set_same, get_or-set_other}
use Rattle.std.proofs.lemmas.List.Folds.{list_any_more}
use Rattle.cil_decode.specs.declared.instr.Instr.{Instr}
use Rattle.cil_decode.specs.Bodies.{Marks, is_start}

or_true : (b : Bool) → (b || true) ≡ true
or_true true = refl
or_true false = refl

or_false : (b : Bool) → (b || false) ≡ b
or_false true = refl
or_false false = refl

pub marks_more : (before marks : List Bool) (list : List Instr) (i : ℕ) (d : Instr) → i < length list → d ≡ get_or list i d
    → ((k : ℕ) → get_or marks k false ≡ get_or before k false) → d.at < length marks → Marks before (take i list)
    → Marks (set marks d.at true) (take (i + 1) list)
marks_more before marks list i d i_in d_is kept k_in so_far = λ at.
    let more = list_any_more (λ (j : Instr). j.at == at) list i d i_in in
    let same : (get_or list i d).at ≡ d.at = ap (λ (j : Instr). j.at) (sym d_is) in
    elim (cases_eq d.at at) [
      | inl e ↦
          let hit : ((get_or list i d).at == at) ≡ true = eq-eqb _ _ (same ∙ e) in
          subst (λ (n : ℕ). get_or (set marks d.at true) n false ≡ true) e (get_or-set_same marks d.at true false k_in)
          ∙ sym (more ∙ ap (λ b. is_start (take i list) at || b) hit ∙ or_true (is_start (take i list) at))
      | inr ne ↦
          let miss : ((get_or list i d).at == at) ≡ false = ne_eqb _ _ (λ e. ne (sym same ∙ e)) in
          get_or-set_other marks d.at at true false (λ e. ne (sym e)) ∙ kept at ∙ so_far at
          ∙ sym (more ∙ ap (λ b. is_start (take i list) at || b) miss ∙ or_false (is_start (take i list) at))
    ]

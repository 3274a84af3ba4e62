-- Small facts that many proofs use: of conjunctions, and that an instruction lies in its code.
use Rattle.std.proofs.Common.{◌≡◌, ℕ, suc, ◌-◌, ◌<◌, ◌&&◌, Bool, true, false}
use Rattle.std.proofs.Common.{List, [], ◌∷◌, length, drop, Ok, refl, sym, ap, ◌∙◌, arith}
use Rattle.cil_decode.specs.declared.instr.Instr.{Instr}
use Rattle.cil_decode.specs.Instructions.{instr_at, form_in, with_form}
use Rattle.std.proofs.lemmas.List.{length-drop}

pub both_right : (a b : Bool) → (a && b) ≡ true → b ≡ true
both_right true b e = e
both_right false b e = absurd (cc)

pub both_left : (a b : Bool) → (a && b) ≡ true → a ≡ true
both_left true b e = refl
both_left false b e = absurd (cc)

-- ---- an instruction lies in its code, and has at least one byte

in_code : (code rest : List ℕ) (at : ℕ) (i : Instr) → drop at code ≡ rest → with_form code at (form_in rest) ≡ Ok i → at < length code
in_code code [] at i e h = absurd (cc)
in_code code (b ∷ bytes) at i e h = let long : length code - at ≡ suc (length bytes) =
    sym (length-drop at code) ∙ ap length e in omega (arith, long)

pub instr_inside : (code : List ℕ) (at : ℕ) (i : Instr) → instr_at code at ≡ Ok i → at < length code
unfolding instr_at
instr_inside code at i h = in_code code (drop at code) at i refl h

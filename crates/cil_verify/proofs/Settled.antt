-- The rounds: one after which nothing changed is the last one.
use Rattle.std.proofs.Common.{◌≡◌, ℕ, zero, suc, ◌+◌, ◌-◌, ◌<◌, ◌≤◌, ◌==◌, ◌&&◌, Bool, true, false, List, [], ◌∷◌, refl, sym, ap, ◌∙◌}
use Rattle.std.proofs.Common.{arith}
use Rattle.cil_decode.specs.declared.instr.Instr.{Instr}
use Rattle.type_world.specs.World.{World}
use Rattle.type_world.specs.Profile.{Method}
use Rattle.cil_meaning.specs.Typing.{Typing, round, same_typing, settled, settled_or}
use Rattle.cil_meaning.proofs.Rounds.{typing_is}

-- ---- rounds

module _ (world : World) (method : Method) (last : ℕ) (instrs : List Instr) where
  abbrev Rounded : Typing → Typing
  Rounded t = round world method last instrs t

  abbrev Settled : ℕ → Typing → Typing
  Settled n t = settled n world method last instrs t

  -- what a round leaves as it is, the others do too
  pub settled_there : (n : ℕ) (t : Typing) → Rounded t ≡ t → Settled n t ≡ t
  unfolding settled
  settled_there zero t e = refl
  settled_there (suc n) t e = by_test (settled_there n t e) (same_typing (Rounded t) t)
    where
      by_test : Settled n t ≡ t → (b : Bool) → settled_or (Settled n) b (Rounded t) ≡ t
      by_test rest true = e
      by_test rest false = ap (Settled n) e ∙ rest

  -- one round more
  one_round : (n : ℕ) (t : Typing) → Settled (suc n) t ≡ Settled n (Rounded t)
  unfolding settled
  one_round n t = by_test (same_typing (Rounded t) t) refl
    where
      by_test : (b : Bool) → same_typing (Rounded t) t ≡ b → settled_or (Settled n) b (Rounded t) ≡ Settled n (Rounded t)
      by_test true e =
          let same : Rounded t ≡ t = typing_is (Rounded t) t e in
          sym (settled_there n (Rounded t) (ap Rounded same))
      by_test false e = refl

  pub settled_more : (n done : ℕ) (t u : Typing) → done < n → u ≡ Rounded t → Settled (n - (done + 1)) u ≡ Settled (n - done) t
  settled_more n done t u more e =
      let left : n - done ≡ suc (n - (done + 1)) = omega arith in
      ap (Settled (n - (done + 1))) e ∙ sym (one_round (n - (done + 1)) t) ∙ ap (λ k. Settled k t) (sym left)

  -- no rounds are left
  pub settled_none : (n done : ℕ) (t : Typing) → n ≤ done → Settled (n - done) t ≡ t
  unfolding settled
  settled_none n done t out = let none : n - done ≡ 0 = omega arith in ap (λ k. Settled k t) none

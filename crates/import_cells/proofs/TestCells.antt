-- What the tests read of a plan, and how often a share can be halved.
use Rattle.std.proofs.Common.{◌≡◌, ℕ, zero, suc, ◌-◌, ◌/◌, ◌^◌, ◌<◌, ◌≤◌, ◌==◌, ◌⊎◌, inl, inr, true, List, [], ◌∷◌}
use Rattle.std.proofs.Common.{length, get_or, sym, refl, ap, ◌∙◌, subst, arith, eqb-true}
use Rattle.std.proofs.Math.Nat.{pow-suc}
use Rattle.std.proofs.lemmas.Option.{slice_get_read}
use Rattle.import_cells.specs.declared.plan.CellPlan.{CellPlan}
use Rattle.import_cells.specs.Plan.{In, first_in, first_of}

first_read : (plan key : List CellPlan) (c : ℕ) (p : CellPlan) → plan ≡ key → c < length plan → p ≡ get_or plan c p
    → first_of key c ≡ p.first
first_read plan key c p same inside read =
    ap (λ (l : List CellPlan). first_of l c) (sym same) ∙ ap first_in (slice_get_read plan (length plan) c p refl inside read)

none_in : (l : List ℕ) (d : ℕ) → (length l == 0) ≡ true → In l d → ⊥
none_in [] d e i = i
none_in (x ∷ xs) d e i = let z : length (x ∷ xs) ≡ 0 = eqb-true (length (x ∷ xs)) 0 e in absurd (omega arith)

pub no_first : (plan key : List CellPlan) (c d : ℕ) (p : CellPlan) (l : List ℕ) → plan ≡ key → c < length plan
    → p ≡ get_or plan c p → l ≡ p.first → (length l == 0) ≡ true → In (first_of key c) d → ⊥
no_first plan key c d p l same inside read is empty i = none_in l d empty (subst (λ (m : List ℕ). In m d)
    (first_read plan key c p same inside read ∙ sym is) i)

two_in : (l : List ℕ) (d : ℕ) → 2 ≤ length l → length l < 3 → In l d → (d ≡ get_or l 0 0) ⊎ (d ≡ get_or l 1 0)
two_in [] d more less i = absurd i
two_in (x ∷ []) d more less i = absurd (omega arith)
two_in (x ∷ y ∷ []) d more less (inl e) = inl e
two_in (x ∷ y ∷ []) d more less (inr (inl e)) = inr e
two_in (x ∷ y ∷ []) d more less (inr (inr i)) = absurd i
two_in (x ∷ y ∷ z ∷ zs) d more less i = absurd (omega arith)

pub two_first : (plan key : List CellPlan) (c d : ℕ) (p : CellPlan) (l : List ℕ) → plan ≡ key → c < length plan
    → p ≡ get_or plan c p → l ≡ p.first → 2 ≤ length l → length l < 3 → In (first_of key c) d
    → (d ≡ get_or l 0 0) ⊎ (d ≡ get_or l 1 0)
two_first plan key c d p l same inside read is more less i = two_in l d more less (subst (λ (m : List ℕ). In m d)
    (first_read plan key c p same inside read ∙ sym is) i)

some_power : (n : ℕ) → 1 ≤ 2 ^ n
some_power zero = omega arith
some_power (suc n) = let r = some_power n in let e = pow-suc 2 n in omega arith

pub halves : (n share : ℕ) → 0 < n → 2 ^ n ≤ share → (2 ≤ share) × (2 ^ (n - 1) ≤ share - share / 2)
halves zero share h p = absurd (omega arith)
halves (suc n) share h p =
    let r = some_power n in
    let e = pow-suc 2 n in
    let back : suc n - 1 ≡ n = omega arith in
    (omega arith, subst (λ k. 2 ^ k ≤ share - share / 2) (sym back) (omega arith))

-- The views of all seats: their shares, and who asked a cell.
use Rattle.std.proofs.Common.{◌≡◌, ◌≢◌, ℕ, zero, suc, ◌+◌, ◌<◌, ◌≤◌, ◌⊎◌, inl, inr, ⊎_elim, List, [], ◌∷◌, ◌++◌, length}
use Rattle.std.proofs.Common.{set, sym, refl, ap, ◌∙◌, subst, arith}
use mathlib.Core.Logic.{dite}
use mathlib.Core.Option.{some, some-injective, some-ne-none}
use native.Mathlib.Decide.{ℕ_discrete}
use lib.ListN.{get_elem?}
use Rattle.atomic_table.proofs.Lists.{at_set, set_here, set_else}
use Rattle.import_cells.specs.declared.event.SeatView.{SeatView}
use Rattle.import_cells.specs.Plan.{In}
use Rattle.import_cells.specs.Shared.{shares, AskedBySome}

pub at_below : {A : Type 0} (l : List A) (i : ℕ) (a : A) → get_elem? l i ≡ some a → i < length l
at_below [] i a e = absurd (some-ne-none a (sym e))
at_below (x ∷ xs) zero a e = omega arith
at_below (x ∷ xs) (suc i) a e = let h = at_below xs i a e in omega arith

pub at_one : {A : Type 0} (l : List A) (i : ℕ) (a b : A) → get_elem? l i ≡ some a → get_elem? l i ≡ some b → a ≡ b
at_one l i a b p q = some-injective a b (sym p ∙ q)

-- the last of a longer list, or one of the others
pub at_end : {A : Type 0} (l : List A) (a b : A) (j : ℕ) → get_elem? (l ++ a ∷ []) j ≡ some b
    → (get_elem? l j ≡ some b) ⊎ ((a ≡ b) × (j ≡ length l))
at_end [] a b zero e = inr (some-injective a b e, refl)
at_end [] a b (suc j) e = absurd (some-ne-none b (sym e))
at_end (x ∷ xs) a b zero e = inl e
at_end (x ∷ xs) a b (suc j) e = ⊎_elim (λ t. inl t) (λ t. let h : j ≡ length xs = t.1 in inr (t.0, omega arith)) (at_end xs a b j e)

-- what holds of each view after one of them changed
pub after_set : (P : ℕ → SeatView → Type 0) (l : List SeatView) (i : ℕ) (w : SeatView) → P i w
    → ((j : ℕ) (u : SeatView) → j ≢ i → get_elem? l j ≡ some u → P j u) → (j : ℕ) (u : SeatView) → get_elem? (set l i w) j ≡ some u → P j u
after_set P l i w here others j u at = ⊎_elim
    (λ (t : (j ≡ i) × (w ≡ u)). subst (P j) t.1 (subst (λ k. P k w) (sym t.0) here))
    (λ (t : (j ≢ i) × (get_elem? l j ≡ some u)). others j u t.0 t.1) (at_set l i j w u at)

pub shares_set : (l : List SeatView) (i : ℕ) (v w : SeatView) → get_elem? l i ≡ some v → shares (set l i w) + v.share ≡ shares l + w.share
shares_set [] i v w e = absurd (some-ne-none v (sym e))
shares_set (x ∷ xs) zero v w e = let same : x.share ≡ v.share = ap (λ (u : SeatView). u.share) (some-injective x v e) in omega arith
shares_set (x ∷ xs) (suc i) v w e = let r = shares_set xs i v w e in omega arith

pub shares_end : (l : List SeatView) (v : SeatView) → shares (l ++ v ∷ []) ≡ shares l + v.share
shares_end [] v = omega arith
shares_end (x ∷ xs) v = let r = shares_end xs v in omega arith

share_within : (l : List SeatView) (i : ℕ) (v : SeatView) → get_elem? l i ≡ some v → v.share ≤ shares l
share_within [] i v e = absurd (some-ne-none v (sym e))
share_within (x ∷ xs) zero v e = let same : x.share ≡ v.share = ap (λ (u : SeatView). u.share) (some-injective x v e) in omega arith
share_within (x ∷ xs) (suc i) v e = let r = share_within xs i v e in omega arith

-- two seats have no more than all
pub two_shares : (l : List SeatView) (i j : ℕ) (v u : SeatView) → get_elem? l i ≡ some v → get_elem? l j ≡ some u → j ≢ i
    → v.share + u.share ≤ shares l
two_shares [] i j v u e f n = absurd (some-ne-none v (sym e))
two_shares (x ∷ xs) zero zero v u e f n = absurd (n refl)
two_shares (x ∷ xs) zero (suc j) v u e f n = let same : x.share ≡ v.share = ap (λ (u : SeatView). u.share)
    (some-injective x v e) in let r = share_within xs j u f in omega arith
two_shares (x ∷ xs) (suc i) zero v u e f n = let same : x.share ≡ u.share = ap (λ (u : SeatView). u.share)
    (some-injective x u f) in let r = share_within xs i v e in omega arith
two_shares (x ∷ xs) (suc i) (suc j) v u e f n = let r = two_shares xs i j v u e f (λ h. n (ap suc h)) in omega arith

-- who asked a cell is still there after a change of one view that keeps what it asked
pub some_set : (l : List SeatView) (i : ℕ) (v w : SeatView) (c : ℕ) → get_elem? l i ≡ some v → (In v.asked c → In w.asked c)
    → AskedBySome l c → AskedBySome (set l i w) c
some_set l i v w c e f t = dite (ℕ_discrete t.0 i)
    (λ same.
    let here : get_elem? l i ≡ some t.1 = subst (λ k. get_elem? l k ≡ some t.1) same t.2 in
    let it : v ≡ t.1 = at_one l i v t.1 e here in
    (i, w, set_here l i w (at_below l i v e), f (subst (λ (u : SeatView). In u.asked c) (sym it) t.3)))
    (λ other. (t.0, t.1, set_else l i t.0 w other ∙ t.2, t.3))

-- Membership in lists of cells.
use Rattle.std.proofs.Common.{◌≡◌, ◌≢◌, ℕ, ◌==◌, ◌⊎◌, inl, inr, ⊎_elim, Bool, true, false, List, [], ◌∷◌, ◌++◌, sym}
use Rattle.std.proofs.Common.{subst, eq-eqb, ne_eqb, if◌then◌else◌}
use Rattle.std.specs.List.{All}
use Rattle.std.proofs.lemmas.List.Elements.{All-head, All-tail}
use Rattle.import_cells.specs.Plan.{In}

pub in_front : (xs ys : List ℕ) (c : ℕ) → In xs c → In (xs ++ ys) c
in_front [] ys c i = absurd i
in_front (x ∷ xs) ys c (inl e) = inl e
in_front (x ∷ xs) ys c (inr i) = inr (in_front xs ys c i)

pub in_back : (xs ys : List ℕ) (c : ℕ) → In ys c → In (xs ++ ys) c
in_back [] ys c i = i
in_back (x ∷ xs) ys c i = inr (in_back xs ys c i)

pub in_either : (xs ys : List ℕ) (c : ℕ) → In (xs ++ ys) c → In xs c ⊎ In ys c
in_either [] ys c i = inr i
in_either (x ∷ xs) ys c (inl e) = inl (inl e)
in_either (x ∷ xs) ys c (inr i) = ⊎_elim (λ p. inl (inr p)) (λ p. inr p) (in_either xs ys c i)

pub in_all : (P : ℕ → Type 0) (xs : List ℕ) (c : ℕ) → All P xs → In xs c → P c
in_all P [] c a i = absurd i
in_all P (x ∷ xs) c a (inl e) = subst P (sym e) (All-head P x xs a)
in_all P (x ∷ xs) c a (inr i) = in_all P xs c (All-tail P x xs a) i

-- ---- choices by a test

pub both_ways : {A : Type 0} (P : A → Type 0) (b : Bool) (x y : A) → P x → P y → P (if b then x else y)
both_ways P true x y p q = p
both_ways P false x y p q = q

pub where_equal : {A : Type 0} (P : A → Type 0) (c d : ℕ) (x y : A) → c ≡ d → P x → P (if c == d then x else y)
where_equal P c d x y e p = subst (λ (b : Bool). P (if b then x else y)) (sym (eq-eqb c d e)) p

pub where_other : {A : Type 0} (P : A → Type 0) (c d : ℕ) (x y : A) → c ≢ d → P y → P (if c == d then x else y)
where_other P c d x y n p = subst (λ (b : Bool). P (if b then x else y)) (sym (ne_eqb c d n)) p

pub was_other : {A : Type 0} (P : A → Type 0) (c d : ℕ) (x y : A) → c ≢ d → P (if c == d then x else y) → P y
was_other P c d x y n p = subst (λ (b : Bool). P (if b then x else y)) (ne_eqb c d n) p

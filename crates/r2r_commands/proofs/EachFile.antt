-- What refuses files in their order, as a loop finds it.
use Rattle.std.proofs.Common.{◌≡◌, ℕ, ◌+◌, ◌<◌, ◌≤◌, List, [], ◌∷◌, ◌++◌, length, map, drop, get_or, Bor, Vec, vec_items}
use Rattle.std.proofs.Common.{refl, sym, ap, subst, ◌∙◌, arith}
use Rattle.std.proofs.lemmas.List.{drop_all, drop_more, get_or-map, length-map}
use Rattle.std.specs.Global.{Global}
use Rattle.r2r_commands.specs.Refusals.{Refusal, of_each}

abbrev pub texts : List (Bor (List ℕ)) → List (List ℕ)
texts names = map (λ name. name.now) names

module _ (by : List ℕ → List ℕ → List Refusal) where
  -- what refuses those from a place on
  abbrev pub left : List (List ℕ) → List (List ℕ) → ℕ → List Refusal
  left names files i = of_each by (drop i names) (drop i files)

  -- it is what refuses the first of them, and those after it
  pub next : (names files : List (List ℕ)) (i : ℕ) (dn db : List ℕ) → i < length names → i < length files
      → left names files i ≡ by (get_or names i dn) (get_or files i db) ++ left names files (i + 1)
  next names files i dn db hn hf = rw (drop_more names i dn hn, drop_more files i db hf) refl

  pub none_left : (names files : List (List ℕ)) (i : ℕ) → length files ≤ i → left names files i ≡ []
  none_left names files i h = rw (drop_all i files h) (of_none (drop i names))
    where
      of_none : (names : List (List ℕ)) → of_each by names [] ≡ []
      of_none [] = refl
      of_none (name ∷ names) = refl

-- ---- names behind references, and files in vectors

-- what a list of names answers where it ends
abbrev pub no_name : Bor (List ℕ)
no_name = record { ref_ptr = (0, 0); now = [] }

pub texts_long : (names : List (Bor (List ℕ))) → length (texts names) ≡ length names
texts_long names = length-map names (λ (name : Bor (List ℕ)). name.now)

pub items_at : {X : Type 0} (all : List (Vec X Global)) (i : ℕ) (one : Vec X Global) → i < length all → one ≡ get_or all i one
    → one.items ≡ get_or (map vec_items all) i []
items_at all i one h is = ap (λ (v : Vec _ Global). v.items) is ∙ sym (get_or-map vec_items all i one [] h)

pub items_long : {X : Type 0} (all : List (Vec X Global)) → length (map vec_items all) ≡ length all
items_long all = length-map all vec_items

-- what refuses the files from a place on is what refuses the file there, and those after it
pub next_of : (by : List ℕ → List ℕ → List Refusal) (names : List (Bor (List ℕ))) (files : List (List ℕ)) (i : ℕ) (dn : Bor (List ℕ))
    (d bytes : List ℕ) → i < length names → i < length files → bytes ≡ get_or files i d
    → left by (texts names) files i ≡ by (get_or names i dn).now bytes ++ left by (texts names) files (i + 1)
next_of by names files i dn d bytes hn hf is =
    let there : i < length (texts names) = subst (λ (n : ℕ). i < n) (sym (texts_long names)) hn in
    let name : get_or (texts names) i [] ≡ (get_or names i dn).now = get_or-map (λ (n : Bor (List ℕ)). n.now) names i dn [] hn in
    next by (texts names) files i [] d there hf
    ∙ ap (λ (n : List ℕ). by n (get_or files i d) ++ left by (texts names) files (i + 1)) name
    ∙ ap (λ (b : List ℕ). by (get_or names i dn).now b ++ left by (texts names) files (i + 1)) (sym is)

-- the file at a place of a loop: its bytes, and what refuses it
module _ (by : List ℕ → List ℕ → List Refusal) (names : List (Bor (List ℕ))) (all : List (Vec ℕ Global)) (i : ℕ) (one : Vec ℕ Global)
    (bytes : List ℕ) (h : i < length all) (each : length names ≡ length all) (is : one ≡ get_or all i one) (same : bytes ≡ one.items) where
  pub bytes_at : bytes ≡ get_or (map vec_items all) i []
  bytes_at = same ∙ items_at all i one h is

  pub left_at : left by (texts names) (map vec_items all) i
      ≡ by (get_or names i no_name).now bytes ++ left by (texts names) (map vec_items all) (i + 1)
  left_at =
      next_of by names (map vec_items all) i no_name [] bytes (omega (arith, h, each)) (omega (arith, h, items_long all)) bytes_at

-- Lists that ascend: the type whose list a row is in is the first that lists it.
use Rattle.std.proofs.Common.{◌≡◌, ℕ, zero, suc, ◌+◌, ◌-◌, ◌<◌, ◌≤◌, ◌==◌, Bool, true, false, List, [], find, map}
use Rattle.std.proofs.Common.{slice_get, cond, if◌then◌else◌, Option, Some, None, refl, sym, ap, ◌∙◌, subst, arith}
use Rattle.std.proofs.Common.{lt-ltb, eqb-true, eq-eqb, ne_eqb, eq-or-lt_of_le, nat_le, leb-true, leb-false, inl, inr}
use Rattle.std.specs.List.{range_with_len}
use Rattle.std.proofs.lemmas.Bool.{le-ltb}
use Rattle.metadata.specs.declared.schema.Table.TheVariants as tables
use Rattle.cli_assembly.specs.Assemblies.{Assembly, assembly_of, column, list_end, list_start, methods_of, row_count, rows_between}
use Rattle.cli_assembly.specs.Named.{ListsAscend}
use Rattle.type_world.specs.declared.identity.TypeId.{TypeId}
use Rattle.type_world.specs.Loading.{world_of}
use Rattle.type_world.specs.Resolution.{class_in, declares, method_class}
use Rattle.type_world.specs.World.{rows_at}
use Rattle.type_world.proofs.Counts.{rows_none}
use Rattle.type_world.proofs.Listed.{after_last, before_first, listed}
use Rattle.type_world.proofs.TypeRefs.{at_some}

-- ---- the first of a range that passes

find_later : (p : ℕ → Bool) (s n k : ℕ) → s + n ≤ k → ((j : ℕ) → s ≤ j → j < k → p j ≡ false) → find p (range_with_len s n) ≡ None
find_later p s zero k l h = refl
find_later p s (suc n) k l h =
    ap (λ b. cond b (Some s) (find p (range_with_len (s + 1) n))) (h s (omega arith) (omega (arith, l)))
    ∙ find_later p (s + 1) n k (omega (arith, l)) (λ j from below. h j (omega (arith, from)) below)

find_first : (p : ℕ → Bool) (s n k : ℕ) → s ≤ k → k < s + n → ((j : ℕ) → s ≤ j → j < k → p j ≡ false) → p k ≡ true
    → find p (range_with_len s n) ≡ Some k
find_first p s zero k l m h e = absurd (omega (arith, l, m))
find_first p s (suc n) k l m h e =
    by_place (λ from. find_first p (s + 1) n k from (omega (arith, m))
    (λ j j_from below. h j (omega (arith, j_from)) below) e) (s == k) refl
  where
    by_place : (s + 1 ≤ k → find p (range_with_len (s + 1) n) ≡ Some k) → (b : Bool) → (s == k) ≡ b
        → find p (range_with_len s (suc n)) ≡ Some k
    by_place rest true q =
        let same = eqb-true s k q in
        ap (λ b. cond b (Some s) (find p (range_with_len (s + 1) n))) (subst (λ j. p j ≡ true) (sym same) e) ∙ ap Some same
    by_place rest false q =
        let other : (s ≡ k → ⊥) = λ x. (let yes_ : (s == k) ≡ true = eq-eqb s k x in cc) in
        ap (λ b. cond b (Some s) (find p (range_with_len (s + 1) n))) (h s (omega arith) (less other)) ∙ rest (omega (arith, less other))
      where
        less : (s ≡ k → ⊥) → s < k
        less other = elim (eq-or-lt_of_le l) [ inl x ↦ absurd (other x) | inr lt ↦ lt ]

-- ---- lists that ascend

abbrev pub lister : ℕ → Option ℕ
lister class = if class == 0 then None else Some class

next_start : (a : Assembly) (class : ℕ) → class < row_count a tables.TypeDef
    → list_end a tables.MethodDef class 5 ≡ list_start a (class + 1) 5
next_start a class l =
    ap (λ b. cond b (list_start a (class + 1) 5) (row_count a tables.MethodDef + 1))
    (lt-ltb class (row_count a tables.TypeDef) l)

module _ (a : Assembly) (ascend : ListsAscend a) where
  abbrev start : ℕ → ℕ
  start class = list_start a class 5

  abbrev end : ℕ → ℕ
  end class = list_end a tables.MethodDef class 5

  abbrev count : ℕ
  count = row_count a tables.TypeDef

  rises : (n class : ℕ) → class + n ≤ count → start class ≤ start (class + n)
  rises zero class l = let none : class + 0 ≡ class = omega arith in subst (λ k. start class ≤ start k) (sym none) (omega arith)
  rises (suc n) class l =
      let more : class + 1 + n ≡ class + suc n = omega arith in
      let here = (ascend.methods class).0 in
      let next = next_start a class (omega (arith, l)) in
      let rest : start (class + 1) ≤ start (class + suc n) =
      subst (λ k. start (class + 1) ≤ start k) more (rises n (class + 1) (omega (arith, l))) in
      omega (arith, here, next, rest)

  pub not_earlier : (class row j : ℕ) → start class ≤ row → class ≤ count → j < class → declares (methods_of a j) row ≡ false
  unfolding methods_of
  not_earlier class row j from few l =
      let so_many : j + 1 + (class - (j + 1)) ≡ class = omega (arith, l) in
      let next = next_start a j (omega (arith, l, few)) in
      let rest : start (j + 1) ≤ start class =
      subst (λ k. start (j + 1) ≤ start k) so_many (rises (class - (j + 1)) (j + 1) (omega (arith, so_many, few))) in
      let ordered = (ascend.methods j).0 in
      by_start (nat_le (start j) row) refl (omega (arith, next, rest, from))
    where
      by_start : (b : Bool) → nat_le (start j) row ≡ b → end j ≤ row → declares (rows_between (start j) (end j)) row ≡ false
      by_start true q past = sym (after_last (start j) (end j) row (leb-true (start j) row q) past)
      by_start false q past = let l = leb-false (start j) row q in sym (before_first (start j) (end j) row (omega (arith, l)))

  not_later : (class row j : ℕ) → row < end class → class < j → j ≤ count → declares (methods_of a j) row ≡ false
  unfolding methods_of
  not_later class row j below l few =
      let so_many : class + 1 + (j - (class + 1)) ≡ j = omega (arith, l) in
      let next = next_start a class (omega (arith, l, few)) in
      let rest : start (class + 1) ≤ start j =
      subst (λ k. start (class + 1) ≤ start k) so_many (rises (j - (class + 1)) (class + 1) (omega (arith, so_many, few))) in
      sym (before_first (start j) (end j) row (omega (arith, next, rest, below)))

  in_list : (class row : ℕ) → start class ≤ row → row < end class → declares (methods_of a class) row ≡ true
  unfolding methods_of
  in_list class row from below = sym (listed (start class) (end class) row from below)

  pub first_lister : (class row : ℕ) → start class ≤ row → row < end class → class ≤ count
      → find (λ of. declares (methods_of a of) row) (range_with_len 1 count) ≡ lister class
  first_lister zero row from below few =
      find_later (λ of. declares (methods_of a of) row) 1 count (count + 1) (omega arith)
      (λ j first last. not_later 0 row j below (omega (arith, first)) (omega (arith, last)))
  first_lister (suc class) row from below few =
      find_first (λ of. declares (methods_of a of) row) 1 count (suc class) (omega arith) (omega (arith, few))
      (λ j first l. not_earlier (suc class) row j from few l) (in_list (suc class) row from below)
      ∙ sym (ap (λ b. cond b None (Some (suc class))) (ne_eqb (suc class) 0 (λ e. omega (arith, e))))

-- ---- from type to type

pub further : (a : Assembly) (class row last ends : ℕ) → last ≡ row_count a tables.TypeDef → class < last
    → ends ≡ list_end a tables.MethodDef class 5 → (row < ends → ⊥)
    → (list_start a (class + 1) 5 ≤ row) × (class + 1 ≤ row_count a tables.TypeDef)
further a class row last ends all l e past =
    let next = next_start a class (omega (arith, l, all)) in (omega (arith, next, e, past), omega (arith, l, all))

pub first_start : (a : Assembly) → list_start a 0 5 ≤ 1
unfolding column
first_start a = omega arith

pub all_end : (a : Assembly) (row : ℕ) → row ≤ row_count a tables.MethodDef
    → row < list_end a tables.MethodDef (row_count a tables.TypeDef) 5
all_end a row l =
    let e : list_end a tables.MethodDef (row_count a tables.TypeDef) 5 ≡ row_count a tables.MethodDef + 1 =
    ap (λ b. cond b (list_start a (row_count a tables.TypeDef + 1) 5) (row_count a tables.MethodDef + 1))
    (le-ltb (row_count a tables.TypeDef) (row_count a tables.TypeDef) (omega arith)) in
    omega (arith, l, e)

pub nothing_declared : (files : List (List ℕ)) (asm : ℕ) → slice_get files asm ≡ None
    → [] ≡ map (method_class (world_of files) asm) (rows_at (world_of files) asm tables.MethodDef)
nothing_declared files asm e =
    ap (λ n. map (method_class (world_of files) asm) (range_with_len 1 n)) (sym (rows_none files asm tables.MethodDef e))

pub class_is : (files : List (List ℕ)) (asm class row : ℕ) (file : List ℕ) (of : Option TypeId) → slice_get files asm ≡ Some file
    → ListsAscend (assembly_of file) → list_start (assembly_of file) class 5 ≤ row
    → row < list_end (assembly_of file) tables.MethodDef class 5 → class ≤ row_count (assembly_of file) tables.TypeDef
    → of ≡ class_in asm (lister class) → of ≡ method_class (world_of files) asm row
unfolding method_class
class_is files asm class row file of there ascend from below few e =
    e ∙ ap (class_in asm) (sym (first_lister (assembly_of file) ascend class row from below few))
    ∙ ap (λ a. class_in asm (find (λ k. declares (methods_of a k) row) (range_with_len 1 (row_count a tables.TypeDef))))
    (sym (at_some files asm file there))

pub all_rows : (files : List (List ℕ)) (asm n : ℕ) (file : List ℕ) → slice_get files asm ≡ Some file
    → n ≡ row_count (assembly_of file) tables.MethodDef
    → map (method_class (world_of files) asm) (range_with_len 1 n)
    ≡ map (method_class (world_of files) asm) (rows_at (world_of files) asm tables.MethodDef)
all_rows files asm n file there e =
    ap (λ k. map (method_class (world_of files) asm) (range_with_len 1 k))
    (e ∙ ap (λ a. row_count a tables.MethodDef) (sym (at_some files asm file there)))

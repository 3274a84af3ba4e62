-- Base chains: what is above a type is found within as many bases as the world has types, so that what is above that is above the type.
use Rattle.std.proofs.Common.{◌≡◌, ◌⊎◌, inl, inr, ℕ, zero, suc, ◌+◌, ◌<◌, ◌≤◌, ◌==◌, ◌&&◌, ◌||◌, not, Bool, true, false}
use Rattle.std.proofs.Common.{nat_lt, nat_le, List, [], ◌∷◌, ◌++◌, length, map, filter, get_or, sum_by, refl, sym, ap}
use Rattle.std.proofs.Common.{◌∙◌, subst, arith, cond, eqb-true, eq-eqb, lt-ltb, ltb-true}
use Rattle.std.proofs.Common.{leb-true, length-append, eq-or-lt_of_le, leb-false}
use Rattle.std.proofs.lemmas.List.{get_or_past, length-map}
use Rattle.std.proofs.lemmas.List.Sums.{sum_by-cons}
use Rattle.std.proofs.lemmas.List.Folds.{list_any-append}
use Rattle.std.proofs.lemmas.List.FromFn.{length-range_with_len}
use Rattle.std.specs.List.{list_any, range_with_len}
use Rattle.metadata.specs.declared.schema.Table.TheVariants as tables
use Rattle.cli_assembly.specs.declared.element.Elem.{Elem}
use Rattle.cli_assembly.specs.declared.element.Elem.TheVariants as elems
use Rattle.cli_assembly.specs.Assemblies.{Assembly, column, has_row, row_count, table_in}
use Rattle.type_world.specs.declared.identity.TypeId.{TypeId}
use Rattle.type_world.specs.declared.identity.TypeId.TheVariants as types
use Rattle.type_world.specs.World.{World, assembly_in, no_assembly, rows_in, rows_of_world}
use Rattle.type_world.specs.declared.base.Base.{Base}
use Rattle.type_world.specs.declared.base.Base.TheVariants.{NoBase, Extends, UnresolvedBase}
use Rattle.type_world.specs.Resolution.{base_of, base_of_class, chain_of}
use Rattle.type_world.specs.Resolution.{chain_within, elem_eq, then_base, type_eq}
use Rattle.type_world.proofs.Bound.{both_left, both_right}

-- ---- equality of types

elem_is : (e f : Elem) → elem_eq e f ≡ true → e ≡ f
elem_is elems.Boolean elems.Boolean h = refl
elem_is elems.Char elems.Char h = refl
elem_is elems.I1 elems.I1 h = refl
elem_is elems.U1 elems.U1 h = refl
elem_is elems.I2 elems.I2 h = refl
elem_is elems.U2 elems.U2 h = refl
elem_is elems.I4 elems.I4 h = refl
elem_is elems.U4 elems.U4 h = refl
elem_is elems.I8 elems.I8 h = refl
elem_is elems.U8 elems.U8 h = refl
elem_is e f h = absurd (cc)

pub type_is : (of other : TypeId) → type_eq of other ≡ true → of ≡ other
type_is types.Object types.Object h = refl
type_is types.Str types.Str h = refl
type_is types.Console types.Console h = refl
type_is (types.Array e) (types.Array f) h = ap types.Array (elem_is e f h)
type_is (types.Class asm row) (types.Class other at) h =
    ap (λ n. types.Class n row) (eqb-true asm other (both_left (asm == other) (row == at) h))
    ∙ ap (types.Class other) (eqb-true row at (both_right (asm == other) (row == at) h))
type_is of other h = absurd (cc)

pub type_same : (of : TypeId) → type_eq of of ≡ true
type_same types.Object = refl
type_same types.Str = refl
type_same types.Console = refl
type_same (types.Array e) = eq-eqb _ _ refl
type_same (types.Class asm row) = ap (λ b. b && (row == row)) (eq-eqb asm asm refl) ∙ eq-eqb row row refl

pub type_eqs : (of other : TypeId) → of ≡ other → type_eq of other ≡ true
type_eqs of other e = subst (λ x. type_eq of x ≡ true) e (type_same of)

pub or_right : (a b : Bool) → b ≡ true → (a || b) ≡ true
or_right true b e = refl
or_right false b e = e

-- ---- lists of types

abbrev pub Has : List TypeId → TypeId → Type 0
Has list of = list_any (type_eq of) list ≡ true

abbrev without : TypeId → List TypeId → List TypeId
without of list = filter (λ x. not (type_eq of x)) list

keeps_others : (list : List TypeId) (of other : TypeId) → type_eq of other ≡ false → Has list other → Has (without of list) other
keeps_others [] of other n h = absurd (cc)
keeps_others (x ∷ list) of other n h = by_first (λ g. keeps_others list of other n g) (type_eq of x) refl (type_eq other x) refl h
  where
    by_first : (Has list other → Has (without of list) other) → (b : Bool) → type_eq of x ≡ b → (c : Bool)
        → type_eq other x ≡ c → (c || list_any (type_eq other) list) ≡ true
        → Has (cond (not b) (x ∷ without of list) (without of list)) other
    by_first rest true q true r g =
        absurd (let same : other ≡ x = type_is other x r in let no : type_eq of other
        ≡ true = subst (λ y. type_eq of y ≡ true) (sym same) q in cc)
    by_first rest true q false r g = rest g
    by_first rest false q true r g = ap (λ b. b || list_any (type_eq other) (without of list)) r
    by_first rest false q false r g = or_right (type_eq other x) _ (rest g)

not_longer : (list : List TypeId) (of : TypeId) → length (without of list) ≤ length list
not_longer [] of = omega arith
not_longer (x ∷ list) of = by_first (not_longer list of) (type_eq of x)
  where
    by_first : length (without of list) ≤ length list → (b : Bool)
        → length (cond (not b) (x ∷ without of list) (without of list)) ≤ length (x ∷ list)
    by_first rest true = omega (arith, rest)
    by_first rest false = omega (arith, rest)

shorter : (list : List TypeId) (of : TypeId) → Has list of → length (without of list) < length list
shorter [] of h = absurd (cc)
shorter (x ∷ list) of h = by_first (λ g. shorter list of g) (type_eq of x) h
  where
    by_first : (Has list of → length (without of list) < length list) → (b : Bool)
        → (b || list_any (type_eq of) list) ≡ true → length (cond (not b) (x ∷ without of list) (without of list)) < length (x ∷ list)
    by_first rest true g = omega (arith, not_longer list of)
    by_first rest false g = omega (arith, rest g)

-- ---- the types of a world that may have a base: its rows of TypeDef

classes_from : ℕ → List Assembly → List TypeId
classes_from asm [] = []
classes_from asm (assembly ∷ assemblies) = map (types.Class asm) (rows_in assembly tables.TypeDef) ++ classes_from (asm + 1) assemblies

count_classes : (asm : ℕ) (assemblies : List Assembly)
    → length (classes_from asm assemblies) ≡ sum_by (λ assembly. row_count assembly tables.TypeDef) assemblies
unfolding classes_from
count_classes asm [] = refl
count_classes asm (assembly ∷ assemblies) =
    length-append (map (types.Class asm) (rows_in assembly tables.TypeDef)) (classes_from (asm + 1) assemblies)
    ∙ ap (λ n. n + length (classes_from (asm + 1) assemblies))
    (length-map (rows_in assembly tables.TypeDef) (types.Class asm) ∙ length-range_with_len 1 (row_count assembly tables.TypeDef))
    ∙ ap (λ n. row_count assembly tables.TypeDef + n) (count_classes (asm + 1) assemblies)
    ∙ sym (sum_by-cons (λ a. row_count a tables.TypeDef) assembly assemblies)

in_rows : (asm first n row : ℕ) → first ≤ row → row < first + n → Has (map (types.Class asm) (range_with_len first n)) (types.Class asm row)
in_rows asm first zero row l h = absurd (omega arith)
in_rows asm first (suc n) row l h = by_first (λ a b. in_rows asm (first + 1) n row a b) (row == first) refl
  where
    by_first : (first + 1 ≤ row → row < first + 1 + n
        → Has (map (types.Class asm) (range_with_len (first + 1) n)) (types.Class asm row)) → (b : Bool)
        → (row == first) ≡ b → (((asm == asm) && (row == first))
        || list_any (type_eq (types.Class asm row)) (map (types.Class asm) (range_with_len (first + 1) n))) ≡ true
    by_first rest true q =
        ap (λ b. (b && (row == first))
        || list_any (type_eq (types.Class asm row)) (map (types.Class asm) (range_with_len (first + 1) n))) (eq-eqb asm asm refl)
        ∙ ap (λ b. b || list_any (type_eq (types.Class asm row)) (map (types.Class asm) (range_with_len (first + 1) n))) q
    by_first rest false q =
        let other : (row ≡ first → ⊥) = λ e. (let same : (row == first) ≡ true = eq-eqb row first e in cc) in
        or_right _ _ (rest (above other) (omega (arith, h)))
      where
        above : (row ≡ first → ⊥) → first + 1 ≤ row
        above other = elim (eq-or-lt_of_le l) [ inl e ↦ absurd (other (sym e)) | inr less ↦ omega (arith, less) ]

has_class : (asm k : ℕ) (assemblies : List Assembly) (row n : ℕ) → n ≡ asm + k
    → has_row (get_or assemblies k no_assembly) tables.TypeDef row ≡ true → Has (classes_from asm assemblies) (types.Class n row)
unfolding classes_from
has_class asm k [] row n e h =
    let some : 0 < row = ltb-true 0 row (both_left (nat_lt 0 row) (nat_le row 0) h) in
    let none : row ≤ 0 = leb-true row 0 (both_right (nat_lt 0 row) (nat_le row 0) h) in
    absurd (omega (arith, some, none))
has_class asm zero (assembly ∷ assemblies) row n e h =
    let some : 0 < row = ltb-true 0 row (both_left (nat_lt 0 row) (nat_le row (row_count assembly tables.TypeDef)) h) in
    let few : row ≤ row_count assembly tables.TypeDef =
    leb-true row (row_count assembly tables.TypeDef) (both_right (nat_lt 0 row) (nat_le row (row_count assembly tables.TypeDef)) h) in
    let here : asm ≡ n = omega (arith, e) in
    subst (λ m. Has (map (types.Class asm) (rows_in assembly tables.TypeDef) ++ classes_from (asm + 1) assemblies) (types.Class m row)) here
    (list_any-append (type_eq (types.Class asm row)) (map (types.Class asm) (rows_in assembly tables.TypeDef))
    (classes_from (asm + 1) assemblies)
    ∙ ap (λ b. b || list_any (type_eq (types.Class asm row)) (classes_from (asm + 1) assemblies))
    (in_rows asm 1 (row_count assembly tables.TypeDef) row (omega (arith, some)) (omega (arith, few))))
has_class asm (suc k) (assembly ∷ assemblies) row n e h =
    list_any-append (type_eq (types.Class n row)) (map (types.Class asm) (rows_in assembly tables.TypeDef))
    (classes_from (asm + 1) assemblies)
    ∙ or_right _ _ (has_class (asm + 1) k assemblies row n (omega (arith, e)) h)

pub classes_of : World → List TypeId
classes_of world = classes_from 0 world

pub count_of : (world : World) → length (classes_of world) ≡ rows_of_world world tables.TypeDef
unfolding classes_of rows_of_world
count_of world = count_classes 0 world

-- a type that has a base is one of them
module _ (world : World) where
  no_column : (rows : List (List ℕ)) (row : ℕ) → (nat_lt 0 row && nat_le row (length rows)) ≡ false
      → get_or (get_or ([] ∷ rows) row []) 3 0 ≡ 0
  no_column rows zero e = refl
  no_column rows (suc row) e = ap (λ r. get_or r 3 0) (get_or_past rows row [] (below (nat_le (suc row) (length rows)) refl e))
    where
      below : (b : Bool) → nat_le (suc row) (length rows) ≡ b → (nat_lt 0 (suc row) && b) ≡ false → length rows ≤ row
      below true q h =
          absurd (let yes : nat_lt 0 (suc row) ≡ true = lt-ltb 0 (suc row) (omega arith) in let no : (true && true)
          ≡ false = subst (λ x. (x && true) ≡ false) yes h in cc)
      below false q h = let l = leb-false (suc row) (length rows) q in omega (arith, l)

  has_row_if : (asm row : ℕ) (base : TypeId) (b : Bool) → has_row (assembly_in world asm) tables.TypeDef row ≡ b
      → base_of world (types.Class asm row) ≡ Extends base → b ≡ true
  unfolding base_of column
  has_row_if asm row base true q e = refl
  has_row_if asm row base false q e =
      let none : base_of_class world asm (column (assembly_in world asm) tables.TypeDef row 3) ≡ NoBase =
      ap (base_of_class world asm) (no_column (table_in (assembly_in world asm) tables.TypeDef) row q) in
      absurd (cc)

  pub is_class : (of base : TypeId) → base_of world of ≡ Extends base → Has (classes_of world) of
  unfolding classes_of assembly_in base_of
  is_class (types.Class asm row) base e =
      has_class 0 asm world row asm (omega arith) (has_row_if asm row base (has_row (assembly_in world asm) tables.TypeDef row) refl e)
  is_class of base e = absurd (cc)

  -- ---- so many bases up

  abbrev pub Up : ℕ → TypeId → TypeId → Type 0
  Up zero of to = of ≡ to
  Up (suc n) of to = (base : TypeId) × (base_of world of ≡ Extends base) × Up n base to

  pub record Reaches (of to : TypeId) : Type 0 where
    pub steps : ℕ
    pub up : Up steps of to

  one_up : (of base to : TypeId) → base_of world of ≡ Extends base → Reaches base to → Reaches of to
  one_up of base to e r = record { steps = suc r.steps; up = (base, e, r.up) }

  up_up : (n : ℕ) (of mid to : TypeId) → Up n of mid → Reaches mid to → Reaches of to
  up_up zero of mid to e r = subst (λ x. Reaches x to) (sym e) r
  up_up (suc n) of mid to u r = one_up of u.0 to u.1 (up_up n u.0 mid to u.2 r)

  pub reaches_more : (of mid to : TypeId) → Reaches of mid → Reaches mid to → Reaches of to
  reaches_more of mid to a b = up_up a.steps of mid to a.up b

  -- ---- the chain has what is so many bases up

  pub up_of : (n : ℕ) (of to : TypeId) → list_any (type_eq to) (chain_within n world of) ≡ true → Reaches of to
  unfolding chain_within
  up_of zero of to e = absurd (cc)
  up_of (suc n) of to e = by_first (λ base h. up_of n base to h) (type_eq to of) refl e
    where
      by_base : ((base : TypeId) → list_any (type_eq to) (chain_within n world base) ≡ true → Reaches base to)
          → (b : Base) → base_of world of ≡ b → list_any (type_eq to) (then_base (chain_within n world) b) ≡ true → Reaches of to
      by_base rest (Extends base) q h = one_up of base to q (rest base h)
      by_base rest NoBase q h = absurd (cc)
      by_base rest UnresolvedBase q h = absurd (cc)

      by_first : ((base : TypeId) → list_any (type_eq to) (chain_within n world base) ≡ true → Reaches base to)
          → (b : Bool) → type_eq to of ≡ b
          → (b || list_any (type_eq to) (then_base (chain_within n world) (base_of world of))) ≡ true → Reaches of to
      by_first rest true q h = record { steps = 0; up = sym (type_is to of q) }
      by_first rest false q h = by_base rest (base_of world of) refl h

  of_up : (n k : ℕ) (of to : TypeId) → k < n → Up k of to → list_any (type_eq to) (chain_within n world of) ≡ true
  unfolding chain_within
  of_up zero k of to l u = absurd (omega arith)
  of_up (suc n) zero of to l u =
      ap (λ b. b || list_any (type_eq to) (then_base (chain_within n world) (base_of world of))) (type_eqs to of (sym u))
  of_up (suc n) (suc k) of to l u =
      or_right (type_eq to of) _
      (ap (λ b. list_any (type_eq to) (then_base (chain_within n world) b)) u.1 ∙ of_up n k u.0 to (omega arith) u.2)

  -- ---- a way up that comes back to a type is made shorter

  -- each type before the last one is in a list
  abbrev Path : ℕ → List TypeId → TypeId → TypeId → Type 0
  Path zero list of to = of ≡ to
  Path (suc n) list of to = (base : TypeId) × (base_of world of ≡ Extends base) × Has list of × Path n list base to

  path_of : (n : ℕ) (of to : TypeId) → Up n of to → Path n (classes_of world) of to
  path_of zero of to u = u
  path_of (suc n) of to u = (u.0, u.1, is_class of u.0 u.1, path_of n u.0 to u.2)

  -- it avoids a type, or the type is on the way
  abbrev Avoids : ℕ → List TypeId → TypeId → TypeId → TypeId → Type 0
  Avoids n list x of to = Path n (without x list) of to ⊎ ((m : ℕ) × (m ≤ n) × Path m list x to)

  avoids : (n : ℕ) (list : List TypeId) (x of to : TypeId) → Path n list of to → Avoids n list x of to
  avoids zero list x of to p = inl p
  avoids (suc n) list x of to p = by_type (avoids n list x p.0 to p.3) (type_eq x of) refl
    where
      by_type : Avoids n list x p.0 to → (b : Bool) → type_eq x of ≡ b → Avoids (suc n) list x of to
      by_type rest true q = inr (suc n, omega arith, subst (λ y. Path (suc n) list y to) (sym (type_is x of q)) p)
      by_type (inl rest) false q = inl (p.0, p.1, keeps_others list x of q p.2, rest)
      by_type (inr rest) false q = inr (rest.0, omega (arith, rest.1), rest.2)

  abbrev Short : ℕ → TypeId → TypeId → Type 0
  Short n of to = (k : ℕ) × (k ≤ n) × Up k of to

  abbrev Shortens : ℕ → Type 0
  Shortens n = (steps : ℕ) (list : List TypeId) (of to : TypeId) → length list ≤ n → Path steps list of to → Short n of to

  shortens_more : (n : ℕ) → Shortens n → (fuel steps : ℕ) (list : List TypeId) (of to : TypeId) → length list ≤ suc n
      → steps ≤ fuel → Path steps list of to → Short (suc n) of to
  shortens_more n less fuel zero list of to l f p = (0, omega arith, p)
  shortens_more n less zero (suc steps) list of to l f p = absurd (omega arith)
  shortens_more n less (suc fuel) (suc steps) list of to l f p =
      elim (avoids steps list of p.0 to p.3) [
        | inl rest ↦
            let fewer = shorter list of p.2 in
            let short : Short n p.0 to = less steps (without of list) p.0 to (omega (arith, fewer, l)) rest in
            (suc short.0, omega (arith, short.1), (p.0, p.1, short.2))
        | inr back ↦ shortens_more n less fuel back.0 list of to l (omega (arith, back.1, f)) back.2
      ]

  none_in : (list : List TypeId) (of : TypeId) → length list ≤ 0 → Has list of → ⊥
  none_in [] of l h = cc
  none_in (x ∷ list) of l h = omega arith

  shortens : (n : ℕ) → Shortens n
  shortens zero zero list of to l p = (0, omega arith, p)
  shortens zero (suc steps) list of to l p = absurd (none_in list of l p.2)
  shortens (suc n) steps list of to l p = shortens_more n (shortens n) steps steps list of to l (omega arith) p

  -- ---- the chain is whole

  chain_fuel : (of : TypeId) → chain_of world of ≡ chain_within (suc (rows_of_world world tables.TypeDef)) world of
  chain_fuel of = let one : rows_of_world world tables.TypeDef + 1 ≡ suc (rows_of_world world tables.TypeDef) =
      omega arith in ap (λ n. chain_within n world of) one

  pub chain_first : (of : TypeId)
      → chain_of world of ≡ of ∷ then_base (chain_within (rows_of_world world tables.TypeDef) world) (base_of world of)
  unfolding chain_within
  chain_first of = chain_fuel of

  pub in_chain : (of to : TypeId) → Reaches of to → list_any (type_eq to) (chain_of world of) ≡ true
  in_chain of to r =
      let count = count_of world in
      let short : Short (length (classes_of world)) of to =
      shortens (length (classes_of world)) r.steps (classes_of world) of to (omega arith) (path_of r.steps of to r.up) in
      ap (list_any (type_eq to)) (chain_fuel of)
      ∙ of_up (suc (rows_of_world world tables.TypeDef)) short.0 of to (omega (arith, short.1, count)) short.2

  pub chain_reaches : (of to : TypeId) → list_any (type_eq to) (chain_of world of) ≡ true → Reaches of to
  chain_reaches of to h = up_of (rows_of_world world tables.TypeDef + 1) of to h

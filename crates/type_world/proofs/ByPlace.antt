-- Rows by their place among those of all assemblies, found by the counts of rows alone.
use Rattle.std.proofs.Common.{◌≡◌, ℕ, zero, suc, ◌+◌, ◌-◌, ◌<◌, ◌≤◌, ◌&&◌, ◌==◌, Bool, true, false, nat_lt, nat_le, cond, List, [], ◌∷◌}
use Rattle.std.proofs.Common.{◌++◌, length, map, find, flat_map, take, get_or, Option, Some, None, refl, sym, ap, ◌∙◌, arith, if◌then◌else◌}
use Rattle.std.proofs.Common.{lt-ltb, eq-eqb, eqb-true, ne_eqb, leb-true}
use Rattle.std.specs.Option.{option_map, option_or}
use Rattle.std.specs.List.{list_all, range_with_len}
use Rattle.std.proofs.lemmas.Bool.{le-ltb, le-leb}
use Rattle.std.proofs.lemmas.List.{map-append}
use Rattle.std.proofs.lemmas.List.Folds.{find-append}
use Rattle.std.proofs.lemmas.List.Sums.{sum_by-cons}
use Rattle.metadata.specs.declared.schema.Table.{Table}
use Rattle.metadata.specs.declared.schema.Table.TheVariants as tables
use Rattle.cli_assembly.specs.declared.element.Elem.{Elem}
use Rattle.cli_assembly.specs.declared.element.Elem.TheVariants as elems
use Rattle.cli_assembly.specs.declared.element.TheConstants.{ELEMS}
use Rattle.cli_assembly.specs.Elements.{element_number}
use Rattle.cli_assembly.specs.Assemblies.{has_row, row_count}
use Rattle.type_world.specs.declared.identity.TypeId.{TypeId}
use Rattle.type_world.specs.declared.identity.TypeId.TheVariants as types
use Rattle.type_world.specs.declared.identity.MethodId.{MethodId}
use Rattle.type_world.specs.declared.identity.TheConstants.{BUILT_IN}
use Rattle.type_world.specs.Members.{built_in_rows, method_id}
use Rattle.type_world.specs.Numbers.{is_number, method_number, method_numbered, place_among, rows_of_all, type_number, type_numbered}
use Rattle.type_world.specs.Placed.{fixed_type, fixed_types, row_placed}
use Rattle.type_world.proofs.Bound.{both_left, both_right}
use Rattle.type_world.specs.World.{World, assembly_in, rows_before, rows_in, rows_of_world}

-- ---- searches

pub find_alike : {X : Type 0} (p q : X → Bool) (xs : List X) → ((x : X) → p x ≡ q x) → find p xs ≡ find q xs
find_alike p q [] h = refl
find_alike p q (x ∷ xs) h = ap (λ b. cond b (Some x) (find p xs)) (h x) ∙ ap (cond (q x) (Some x)) (find_alike p q xs h)

pub find_mapped : {X Y : Type 0} (p : Y → Bool) (f : X → Y) (xs : List X) → find p (map f xs) ≡ option_map f (find (λ x. p (f x)) xs)
find_mapped p f [] = refl
find_mapped {X} {Y} p f (x ∷ xs) = by_first (find_mapped p f xs) (p (f x))
  where
    by_first : find p (map f xs) ≡ option_map f (find (λ y. p (f y)) xs) → (b : Bool)
        → cond b (Some (f x)) (find p (map f xs)) ≡ option_map f (cond b (Some x) (find (λ y. p (f y)) xs))
    by_first rest true = refl
    by_first rest false = rest

pub none_found : {X : Type 0} (p : X → Bool) (xs : List X) → ((x : X) → p x ≡ false) → find p xs ≡ None
none_found p [] h = refl
none_found p (x ∷ xs) h = ap (λ b. cond b (Some x) (find p xs)) (h x) ∙ none_found p xs h

-- ---- the search for a place, from an assembly on

abbrev pub pairs_from : World → Table → ℕ → ℕ → List (ℕ × ℕ)
pairs_from world table asm n = flat_map (λ a. map (λ row. (a, row)) (rows_in (assembly_in world a) table)) (range_with_len asm n)

abbrev pub has_place : World → Table → ℕ → ℕ × ℕ → Bool
has_place world table place at = is_number place (place_among world table at.0 at.1)

abbrev pub search_from : World → Table → ℕ → ℕ → Option (ℕ × ℕ)
search_from world table place asm = find (has_place world table place) (pairs_from world table asm (length world - asm))

pub none_before : (world : World) (table : Table) → rows_before world table 0 ≡ 0
unfolding rows_before rows_of_world
none_before world table = refl

pub before_more : (world : World) (table : Table) (asm : ℕ) → asm < length world
    → rows_before world table (asm + 1) ≡ rows_before world table asm + row_count (assembly_in world asm) table
unfolding rows_before rows_of_world assembly_in
before_more [] table asm l = absurd (omega arith)
before_more (a ∷ world) table zero l = refl
before_more (a ∷ world) table (suc asm) l =
    let next : suc asm + 1 ≡ suc (asm + 1) = omega arith in
    let more : rows_of_world (take (suc asm + 1) (a ∷ world)) table ≡ rows_of_world (a ∷ take (asm + 1) world) table =
    ap (λ n. rows_of_world (take n (a ∷ world)) table) next in
    let longer = sum_by-cons (λ x. row_count x table) a (take (asm + 1) world) in
    let shorter = sum_by-cons (λ x. row_count x table) a (take asm world) in
    let rest = before_more world table asm (omega arith) in
    omega (arith, more, longer, shorter, rest)

module _ (world : World) (table : Table) (place asm left : ℕ) (inside : asm < length world)
    (so_far : rows_before world table asm + left ≡ place) where
  count : ℕ
  count = row_count (assembly_in world asm) table

  both : (a b : Bool) (n : ℕ) → a ≡ true → b ≡ true → (if a && b then Some n else None) ≡ Some n
  both true true n e f = refl
  both true false n e f = absurd (cc)
  both false b n e f = absurd (cc)

  place_there : (row : ℕ) → 0 < row → row ≤ row_count (assembly_in world asm) table
      → place_among world table asm row ≡ Some (rows_before world table asm + (row - 1))
  place_there row some few =
      both (nat_lt asm (length world)) (has_row (assembly_in world asm) table row) (rows_before world table asm + (row - 1))
      (lt-ltb asm (length world) inside)
      (ap (λ b. b && nat_le row (row_count (assembly_in world asm) table)) (lt-ltb 0 row some)
      ∙ le-leb row (row_count (assembly_in world asm) table) few)

  test_there : (row : ℕ) → 0 < row → row ≤ row_count (assembly_in world asm) table
      → has_place world table place (asm, row) ≡ (rows_before world table asm + (row - 1) == place)
  test_there row some few = ap (is_number place) (place_there row some few)

  row_here : (first n : ℕ) → 0 < first → first + n ≡ row_count (assembly_in world asm) table + 1 → first ≤ left + 1
      → left < row_count (assembly_in world asm) table
      → find (λ row. has_place world table place (asm, row)) (range_with_len first n) ≡ Some (left + 1)
  row_here first zero some end below few = absurd (omega arith)
  row_here first (suc n) some end below few =
      by_test (λ later. row_here (first + 1) n (omega arith) (omega (arith, end)) later few) (first == left + 1) refl
    where
      by_test : (first + 1 ≤ left + 1
          → find (λ row. has_place world table place (asm, row)) (range_with_len (first + 1) n) ≡ Some (left + 1))
          → (b : Bool) → (first == left + 1) ≡ b
          → find (λ row. has_place world table place (asm, row)) (range_with_len first (suc n)) ≡ Some (left + 1)
      by_test rest true q =
          let here : first ≡ left + 1 = eqb-true first (left + 1) q in
          let same : rows_before world table asm + (first - 1) ≡ place = omega (arith, here, so_far) in
          ap (λ b. cond b (Some first) (find (λ row. has_place world table place (asm, row)) (range_with_len (first + 1) n)))
          (test_there first some (omega (arith, end)) ∙ eq-eqb _ place same)
          ∙ ap Some here
      by_test rest false q =
          let other : first ≡ left + 1 → ⊥ = λ e. (let h : (first == left + 1) ≡ true = eq-eqb first (left + 1) e in cc) in
          let differ : rows_before world table asm + (first - 1) ≡ place → ⊥ = λ e. other (omega (arith, e, so_far, some)) in
          ap (λ b. cond b (Some first) (find (λ row. has_place world table place (asm, row)) (range_with_len (first + 1) n)))
          (test_there first some (omega (arith, end)) ∙ ne_eqb _ place differ)
          ∙ rest (omega (arith, other, below))

  no_row : (first n : ℕ) → 0 < first → first + n ≡ row_count (assembly_in world asm) table + 1
      → row_count (assembly_in world asm) table ≤ left
      → find (λ row. has_place world table place (asm, row)) (range_with_len first n) ≡ None
  no_row first zero some end few = refl
  no_row first (suc n) some end few =
      let differ : rows_before world table asm + (first - 1) ≡ place → ⊥ = λ e. omega (arith, e, so_far, some, end, few) in
      ap (λ b. cond b (Some first) (find (λ row. has_place world table place (asm, row)) (range_with_len (first + 1) n)))
      (test_there first some (omega (arith, end)) ∙ ne_eqb _ place differ)
      ∙ no_row (first + 1) n (omega arith) (omega (arith, end)) few

  step : search_from world table place asm
      ≡ option_or (option_map (λ row. (asm, row))
      (find (λ row. has_place world table place (asm, row)) (range_with_len 1 (row_count (assembly_in world asm) table))))
      (search_from world table place (asm + 1))
  step =
      let more : length world - asm ≡ suc (length world - (asm + 1)) = omega arith in
      ap (λ n. find (has_place world table place) (pairs_from world table asm n)) more
      ∙ find-append (has_place world table place) (map (λ row. (asm, row)) (rows_in (assembly_in world asm) table))
      (pairs_from world table (asm + 1) (length world - (asm + 1)))
      ∙ ap (λ o. option_or o (search_from world table place (asm + 1)))
      (find_mapped (has_place world table place) (λ row. (asm, row)) (rows_in (assembly_in world asm) table))

  pub search_here : left < row_count (assembly_in world asm) table → search_from world table place asm ≡ Some (asm, left + 1)
  search_here few =
      step ∙ ap (λ o. option_or (option_map (λ row. (asm, row)) o) (search_from world table place (asm + 1)))
      (row_here 1 (row_count (assembly_in world asm) table) (omega arith) (omega arith) (omega arith) few)

  pub search_later : row_count (assembly_in world asm) table ≤ left
      → search_from world table place asm ≡ search_from world table place (asm + 1)
  search_later few =
      step ∙ ap (λ o. option_or (option_map (λ row. (asm, row)) o) (search_from world table place (asm + 1)))
      (no_row 1 (row_count (assembly_in world asm) table) (omega arith) (omega arith) few)

pub search_start : (world : World) (table : Table) (place : ℕ) → row_placed world table place ≡ search_from world table place 0
unfolding row_placed
search_start world table place =
    let all : length world ≡ length world - 0 = omega arith in
    ap (λ n. find (has_place world table place) (pairs_from world table 0 n)) all

pub search_end : (world : World) (table : Table) (place asm : ℕ) → length world ≤ asm → search_from world table place asm ≡ None
search_end world table place asm past =
    let none : length world - asm ≡ 0 = omega arith in
    ap (λ n. find (has_place world table place) (pairs_from world table asm n)) none

-- ---- the rows of all assemblies, and the pairs that stand for them

map_twice : {X Y Z : Type 0} (g : Y → Z) (f : X → Y) (h : X → Z) (xs : List X) → ((x : X) → g (f x) ≡ h x) → map h xs ≡ map g (map f xs)
map_twice g f h [] e = refl
map_twice g f h (x ∷ xs) e = ap (λ z. z ∷ map h xs) (sym (e x)) ∙ ap (λ zs. g (f x) ∷ zs) (map_twice g f h xs e)

rows_are : {X : Type 0} (world : World) (table : Table) (make : ℕ → ℕ → X) (xs : List ℕ)
    → flat_map (λ asm. map (make asm) (rows_in (assembly_in world asm) table)) xs
    ≡ map (λ (at : ℕ × ℕ). make at.0 at.1) (flat_map (λ asm. map (λ row. (asm, row)) (rows_in (assembly_in world asm) table)) xs)
rows_are world table make [] = refl
rows_are world table make (x ∷ xs) =
    let first : map (make x) (rows_in (assembly_in world x) table)
    ≡ map (λ (at : ℕ × ℕ). make at.0 at.1) (map (λ row. (x, row)) (rows_in (assembly_in world x) table)) =
    map_twice (λ (at : ℕ × ℕ). make at.0 at.1) (λ row. (x, row)) (make x) (rows_in (assembly_in world x) table) (λ row. refl) in
    ap (λ ys. ys ++ flat_map (λ asm. map (make asm) (rows_in (assembly_in world asm) table)) xs) first
    ∙ ap (λ ys. map (λ (at : ℕ × ℕ). make at.0 at.1) (map (λ row. (x, row)) (rows_in (assembly_in world x) table)) ++ ys)
    (rows_are world table make xs)
    ∙ sym (map-append (λ (at : ℕ × ℕ). make at.0 at.1) (map (λ row. (x, row)) (rows_in (assembly_in world x) table))
    (flat_map (λ asm. map (λ row. (asm, row)) (rows_in (assembly_in world asm) table)) xs))

-- what is found among the rows is made of the pair that is found
found_pair : {X : Type 0} (world : World) (table : Table) (make : ℕ → ℕ → X) (p : X → Bool) (place : ℕ)
    → ((at : ℕ × ℕ) → p (make at.0 at.1) ≡ has_place world table place at)
    → find p (rows_of_all world table make) ≡ option_map (λ (at : ℕ × ℕ). make at.0 at.1) (row_placed world table place)
unfolding row_placed
found_pair world table make p place same =
    ap (find p) (rows_are world table make (range_with_len 0 (length world)))
    ∙ find_mapped p (λ (at : ℕ × ℕ). make at.0 at.1) (rows_of_all world table (λ asm row. (asm, row)))
    ∙ ap (option_map (λ (at : ℕ × ℕ). make at.0 at.1))
    (find_alike (λ (at : ℕ × ℕ). p (make at.0 at.1)) (has_place world table place) (rows_of_all world table (λ asm row. (asm, row))) same)

-- ---- numbers that begin after others

number_after : (first n : ℕ) (o : Option ℕ) → first ≤ n → is_number n (option_map (λ m. first + m) o) ≡ is_number (n - first) o
number_after first n None l = refl
number_after first n (Some m) l = by_test (m == n - first) refl
  where
    by_test : (b : Bool) → (m == n - first) ≡ b → (first + m == n) ≡ b
    by_test true q = let e = eqb-true m (n - first) q in eq-eqb (first + m) n (omega (arith, e, l))
    by_test false q =
        ne_eqb (first + m) n (λ e. (let h : (m == n - first) ≡ true = eq-eqb m (n - first) (omega (arith, e, l)) in cc))

not_after : (first n : ℕ) (o : Option ℕ) → n < first → is_number n (option_map (λ m. first + m) o) ≡ false
not_after first n None l = refl
not_after first n (Some m) l = ne_eqb (first + m) n (λ e. omega (arith, e, l))

not_if : (b : Bool) (m n : ℕ) → (m ≡ n → ⊥) → is_number n (if b then Some m else None) ≡ false
not_if true m n differ = ne_eqb m n differ
not_if false m n differ = refl

-- ---- methods

abbrev has_method_number : World → ℕ → MethodId → Bool
has_method_number world n method = is_number n (method_number world method)

no_built_in : (world : World) (n first k : ℕ) → 8 ≤ n → 0 < first → first + k ≤ 9
    → find (has_method_number world n) (map (method_id BUILT_IN) (range_with_len first k)) ≡ None
unfolding method_number
no_built_in world n first zero l some few = refl
no_built_in world n first (suc k) l some few =
    ap (λ b. cond b (Some (method_id BUILT_IN first))
    (find (has_method_number world n) (map (method_id BUILT_IN) (range_with_len (first + 1) k))))
    (not_if (nat_le 1 first && nat_le first 8) (first - 1) n (λ e. omega (arith, e, l, few)))
    ∙ no_built_in world n (first + 1) k l (omega arith) (omega (arith, few))

same_method : (world : World) (n : ℕ) → length world ≤ 64 → 8 ≤ n → (at : ℕ × ℕ)
    → has_method_number world n (method_id at.0 at.1) ≡ has_place world tables.MethodDef (n - 8) at
unfolding method_number
same_method world n few l at = by_test (at.0 == BUILT_IN) refl
  where
    built : ℕ → Option ℕ
    built row = if nat_le 1 row && nat_le row 8 then Some (row - 1) else None

    not_built : (b : Bool) (row : ℕ) → (nat_le 1 row && nat_le row 8) ≡ b → is_number n (if b then Some (row - 1) else None) ≡ false
    not_built true row q =
        let last : row ≤ 8 = leb-true row 8 (both_right (nat_le 1 row) (nat_le row 8) q) in
        ne_eqb (row - 1) n (λ e. omega (arith, e, l, last))
    not_built false row q = refl

    no_assembly_there : (b : Bool) (o : Option ℕ) → b ≡ false
        → is_number (n - 8) (if b && has_row (assembly_in world at.0) tables.MethodDef at.1 then o else None) ≡ false
    no_assembly_there true o e = absurd (cc)
    no_assembly_there false o e = refl

    by_test : (b : Bool) → (at.0 == BUILT_IN) ≡ b
        → is_number n (if b then (if nat_le 1 at.1 && nat_le at.1 8 then Some (at.1 - 1) else None)
        else option_map (λ place. 8 + place) (place_among world tables.MethodDef at.0 at.1))
        ≡ has_place world tables.MethodDef (n - 8) at
    by_test true q =
        let asm : at.0 ≡ 64 = eqb-true at.0 64 q in
        not_built (nat_le 1 at.1 && nat_le at.1 8) at.1 refl
        ∙ sym (no_assembly_there (nat_lt at.0 (length world)) (Some (rows_before world tables.MethodDef at.0 + (at.1 - 1)))
        (le-ltb at.0 (length world) (omega (arith, asm, few))))
    by_test false q = number_after 8 n (place_among world tables.MethodDef at.0 at.1) l

pub method_low : (world : World) (n : ℕ) → n < 8 → method_numbered world n ≡ Some (method_id BUILT_IN (n + 1))
unfolding method_numbered method_number
method_low world zero l = refl
method_low world (suc zero) l = refl
method_low world (suc (suc zero)) l = refl
method_low world (suc (suc (suc zero))) l = refl
method_low world (suc (suc (suc (suc zero)))) l = refl
method_low world (suc (suc (suc (suc (suc zero))))) l = refl
method_low world (suc (suc (suc (suc (suc (suc zero)))))) l = refl
method_low world (suc (suc (suc (suc (suc (suc (suc zero))))))) l = refl
method_low world (suc (suc (suc (suc (suc (suc (suc (suc n)))))))) l = absurd (omega arith)

pub method_high : (world : World) (n : ℕ) → length world ≤ 64 → 8 ≤ n
    → method_numbered world n ≡ option_map (λ (at : ℕ × ℕ). method_id at.0 at.1) (row_placed world tables.MethodDef (n - 8))
unfolding method_numbered
method_high world n few l =
    find-append (has_method_number world n) (map (method_id BUILT_IN) built_in_rows) (rows_of_all world tables.MethodDef method_id)
    ∙ ap (λ o. option_or o (find (has_method_number world n) (rows_of_all world tables.MethodDef method_id)))
    (no_built_in world n 1 8 l (omega arith) (omega arith))
    ∙ found_pair world tables.MethodDef method_id (has_method_number world n) (n - 8) (same_method world n few l)

-- ---- types

abbrev has_type_number : World → ℕ → TypeId → Bool
has_type_number world n of = is_number n (type_number world of)

abbrev is_fixed : TypeId → Bool
is_fixed (types.Class asm row) = false
is_fixed of = true

few_elements : (e : Elem) → element_number e ≤ 11
few_elements elems.Boolean = omega arith
few_elements elems.Char = omega arith
few_elements elems.I1 = omega arith
few_elements elems.U1 = omega arith
few_elements elems.I2 = omega arith
few_elements elems.U2 = omega arith
few_elements elems.I4 = omega arith
few_elements elems.U4 = omega arith
few_elements elems.I8 = omega arith
few_elements elems.U8 = omega arith

not_fixed : (world : World) (n : ℕ) (of : TypeId) → 12 < n → is_fixed of ≡ true → has_type_number world n of ≡ false
unfolding type_number
not_fixed world n types.Object l f = ne_eqb 0 n (λ e. omega (arith, e, l))
not_fixed world n types.Str l f = ne_eqb 1 n (λ e. omega (arith, e, l))
not_fixed world n types.Console l f = ne_eqb 12 n (λ e. omega (arith, e, l))
not_fixed world n (types.Array elem) l f = let few = few_elements elem in ne_eqb (element_number elem) n (λ e. omega (arith, e, l, few))
not_fixed world n (types.Class asm row) l f = absurd (cc)

none_fixed : (world : World) (n : ℕ) (of : List TypeId) → 12 < n → list_all is_fixed of ≡ true → find (has_type_number world n) of ≡ None
none_fixed world n [] l f = refl
none_fixed world n (x ∷ xs) l f =
    ap (λ b. cond b (Some x) (find (has_type_number world n) xs)) (not_fixed world n x l (both_left (is_fixed x) (list_all is_fixed xs) f))
    ∙ none_fixed world n xs l (both_right (is_fixed x) (list_all is_fixed xs) f)

same_type : (world : World) (n : ℕ) → 16 ≤ n → (at : ℕ × ℕ)
    → has_type_number world n (types.Class at.0 at.1) ≡ has_place world tables.TypeDef (n - 16) at
unfolding type_number
same_type world n l at = number_after 16 n (place_among world tables.TypeDef at.0 at.1) l

no_class : (world : World) (n : ℕ) → n < 16 → (at : ℕ × ℕ) → has_type_number world n (types.Class at.0 at.1) ≡ false
unfolding type_number
no_class world n l at = not_after 16 n (place_among world tables.TypeDef at.0 at.1) l

types_split : (world : World) (n : ℕ) → type_numbered world n
    ≡ option_or (find (has_type_number world n) fixed_types) (find (has_type_number world n) (rows_of_all world tables.TypeDef types.Class))
unfolding type_numbered
types_split world n = find-append (has_type_number world n) fixed_types (rows_of_all world tables.TypeDef types.Class)

pub type_high : (world : World) (n : ℕ) → 16 ≤ n
    → type_numbered world n ≡ option_map (λ (at : ℕ × ℕ). types.Class at.0 at.1) (row_placed world tables.TypeDef (n - 16))
type_high world n l =
    types_split world n
    ∙ ap (λ o. option_or o (find (has_type_number world n) (rows_of_all world tables.TypeDef types.Class)))
    (none_fixed world n fixed_types (omega (arith, l)) refl)
    ∙ found_pair world tables.TypeDef types.Class (has_type_number world n) (n - 16) (same_type world n l)

or_none : {X : Type 0} (o : Option X) → option_or o None ≡ o
or_none None = refl
or_none (Some x) = refl

fixed_same : (world : World) (n : ℕ) → find (has_type_number world n) fixed_types ≡ fixed_type n
unfolding fixed_type type_number
fixed_same world n = refl

pub type_low : (world : World) (n : ℕ) → n < 16 → type_numbered world n ≡ fixed_type n
type_low world n l =
    types_split world n
    ∙ ap (option_or (find (has_type_number world n) fixed_types))
    (ap (find (has_type_number world n)) (rows_are world tables.TypeDef types.Class (range_with_len 0 (length world)))
    ∙ find_mapped (has_type_number world n) (λ (at : ℕ × ℕ). types.Class at.0 at.1)
    (rows_of_all world tables.TypeDef (λ asm row. (asm, row)))
    ∙ ap (option_map (λ (at : ℕ × ℕ). types.Class at.0 at.1))
    (none_found (λ (at : ℕ × ℕ). has_type_number world n (types.Class at.0 at.1)) (rows_of_all world tables.TypeDef (λ asm row. (asm, row)))
    (no_class world n l)))
    ∙ or_none (find (has_type_number world n) fixed_types) ∙ fixed_same world n

-- ---- the fixed types

pub object_at : (n : ℕ) → n ≡ 0 → Some types.Object ≡ fixed_type n
unfolding fixed_type type_number
object_at n e = ap fixed_type (sym e)

pub text_at_one : (n : ℕ) → n ≡ 1 → Some types.Str ≡ fixed_type n
unfolding fixed_type type_number
text_at_one n e = ap fixed_type (sym e)

pub console_at : (n : ℕ) → n ≡ 12 → Some types.Console ≡ fixed_type n
unfolding fixed_type type_number
console_at n e = ap fixed_type (sym e)

pub no_fixed_type : (n : ℕ) → 12 < n → None ≡ fixed_type n
unfolding fixed_type
no_fixed_type n l = sym (none_fixed [] n fixed_types l refl)

pub array_at : (n : ℕ) (d : Elem) → 2 ≤ n → n < 12 → Some (types.Array (get_or ELEMS (n - 2) d)) ≡ fixed_type n
unfolding fixed_type type_number
array_at zero d l m = absurd (omega arith)
array_at (suc zero) d l m = absurd (omega arith)
array_at (suc (suc zero)) d l m = refl
array_at (suc (suc (suc zero))) d l m = refl
array_at (suc (suc (suc (suc zero)))) d l m = refl
array_at (suc (suc (suc (suc (suc zero))))) d l m = refl
array_at (suc (suc (suc (suc (suc (suc zero)))))) d l m = refl
array_at (suc (suc (suc (suc (suc (suc (suc zero))))))) d l m = refl
array_at (suc (suc (suc (suc (suc (suc (suc (suc zero)))))))) d l m = refl
array_at (suc (suc (suc (suc (suc (suc (suc (suc (suc zero))))))))) d l m = refl
array_at (suc (suc (suc (suc (suc (suc (suc (suc (suc (suc zero)))))))))) d l m = refl
array_at (suc (suc (suc (suc (suc (suc (suc (suc (suc (suc (suc zero))))))))))) d l m = refl
array_at (suc (suc (suc (suc (suc (suc (suc (suc (suc (suc (suc (suc n)))))))))))) d l m = absurd (omega arith)

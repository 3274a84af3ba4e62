-- Rows that are marked in one pass over the rows that name them.
use Rattle.std.proofs.Common.{◌≡◌, ◌≢◌, ℕ, zero, suc, ◌+◌, ◌*◌, ◌/◌, ◌%◌, ◌^◌, ◌<◌, ◌≤◌, ◌||◌, ◌==◌, Bool, true, false}
use Rattle.std.proofs.Common.{List, [], ◌++◌, take, drop, subst}
use Rattle.std.proofs.Common.{◌∷◌, length, map, get_or, set, replicate, refl, sym, ap, ◌∙◌, arith, eq-eqb, eqb-true, ne_eqb}
use Rattle.std.specs.List.{list_any, range_with_len}
use Rattle.std.proofs.lemmas.List.{get_or-replicate, get_or-set_other, get_or-set_same}
use Rattle.std.proofs.Math.ListN.{drop_of_length-le}
use Rattle.std.proofs.lemmas.List.FromFn.{fill_by_all, get_or-map-range_with_len}
use Rattle.metadata.specs.declared.schema.Table.{Table}
use Rattle.metadata.specs.declared.schema.Table.TheVariants as tables
use Rattle.cli_assembly.specs.Assemblies.{row_count}
use Rattle.type_world.specs.declared.classes_in_profile.ClassFacts.{ClassFacts}
use Rattle.type_world.specs.Profile.{has_method_impl, is_generic, is_owner, is_plain_class, is_value_base}
use Rattle.type_world.specs.Profiled.{facts, generic_in, overriding_in, plain_by}
use Rattle.type_world.specs.World.{World, assembly_in, column_in}

or_false : (b : Bool) → (b || false) ≡ b
or_false true = refl
or_false false = refl

or_true : (b : Bool) → (b || true) ≡ true
or_true true = refl
or_true false = refl

or_assoc : (a b c : Bool) → (a || (b || c)) ≡ ((a || b) || c)
or_assoc true b c = refl
or_assoc false b c = refl

any_more : (p : ℕ → Bool) (s n : ℕ) → list_any p (range_with_len s (n + 1)) ≡ (list_any p (range_with_len s n) || p (s + n))
any_more p s zero = let none : s ≡ s + 0 = omega arith in or_false (p s) ∙ ap p none
any_more p s (suc n) =
    let next : s + 1 + n ≡ s + suc n = omega arith in
    let longer : suc n + 1 ≡ suc (n + 1) = omega arith in
    ap (λ k. list_any p (range_with_len s k)) longer
    ∙ ap (λ b. p s || b) (any_more p (s + 1) n)
    ∙ or_assoc (p s) (list_any p (range_with_len (s + 1) n)) (p (s + 1 + n))
    ∙ ap (λ k. (p s || list_any p (range_with_len (s + 1) n)) || p k) next

-- ---- the row of a token

pub same_row : (found n k : ℕ) → found / 2 ^ 24 ≡ n → k < 2 ^ 24 → (found % 2 ^ 24 == k) ≡ (found == n * 2 ^ 24 + k)
same_row found n k q l = by_test (found % 2 ^ 24 == k) refl
  where
    by_test : (b : Bool) → (found % 2 ^ 24 == k) ≡ b → b ≡ (found == n * 2 ^ 24 + k)
    by_test true t =
        let row = eqb-true (found % 2 ^ 24) k t in
        let whole : found ≡ n * 2 ^ 24 + k = omega (arith, q, row) in
        sym (eq-eqb found (n * 2 ^ 24 + k) whole)
    by_test false t = sym (ne_eqb found (n * 2 ^ 24 + k) (λ whole. differs whole))
      where
        differs : found ≡ n * 2 ^ 24 + k → ⊥
        differs whole =
            let row : found % 2 ^ 24 ≡ k = omega (arith, q, whole) in
            let same = eq-eqb (found % 2 ^ 24) k row in
            absurd (cc)

pub other_table : (found n k : ℕ) → found / 2 ^ 24 ≢ n → k < 2 ^ 24 → false ≡ (found == n * 2 ^ 24 + k)
other_table found n k differ l = sym (ne_eqb found (n * 2 ^ 24 + k) (λ whole. differ (table whole)))
  where
    table : found ≡ n * 2 ^ 24 + k → found / 2 ^ 24 ≡ n
    table whole = omega (arith, whole, l)

-- ---- a mark

pub not_marked : (marks : List Bool) (row k : ℕ) → length marks ≤ row → k < length marks
    → get_or marks k false ≡ (get_or marks k false || row == k)
not_marked marks row k past l =
    sym (ap (λ b. get_or marks k false || b) (ne_eqb row k (λ e. omega (arith, past, l, e))) ∙ or_false (get_or marks k false))

pub marked : (marks : List Bool) (row k : ℕ) → row < length marks → get_or (set marks row true) k false ≡ (get_or marks k false || row == k)
marked marks row k l = by_test (row == k) refl
  where
    by_test : (b : Bool) → (row == k) ≡ b → get_or (set marks row true) k false ≡ (get_or marks k false || b)
    by_test true t =
        let same : row ≡ k = eqb-true row k t in
        ap (λ j. get_or (set marks row true) j false) (sym same)
        ∙ get_or-set_same marks row true false l ∙ sym (or_true (get_or marks k false))
    by_test false t =
        get_or-set_other marks row k true false (λ e. apart (sym e)) ∙ sym (or_false (get_or marks k false))
      where
        apart : row ≡ k → ⊥
        apart e = let same = eq-eqb row k e in absurd (cc)

-- ---- the marks say of each row whether one of the rows before names it

abbrev pub Marks : List Bool → (ℕ → ℕ → Bool) → ℕ → Type 0
Marks marks names before = (k : ℕ) → k < length marks → get_or marks k false ≡ list_any (names k) (range_with_len 1 before)

pub no_marks : (n : ℕ) (marks : List Bool) (names : ℕ → ℕ → Bool) → marks ≡ replicate n false → length marks ≡ n → Marks marks names 0
no_marks n marks names e same k l =
    ap (λ m. get_or m k false) e ∙ get_or-replicate n k false false (omega (arith, same, l))

pub one_mark : (old new : List Bool) (names : ℕ → ℕ → Bool) (row : ℕ → Bool) (before : ℕ) → length new ≡ length old
    → Marks old names before → ((k : ℕ) → k < length old → get_or new k false ≡ (get_or old k false || row k))
    → ((k : ℕ) → k < length old → row k ≡ names k (before + 1)) → Marks new names (before + 1)
one_mark old new names row before same marks marked is k l =
    let inside : k < length old = omega (arith, same, l) in
    let next : 1 + before ≡ before + 1 = omega arith in
    marked k inside
    ∙ ap (λ b. b || row k) (marks k inside)
    ∙ ap (λ b. list_any (names k) (range_with_len 1 before) || b) (is k inside ∙ ap (names k) (sym next))
    ∙ sym (any_more (names k) 1 before)

-- a slice of the whole vector is written back to it
take_whole : (xs : List Bool) (n : ℕ) → length xs ≤ n → take n xs ≡ xs
take_whole [] zero l = refl
take_whole [] (suc n) l = refl
take_whole (x ∷ xs) zero l = absurd (omega arith)
take_whole (x ∷ xs) (suc n) l = ap (λ ys. x ∷ ys) (take_whole xs n (omega arith))

append_nil : (xs : List Bool) → xs ++ [] ≡ xs
append_nil [] = refl
append_nil (x ∷ xs) = ap (λ ys. x ∷ ys) (append_nil xs)

abbrev pub written : List Bool → List Bool → ℕ → List Bool
written new old len = take len (new ++ drop (length new) old)

written_is : (new old : List Bool) (len : ℕ) → length new ≡ length old → len ≡ length old → written new old len ≡ new
written_is new old len same long =
    ap (λ d. take len (new ++ d)) (drop_of_length-le old (omega (arith, same)))
    ∙ ap (take len) (append_nil new) ∙ take_whole new len (omega (arith, same, long))

pub go_on : (old new slice : List Bool) (len rows before : ℕ) (names : ℕ → ℕ → Bool) (row : ℕ → Bool) → slice ≡ old
    → length new ≡ length slice → len ≡ length old → length old ≡ rows + 1 → Marks old names before
    → ((k : ℕ) → k < length slice → get_or new k false ≡ (get_or slice k false || row k))
    → ((k : ℕ) → k < rows + 1 → row k ≡ names k (before + 1))
    → Marks (written new old len) names (before + 1) × (length (written new old len) ≡ rows + 1)
go_on old new slice len rows before names row is same long many marks marked found =
    let all : length slice ≡ length old = ap length is in
    let kept : written new old len ≡ new = written_is new old len (omega (arith, same, all)) long in
    let next : Marks new names (before + 1) =
    one_mark slice new names row before same (subst (λ m. Marks m names before) (sym is) marks) marked
    (λ k l. found k (omega (arith, all, many, l))) in
    (subst (λ m. Marks m names (before + 1)) (sym kept) next, ap length kept ∙ same ∙ all ∙ many)

pub all_marks : (marks : List Bool) (names : ℕ → ℕ → Bool) (n count : ℕ) → Marks marks names count → length marks ≡ n
    → marks ≡ map (λ k. list_any (names k) (range_with_len 1 count)) (range_with_len 0 n)
all_marks marks names n count m long =
    fill_by_all (λ k. list_any (names k) (range_with_len 1 count)) marks n false long (λ k l. m k (omega (arith, long, l)))

abbrev pub owners : World → ℕ → Table → ℕ → ℕ → Bool
owners world asm table k param = is_owner world asm table k (column_in world asm tables.GenericParam param 2)

pub generics_are : (world : World) (asm : ℕ) (table : Table) (marks : List Bool) (before : ℕ) → Marks marks (owners world asm table) before
    → length marks ≡ row_count (assembly_in world asm) table + 1 → before ≡ row_count (assembly_in world asm) tables.GenericParam
    → marks ≡ generic_in world asm table
unfolding generic_in
generics_are world asm table marks before m long all =
    all_marks marks (owners world asm table) (row_count (assembly_in world asm) table + 1) before m long
    ∙ ap (λ n. map (λ k. list_any (owners world asm table k) (range_with_len 1 n))
    (range_with_len 0 (row_count (assembly_in world asm) table + 1)))
    all

abbrev pub overridden : World → ℕ → ℕ → ℕ → Bool
overridden world asm k impl = column_in world asm tables.MethodImpl impl 0 == k

pub overriding_are : (world : World) (asm : ℕ) (marks : List Bool) (before : ℕ) → Marks marks (overridden world asm) before
    → length marks ≡ row_count (assembly_in world asm) tables.TypeDef + 1 → before ≡ row_count (assembly_in world asm) tables.MethodImpl
    → marks ≡ overriding_in world asm
unfolding overriding_in
overriding_are world asm marks before m long all =
    all_marks marks (overridden world asm) (row_count (assembly_in world asm) tables.TypeDef + 1) before m long
    ∙ ap (λ n. map (λ k. list_any (overridden world asm k) (range_with_len 1 n))
    (range_with_len 0 (row_count (assembly_in world asm) tables.TypeDef + 1))) all

-- ---- what the marks say of a row

abbrev marks_of : (ℕ → Bool) → ℕ → List Bool
marks_of f n = map f (range_with_len 0 (n + 1))

pub mark_of : (f : ℕ → Bool) (n row : ℕ) → row ≤ n → get_or (marks_of f n) row false ≡ f row
mark_of f n row l = get_or-map-range_with_len f 0 (n + 1) row row false (omega arith) (omega arith)

pub generic_mark : (world : World) (asm : ℕ) (table : Table) (row : ℕ) (marks : List Bool) → marks ≡ generic_in world asm table
    → row ≤ row_count (assembly_in world asm) table → get_or marks row false ≡ is_generic world asm table row
unfolding generic_in
generic_mark world asm table row marks e l =
    ap (λ m. get_or m row false) e ∙ mark_of (is_generic world asm table) (row_count (assembly_in world asm) table) row l

pub overriding_mark : (world : World) (asm row : ℕ) (marks : List Bool) → marks ≡ overriding_in world asm
    → row ≤ row_count (assembly_in world asm) tables.TypeDef → get_or marks row false ≡ has_method_impl world asm row
unfolding overriding_in
overriding_mark world asm row marks e l =
    ap (λ m. get_or m row false) e ∙ mark_of (has_method_impl world asm) (row_count (assembly_in world asm) tables.TypeDef) row l

abbrev pub made_facts : Bool → Bool → ClassFacts
made_facts plain value_base = record { plain = plain; value_base = value_base }

pub facts_are : (world : World) (asm row : ℕ) (plain value_base : Bool) → plain ≡ is_plain_class world asm row
    → value_base ≡ is_value_base world asm row → made_facts plain value_base ≡ facts world asm row
facts_are world asm row plain value_base p v =
    ap (λ b. made_facts b value_base) p ∙ ap (made_facts (is_plain_class world asm row)) v

pub plain_by_marks : (world : World) (asm row : ℕ) (generic overriding : List Bool) (g o : Bool)
    → generic ≡ generic_in world asm tables.TypeDef
    → overriding ≡ overriding_in world asm → g ≡ get_or generic row false → o ≡ get_or overriding row false
    → row ≤ row_count (assembly_in world asm) tables.TypeDef → plain_by world asm row g o ≡ is_plain_class world asm row
plain_by_marks world asm row generic overriding g o a b p q l =
    ap (λ x. plain_by world asm row x o) (p ∙ generic_mark world asm tables.TypeDef row generic a l)
    ∙ ap (λ x. plain_by world asm row (is_generic world asm tables.TypeDef row) x) (q ∙ overriding_mark world asm row overriding b l)

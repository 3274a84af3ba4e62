-- Which type lists a row, and what is kept of that.
use Rattle.std.proofs.Common.{◌≡◌, ℕ, zero, suc, ◌+◌, ◌-◌, ◌<◌, ◌≤◌, ◌||◌, ◌==◌, ⊎_elim, Bool, true, false, cond, List, []}
use Rattle.std.proofs.Common.{◌∷◌, map, find, length, max, slice_get, Option, Some, None, refl, sym, ap, subst, ◌∙◌, arith, eq-eqb, ne_eqb}
use Rattle.std.specs.Option.{option_and_then, option_map}
use Rattle.std.specs.List.{list_any, range_with_len}
use Rattle.std.proofs.lemmas.Bool.{cases_lt, le-ltb}
use Rattle.std.proofs.lemmas.Option.{get_or_from_slice_get, slice_get-get_or, slice_get_past, slice_get_within}
use Rattle.std.proofs.lemmas.List.FromFn.{get_or-map-range_with_len, length-map-range_with_len}
use Rattle.metadata.specs.declared.schema.Table.TheVariants as tables
use Rattle.cli_assembly.specs.Assemblies.{Assembly, assembly_of, column, list_end, list_start, methods_of, row_count, rows_between}
use Rattle.cli_assembly.specs.Kept.{answer_of, nth_row}
use Rattle.cli_assembly.specs.Named.{ListsAscend}
use Rattle.type_world.specs.declared.identity.TypeId.{TypeId}
use Rattle.type_world.specs.declared.identity.TypeId.TheVariants as types
use Rattle.type_world.specs.Kept.{Kept, kept_in, kept_of}
use Rattle.type_world.specs.Loading.{world_of}
use Rattle.type_world.specs.Members.{BuiltIn, built_in, built_ins, row_in}
use Rattle.type_world.specs.Resolution.{class_in, declares, method_class}
use Rattle.type_world.specs.World.{World, assembly_in, no_assembly, rows_at}
use Rattle.type_world.proofs.Names.{assembly_is, count_is}

-- ---- a row is in a range

inside : (n s row : ℕ) → s ≤ row → row < s + n → list_any (λ l. l == row) (range_with_len s n) ≡ true
inside zero s row l m = absurd (omega arith)
inside (suc n) s row l m =
    ⊎_elim
    (λ lt. ap (λ b. b || list_any (λ l. l == row) (range_with_len (s + 1) n)) (ne_eqb s row (λ e. omega (arith, lt, e)))
    ∙ inside n (s + 1) row (omega (arith, lt)) (omega (arith, m)))
    (λ le. ap (λ b. b || list_any (λ l. l == row) (range_with_len (s + 1) n)) (eq-eqb s row (omega (arith, l, le))))
    (cases_lt s row)

below : (n s row : ℕ) → row < s → list_any (λ l. l == row) (range_with_len s n) ≡ false
below zero s row lt = refl
below (suc n) s row lt =
    ap (λ b. b || list_any (λ l. l == row) (range_with_len (s + 1) n)) (ne_eqb s row (λ e. omega (arith, lt, e)))
    ∙ below n (s + 1) row (omega (arith, lt))

above : (n s row : ℕ) → s + n ≤ row → list_any (λ l. l == row) (range_with_len s n) ≡ false
above zero s row le = refl
above (suc n) s row le =
    ap (λ b. b || list_any (λ l. l == row) (range_with_len (s + 1) n)) (ne_eqb s row (λ e. omega (arith, le, e)))
    ∙ above n (s + 1) row (omega (arith, le))

pub before_first : (s e row : ℕ) → row < s → false ≡ declares (rows_between s e) row
before_first s e row lt = sym (below (e - s) s row lt)

pub after_last : (s e row : ℕ) → s ≤ row → e ≤ row → false ≡ declares (rows_between s e) row
after_last s e row from past = sym (above (e - s) s row (omega (arith, from, past)))

pub listed : (s e row : ℕ) → s ≤ row → row < e → true ≡ declares (rows_between s e) row
listed s e row from lt = sym (inside (e - s) s row from (omega (arith, from, lt)))

-- ---- of the assembly at a position

nothing_listed : (class row : ℕ) → declares (methods_of no_assembly class) row ≡ false
unfolding methods_of column
nothing_listed zero row = refl
nothing_listed (suc class) row =
    ap (λ b. declares (rows_between 1 (cond b (list_start no_assembly (suc class + 1) 5) (0 + 1))) row)
    (le-ltb (suc class) 0 (omega arith))

pub declares_none : (files : List (List ℕ)) (asm class row : ℕ) → slice_get files asm ≡ None
    → declares (methods_of (assembly_in (world_of files) asm) class) row ≡ false
unfolding assembly_in world_of
declares_none [] asm class row e = nothing_listed class row
declares_none (file ∷ files) zero class row e = absurd (cc)
declares_none (file ∷ files) (suc asm) class row e = declares_none files asm class row e

-- ---- no type lists row 0, or a row after the last

undeclared_first : (a : Assembly) (class : ℕ) → declares (methods_of a class) 0 ≡ false
unfolding methods_of
undeclared_first a class =
    let l : 0 < max 1 (column a tables.TypeDef class 5) = omega arith in
    below (list_end a tables.MethodDef class 5 - list_start a class 5) (list_start a class 5) 0 l

undeclared_past : (a : Assembly) (class i : ℕ) → ListsAscend a → row_count a tables.MethodDef ≤ i
    → declares (methods_of a class) (suc i) ≡ false
unfolding methods_of
undeclared_past a class i lists past =
    let ends = lists.methods class in
    let start = ends.0 in
    let end = ends.1 in
    above (list_end a tables.MethodDef class 5 - list_start a class 5) (list_start a class 5) (suc i)
    (omega (arith, start, end, past))

none_found : (p : ℕ → Bool) (rows : List ℕ) → ((row : ℕ) → p row ≡ false) → find p rows ≡ None
none_found p [] h = refl
none_found p (row ∷ rows) h = ap (λ b. cond b (Some row) (find p rows)) (h row) ∙ none_found p rows h

no_class : (world : World) (asm row : ℕ) → ((class : ℕ) → declares (methods_of (assembly_in world asm) class) row ≡ false)
    → method_class world asm row ≡ None
unfolding method_class
no_class world asm row h =
    ap (class_in asm) (none_found (λ of. declares (methods_of (assembly_in world asm) of) row) (rows_at world asm tables.TypeDef) h)

-- ---- an answer for each row

pub by_row_is : {X : Type 0} (f : ℕ → Option X) (n row : ℕ) → f zero ≡ None → ((i : ℕ) → n ≤ i → f (suc i) ≡ None)
    → answer_of (map f (range_with_len 1 n)) row ≡ f row
unfolding nth_row
by_row_is f n zero first past = sym first
by_row_is f n (suc i) first past =
    let long = length-map-range_with_len f 1 n in
    ⊎_elim
    (λ lt. ap (option_and_then (λ x. x))
    (slice_get-get_or (map f (range_with_len 1 n)) i (f (suc i)) (omega (arith, lt, long))
    ∙ ap Some (get_or-map-range_with_len f 1 n i (suc i) (f (suc i)) lt (omega arith))))
    (λ after. ap (option_and_then (λ x. x)) (slice_get_past (map f (range_with_len 1 n)) i (omega (arith, after, long)))
    ∙ sym (past i after))
    (cases_lt i n)

-- ---- what is kept of an assembly

pub kept_at : (world : World) (asm : ℕ) (k : Kept) → slice_get (kept_in world) asm ≡ Some k → k ≡ kept_of world asm
kept_at world asm k e =
    let within = slice_get_within (kept_in world) asm k e in
    let long = length-map-range_with_len (kept_of world) 0 (length world) in
    sym (get_or_from_slice_get (kept_in world) asm k k e)
    ∙ get_or-map-range_with_len (kept_of world) 0 (length world) asm asm k (omega (arith, within, long)) (omega arith)

pub is_kept : (files : List (List ℕ)) (asm : ℕ) (file : List ℕ) → slice_get files asm ≡ Some file
    → slice_get (kept_in (world_of files)) asm ≡ None → ⊥
is_kept files asm file there e =
    let within = slice_get_within files asm file there in
    let count = count_is files in
    let long = length-map-range_with_len (kept_of (world_of files)) 0 (length (world_of files)) in
    let some = slice_get-get_or (kept_in (world_of files)) asm (kept_of (world_of files) asm) (omega (arith, within, count, long)) in
    absurd (cc)

pub class_kept : (files : List (List ℕ)) (asm row : ℕ) (file : List ℕ) (k : Kept) → slice_get files asm ≡ Some file
    → ListsAscend (assembly_of file) → slice_get (kept_in (world_of files)) asm ≡ Some k
    → answer_of k.method_classes row ≡ method_class (world_of files) asm row
unfolding kept_of
class_kept files asm row file k there lists e =
    let same = assembly_is files asm file (slice_get_within files asm file there) (sym (get_or_from_slice_get files asm file file there)) in
    let ascend : ListsAscend (assembly_in (world_of files) asm) = subst ListsAscend (sym same) lists in
    ap (λ kept. answer_of kept.method_classes row) (kept_at (world_of files) asm k e)
    ∙ by_row_is (method_class (world_of files) asm) (row_count (assembly_in (world_of files) asm) tables.MethodDef) row
    (no_class (world_of files) asm 0 (λ class. undeclared_first (assembly_in (world_of files) asm) class))
    (λ i past. no_class (world_of files) asm (suc i)
    (λ class. undeclared_past (assembly_in (world_of files) asm) class i ascend past))

pub no_assembly_class : (files : List (List ℕ)) (asm row : ℕ) → slice_get files asm ≡ None → method_class (world_of files) asm row ≡ None
no_assembly_class files asm row e = no_class (world_of files) asm row (λ class. declares_none files asm class row e)

-- ---- the built-in methods

abbrev built_in_class : ℕ → Option TypeId
built_in_class row = option_map (λ b. b.of) (built_in row)

pub first_built_in : (row : ℕ) → row ≡ 1 → Some types.Object ≡ built_in_class row
unfolding built_in
first_built_in row e = ap built_in_class (sym e)

pub last_built_in : (row : ℕ) → row ≡ 8 → Some types.Str ≡ built_in_class row
unfolding built_in
last_built_in row e = ap built_in_class (sym e)

pub written_built_in : (row : ℕ) → 2 ≤ row → row ≤ 7 → Some types.Console ≡ built_in_class row
unfolding built_in
written_built_in zero l m = absurd (omega arith)
written_built_in (suc zero) l m = absurd (omega arith)
written_built_in (suc (suc zero)) l m = refl
written_built_in (suc (suc (suc zero))) l m = refl
written_built_in (suc (suc (suc (suc zero)))) l m = refl
written_built_in (suc (suc (suc (suc (suc zero))))) l m = refl
written_built_in (suc (suc (suc (suc (suc (suc zero)))))) l m = refl
written_built_in (suc (suc (suc (suc (suc (suc (suc zero))))))) l m = refl
written_built_in (suc (suc (suc (suc (suc (suc (suc (suc row)))))))) l m = absurd (omega arith)

pub no_built_in : (row : ℕ) → row < 1 → None ≡ built_in_class row
unfolding built_in
no_built_in zero l = refl
no_built_in (suc row) l = absurd (omega arith)

pub past_rows : (bs : List BuiltIn) (row : ℕ) → length bs < row → row_in bs row ≡ None
past_rows [] row l = refl
past_rows (b ∷ bs) row l =
    ap (λ t. cond t (Some b) (row_in bs (row - 1))) (ne_eqb row 1 (λ e. omega (arith, l, e))) ∙ past_rows bs (row - 1) (omega (arith, l))

pub past_built_in : (row : ℕ) → 8 < row → None ≡ built_in_class row
unfolding built_in
past_built_in row l = sym (ap (option_map (λ b. b.of)) (past_rows built_ins row l))

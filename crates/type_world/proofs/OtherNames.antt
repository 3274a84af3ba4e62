-- Numbers of the names of types: where they differ, the name isn't the row's.
use Rattle.std.proofs.Common.{◌≡◌, ℕ, zero, suc, ◌+◌, ◌-◌, ◌*◌, ◌%◌, ◌<◌, ◌≤◌, ◌==◌, ◌++◌, ◌&&◌, not, Bool, true, false, List, [], ◌∷◌, drop}
use Rattle.std.proofs.Common.{length, map, find, get_or, take, slice_get, Option, Some, None, refl, sym, ap, ◌∙◌, subst, arith}
use Rattle.std.proofs.Common.{eq-eqb, eqb-true, if◌then◌else◌}
use Rattle.std.specs.Option.{option_map_or}
use Rattle.std.specs.List.{list_any, range_with_len}
use Rattle.std.specs.Str.{bytes_eq}
use Rattle.std.proofs.lemmas.List.{take_all}
use Rattle.std.proofs.lemmas.List.FromFn.{get_or-map-range_with_len, length-map-range_with_len}
use Rattle.metadata.specs.declared.schema.Table.TheVariants as tables
use Rattle.cli_assembly.specs.Assemblies.{Assembly, assembly_of, column, row_count, string_at}
use Rattle.type_world.specs.Loading.{world_of}
use Rattle.type_world.specs.NameNumbers.{TypeNumbers, nested_number, nested_rows, nesting_numbers, number_from, number_of_nesting}
use Rattle.type_world.specs.NameNumbers.{outermost_by, outermost_number, outermost_numbers, type_numbers, world_numbers}
use Rattle.type_world.specs.Resolution.{is_named, is_nested, nests, type_named}
use Rattle.type_world.specs.RowIndex.{key_of}
use Rattle.type_world.specs.World.{World, assembly_in, has_text, is_text, rows_in, text_at}
use Rattle.type_world.proofs.Bound.{both_left, both_right}
use Rattle.type_world.proofs.FullNames.{bytes_are}
use Rattle.type_world.proofs.RowMarks.{Marks, all_marks, mark_of}
use Rattle.type_world.proofs.RowSearch.{Here, Keyed, Searched, all_rows, found_row, rows_from}

-- ---- a name is read byte by byte

pub one_byte : (name : List ℕ) (i byte number : ℕ) → i < length name → byte ≡ get_or name i byte
    → number_from number (drop i name) ≡ number_from ((number * 31 + byte) % 16777213) (drop (i + 1) name)
one_byte [] i byte number l e = absurd (omega arith)
one_byte (b ∷ bs) zero byte number l e = ap (λ x. number_from ((number * 31 + x) % 16777213) bs) (sym e)
one_byte (b ∷ bs) (suc i) byte number l e =
    let next : suc (i + 1) ≡ suc i + 1 = omega arith in
    one_byte bs i byte number (omega arith) e
    ∙ ap (λ n. number_from ((number * 31 + byte) % 16777213) (drop n (b ∷ bs))) next

-- ---- texts of columns

pub own_text : (a : Assembly) (row n at : ℕ) (o : Option (List ℕ)) → at ≡ column a tables.TypeDef row n → o ≡ string_at a at
    → option_map_or (λ text. text) o [] ≡ text_at a tables.TypeDef row n
unfolding text_at
own_text a row n at o e f = ap (λ x. option_map_or (λ text. text) x []) (f ∙ ap (string_at a) e)

the_text : (a : Assembly) (row n : ℕ) (text : List ℕ) → has_text a tables.TypeDef row n text ≡ true → text_at a tables.TypeDef row n ≡ text
unfolding has_text text_at
the_text a row n text e = by_found (string_at a (column a tables.TypeDef row n)) e
  where
    by_found : (o : Option (List ℕ)) → is_text text o ≡ true → option_map_or (λ t. t) o [] ≡ text
    by_found None q = absurd (cc)
    by_found (Some found) q = sym (bytes_are text found q)

-- ---- marks of nested rows

abbrev pub nested_by : Assembly → ℕ → ℕ → Bool
nested_by a k nesting = column a tables.NestedClass nesting 0 == k

-- ---- where the numbers differ

test_false : (b : Bool) → (b ≡ true → ⊥) → b ≡ false
test_false true h = absurd (h refl)
test_false false h = refl

both_false : (b : Bool) → (b && false) ≡ false
both_false true = refl
both_false false = refl

abbrev pub is_outermost : Assembly → List ℕ → List ℕ → ℕ → Bool
is_outermost a namespace name row = is_named a row namespace name && not (is_nested a row)

outermost_key : (a : Assembly) (row : ℕ) → 0 < row → row ≤ length (outermost_numbers a)
    → key_of (outermost_numbers a) row ≡ outermost_by (is_nested a row) a row
unfolding outermost_numbers
outermost_key a row some l =
    let long = length-map-range_with_len (λ at. outermost_by (is_nested a at) a at) 1 (row_count a tables.TypeDef) in
    get_or-map-range_with_len (λ at. outermost_by (is_nested a at) a at) 1 (row_count a tables.TypeDef) (row - 1) row 0
    (omega (arith, long, l, some)) (omega (arith, some))

pub outermost_long : (a : Assembly) → length (outermost_numbers a) ≡ row_count a tables.TypeDef
unfolding outermost_numbers
outermost_long a = length-map-range_with_len (λ at. outermost_by (is_nested a at) a at) 1 (row_count a tables.TypeDef)

not_outermost : (a : Assembly) (namespace name : List ℕ) (row : ℕ) (nested : Bool) → is_nested a row ≡ nested
    → (outermost_by nested a row == outermost_number namespace name) ≡ false → is_outermost a namespace name row ≡ false
not_outermost a namespace name row true q e =
    ap (λ b. is_named a row namespace name && not b) q ∙ both_false (is_named a row namespace name)
not_outermost a namespace name row false q e =
    ap (λ b. b && not (is_nested a row)) (test_false (is_named a row namespace name) differs)
  where
    differs : is_named a row namespace name ≡ true → ⊥
    differs named =
        let is_name = the_text a row 1 name (both_left (has_text a tables.TypeDef row 1 name) (has_text a tables.TypeDef row 2 namespace) named) in
        let is_namespace =
        the_text a row 2 namespace (both_right (has_text a tables.TypeDef row 1 name) (has_text a tables.TypeDef row 2 namespace) named) in
        let same : outermost_by false a row ≡ outermost_number namespace name =
        ap (λ n. outermost_number n (text_at a tables.TypeDef row 1)) is_namespace ∙ ap (outermost_number namespace) is_name in
        let yes_ = eq-eqb (outermost_by false a row) (outermost_number namespace name) same in
        cc

pub outermost_keyed : (a : Assembly) (namespace name : List ℕ)
    → Keyed (is_outermost a namespace name) (outermost_numbers a) (outermost_number namespace name)
outermost_keyed a namespace name row some l e =
    not_outermost a namespace name row (is_nested a row) refl
    (ap (λ k. k == outermost_number namespace name) (sym (outermost_key a row some l)) ∙ e)

not_nested : (a : Assembly) (namespace name : List ℕ) (row : ℕ) (nested : Bool)
    → outermost_by nested a row ≡ outermost_number namespace name → nested ≡ false
unfolding outermost_number
not_nested a namespace name row true e = absurd (omega (arith, e))
not_nested a namespace name row false e = refl

pub outermost_found : (a : Assembly) (namespace name : List ℕ) (row : ℕ)
    → Searched (is_outermost a namespace name) (outermost_numbers a) (outermost_number namespace name) (Some row)
    → is_named a row namespace name ≡ true → type_named a namespace name ≡ Some row
unfolding type_named
outermost_found a namespace name row s named =
    let after = s.here.after in
    let key = sym (outermost_key a row (omega (arith, after)) s.here.there) ∙ s.here.is in
    let nested : is_nested a row ≡ false = not_nested a namespace name row (is_nested a row) key in
    all_rows (is_outermost a namespace name) (outermost_numbers a) (row_count a tables.TypeDef) (outermost_long a)
    ∙ found_row (is_outermost a namespace name) (outermost_numbers a) (outermost_number namespace name) row s
    (ap (λ b. b && not (is_nested a row)) named ∙ ap not nested)

pub none_outermost : (a : Assembly) (namespace name : List ℕ)
    → Searched (is_outermost a namespace name) (outermost_numbers a) (outermost_number namespace name) None
    → type_named a namespace name ≡ None
unfolding type_named
none_outermost a namespace name s =
    all_rows (is_outermost a namespace name) (outermost_numbers a) (row_count a tables.TypeDef) (outermost_long a) ∙ s.left

-- ---- rows of NestedClass

pub nestings_long : (a : Assembly) → length (nesting_numbers a) ≡ row_count a tables.NestedClass
unfolding nesting_numbers
nestings_long a = length-map-range_with_len (number_of_nesting a) 1 (row_count a tables.NestedClass)

nesting_key : (a : Assembly) (row : ℕ) → 0 < row → row ≤ length (nesting_numbers a)
    → key_of (nesting_numbers a) row ≡ number_of_nesting a row
unfolding nesting_numbers
nesting_key a row some l =
    let long = length-map-range_with_len (number_of_nesting a) 1 (row_count a tables.NestedClass) in
    get_or-map-range_with_len (number_of_nesting a) 1 (row_count a tables.NestedClass) (row - 1) row 0
    (omega (arith, long, l, some)) (omega (arith, some))

pub nestings_keyed : (a : Assembly) (enclosing : ℕ) (name : List ℕ)
    → Keyed (nests a enclosing name) (nesting_numbers a) (nested_number enclosing name)
nestings_keyed a enclosing name row some l e = test_false (nests a enclosing name row) differs
  where
    differs : nests a enclosing name row ≡ true → ⊥
    differs passes =
        let nested = column a tables.NestedClass row 0 in
        let is_enclosing = eqb-true (column a tables.NestedClass row 1) enclosing
        (both_left (column a tables.NestedClass row 1 == enclosing) (has_text a tables.TypeDef nested 1 name) passes) in
        let is_name = the_text a nested 1 name
        (both_right (column a tables.NestedClass row 1 == enclosing) (has_text a tables.TypeDef nested 1 name) passes) in
        let same : key_of (nesting_numbers a) row ≡ nested_number enclosing name =
        nesting_key a row some l
        ∙ ap (λ of. nested_number of (text_at a tables.TypeDef nested 1)) is_enclosing
        ∙ ap (nested_number enclosing) is_name in
        let yes_ = eq-eqb (key_of (nesting_numbers a) row) (nested_number enclosing name) same in
        cc

pub nesting_found : (a : Assembly) (enclosing : ℕ) (name : List ℕ) (row : ℕ)
    → Searched (nests a enclosing name) (nesting_numbers a) (nested_number enclosing name) (Some row)
    → nests a enclosing name row ≡ true → find (nests a enclosing name) (rows_in a tables.NestedClass) ≡ Some row
nesting_found a enclosing name row s passes =
    all_rows (nests a enclosing name) (nesting_numbers a) (row_count a tables.NestedClass) (nestings_long a)
    ∙ found_row (nests a enclosing name) (nesting_numbers a) (nested_number enclosing name) row s passes

pub no_nesting : (a : Assembly) (enclosing : ℕ) (name : List ℕ)
    → Searched (nests a enclosing name) (nesting_numbers a) (nested_number enclosing name) None
    → find (nests a enclosing name) (rows_in a tables.NestedClass) ≡ None
no_nesting a enclosing name s =
    all_rows (nests a enclosing name) (nesting_numbers a) (row_count a tables.NestedClass) (nestings_long a) ∙ s.left

-- ---- which rows are nested

pub nested_are : (a : Assembly) (marks : List Bool) (before : ℕ) → Marks marks (nested_by a) before
    → length marks ≡ row_count a tables.TypeDef + 1 → before ≡ row_count a tables.NestedClass → marks ≡ nested_rows a
unfolding nested_rows
nested_are a marks before m long all =
    all_marks marks (nested_by a) (row_count a tables.TypeDef + 1) before m long
    ∙ ap (λ n. map (λ k. list_any (nested_by a k) (range_with_len 1 n)) (range_with_len 0 (row_count a tables.TypeDef + 1))) all

pub nested_mark : (a : Assembly) (row : ℕ) (marks : List Bool) → marks ≡ nested_rows a → row ≤ row_count a tables.TypeDef
    → get_or marks row false ≡ is_nested a row
unfolding nested_rows
nested_mark a row marks e l = ap (λ m. get_or m row false) e ∙ mark_of (is_nested a) (row_count a tables.TypeDef) row l

-- ---- the numbers that are kept

numbers_some : (world : World) (asm : ℕ) (numbers : TypeNumbers) → slice_get (map type_numbers world) asm ≡ Some numbers
    → numbers ≡ type_numbers (assembly_in world asm)
unfolding assembly_in
numbers_some [] asm numbers e = absurd (cc)
numbers_some (a ∷ world) zero numbers e = sym (some_is (type_numbers a) numbers e)
  where
    some_is : (x y : TypeNumbers) → Some x ≡ Some y → x ≡ y
    some_is x y q = cc
numbers_some (a ∷ world) (suc asm) numbers e = numbers_some world asm numbers e

nothing_there : (world : World) (asm : ℕ) → slice_get (map type_numbers world) asm ≡ None
    → (namespace name : List ℕ) → None ≡ type_named (assembly_in world asm) namespace name
unfolding assembly_in type_named
nothing_there [] asm e namespace name = refl
nothing_there (a ∷ world) zero e namespace name = absurd (cc)
nothing_there (a ∷ world) (suc asm) e namespace name = nothing_there world asm e namespace name

nothing_nested : (world : World) (asm : ℕ) → slice_get (map type_numbers world) asm ≡ None → (enclosing : ℕ) (name : List ℕ)
    → None ≡ find (nests (assembly_in world asm) enclosing name) (rows_in (assembly_in world asm) tables.NestedClass)
unfolding assembly_in
nothing_nested [] asm e enclosing name = refl
nothing_nested (a ∷ world) zero e enclosing name = absurd (cc)
nothing_nested (a ∷ world) (suc asm) e enclosing name = nothing_nested world asm e enclosing name

pub kept_outermost : (world : World) (asm : ℕ) (numbers : TypeNumbers) → slice_get (world_numbers world) asm ≡ Some numbers
    → numbers.outermost ≡ outermost_numbers (assembly_in world asm)
unfolding world_numbers
kept_outermost world asm numbers e = ap (λ (t : TypeNumbers). t.outermost) (numbers_some world asm numbers e)

pub kept_nestings : (world : World) (asm : ℕ) (numbers : TypeNumbers) → slice_get (world_numbers world) asm ≡ Some numbers
    → numbers.nestings ≡ nesting_numbers (assembly_in world asm)
unfolding world_numbers
kept_nestings world asm numbers e = ap (λ (t : TypeNumbers). t.nestings) (numbers_some world asm numbers e)

pub no_outermost : (world : World) (asm : ℕ) (namespace name : List ℕ) → slice_get (world_numbers world) asm ≡ None
    → None ≡ type_named (assembly_in world asm) namespace name
unfolding world_numbers
no_outermost world asm namespace name e = nothing_there world asm e namespace name

pub no_nestings : (world : World) (asm enclosing : ℕ) (name : List ℕ) → slice_get (world_numbers world) asm ≡ None
    → None ≡ find (nests (assembly_in world asm) enclosing name) (rows_in (assembly_in world asm) tables.NestedClass)
unfolding world_numbers
no_nestings world asm enclosing name e = nothing_nested world asm e enclosing name

-- ---- of all assemblies

pub no_numbers : (files : List (List ℕ)) → [] ≡ world_numbers (world_of (take 0 files))
unfolding world_numbers world_of
no_numbers files = refl

pub one_assembly : (files : List (List ℕ)) (i : ℕ) (file : List ℕ) → i < length files → file ≡ get_or files i file
    → world_numbers (world_of (take i files)) ++ type_numbers (assembly_of file) ∷ [] ≡ world_numbers (world_of (take (i + 1) files))
unfolding world_numbers world_of
one_assembly [] i file l e = absurd (omega arith)
one_assembly (f ∷ files) zero file l e = ap (λ x. type_numbers (assembly_of x) ∷ []) e
one_assembly (f ∷ files) (suc i) file l e =
    let next : suc (i + 1) ≡ suc i + 1 = omega arith in
    ap (λ xs. type_numbers (assembly_of f) ∷ xs) (one_assembly files i file (omega arith) e)
    ∙ ap (λ n. map type_numbers (map assembly_of (take n (f ∷ files)))) next

pub whole : (files : List (List ℕ)) (i : ℕ) → length files ≤ i
    → world_numbers (world_of (take i files)) ≡ world_numbers (world_of files)
whole files i l = ap (λ fs. world_numbers (world_of fs)) (take_all i files l)

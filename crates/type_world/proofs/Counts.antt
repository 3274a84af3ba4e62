-- How many rows a table has in some files, and the place of a row among those of all.
use Rattle.std.proofs.Common.{◌≡◌, ℕ, zero, suc, ◌+◌, ◌-◌, ◌<◌, ◌≤◌, ◌&&◌, Bool, true, false, nat_lt, nat_le, List, []}
use Rattle.std.proofs.Common.{◌∷◌, length, map, drop, take, get_or, slice_get, Option, Some, None, refl, sym}
use Rattle.std.proofs.Common.{ap, ◌∙◌, arith, if◌then◌else◌, lt-ltb, ltb-true, leb-true, ne_eqb}
use Rattle.std.proofs.Common.{option_and_then}
use Rattle.std.proofs.lemmas.List.{length-take, take-map}
use Rattle.std.proofs.lemmas.List.Sums.{sum_by-cons}
use Rattle.std.proofs.lemmas.Option.{get_or_from_slice_get, slice_get_within}
use Rattle.pe_image.specs.Headers.{headers_of}
use Rattle.std.specs.Cmp.Lexicographic.{pointwise}
use Rattle.metadata.specs.declared.schema.Table.{Table}
use Rattle.cli_assembly.specs.Assemblies.{assembly_by, assembly_of, blob_at, column, has_row, method_signature, row_count}
use Rattle.cli_assembly.specs.Signatures.{method_sig_of}
use Rattle.std.specs.Option.{option_map}
use Rattle.std.proofs.lemmas.Bool.{lt-leb}
use Rattle.metadata.specs.declared.schema.Table.TheVariants as tables
use Rattle.type_world.specs.declared.identity.MethodId.{MethodId}
use Rattle.type_world.specs.declared.identity.TheConstants.{BUILT_IN}
use Rattle.type_world.specs.Members.{built_in, signature_of}
use Rattle.type_world.specs.World.{World, assembly_in, column_in, rows_before, rows_of_world}
use Rattle.type_world.specs.Loading.{world_of}
use Rattle.type_world.specs.Numbers.{place_among}
use Rattle.type_world.proofs.Bound.{both_left, both_right}
use Rattle.type_world.proofs.Names.{assembly_is, count_is}

abbrev pub rows_in_files : List (List ℕ) → Table → ℕ
rows_in_files files table = rows_of_world (world_of files) table

pub no_rows : (files : List (List ℕ)) (table : Table) → rows_in_files (take 0 files) table ≡ 0
unfolding rows_of_world world_of
no_rows files table = refl

rows_cons : (file : List ℕ) (files : List (List ℕ)) (table : Table)
    → rows_in_files (file ∷ files) table ≡ row_count (assembly_of file) table + rows_in_files files table
unfolding rows_of_world world_of
rows_cons file files table = sum_by-cons (λ assembly. row_count assembly table) (assembly_of file) (map assembly_of files)

pub one_more : (files : List (List ℕ)) (i : ℕ) (file : List ℕ) (table : Table) → i < length files
    → file ≡ get_or files i file
    → rows_in_files (take (i + 1) files) table ≡ rows_in_files (take i files) table + row_count (assembly_of file) table
one_more [] i file table l e = absurd (omega arith)
one_more (f ∷ files) zero file table l e =
    let first : rows_in_files (f ∷ take 0 files) table
    ≡ row_count (assembly_of f) table + rows_in_files (take 0 files) table = rows_cons f (take 0 files) table in
    let none : rows_in_files (take 0 files) table ≡ 0 = no_rows files table in
    let same : row_count (assembly_of f) table ≡ row_count (assembly_of file) table = ap (λ x. row_count (assembly_of x) table) (sym e) in
    let start : rows_in_files (take 0 (f ∷ files)) table ≡ 0 = no_rows (f ∷ files) table in
    omega (arith, first, none, same, start)
one_more (f ∷ files) (suc i) file table l e =
    let next : suc i + 1 ≡ suc (i + 1) = omega arith in
    let more : rows_in_files (take (suc i + 1) (f ∷ files)) table ≡ rows_in_files (f ∷ take (i + 1) files) table =
    ap (λ n. rows_in_files (take n (f ∷ files)) table) next in
    let longer = rows_cons f (take (i + 1) files) table in
    let shorter = rows_cons f (take i files) table in
    let rest = one_more files i file table (omega arith) e in
    omega (arith, more, longer, shorter, rest)

-- ---- rows at a position

pub rows_none : (files : List (List ℕ)) (asm : ℕ) (table : Table) → slice_get files asm ≡ None
    → row_count (assembly_in (world_of files) asm) table ≡ 0
unfolding assembly_in world_of
rows_none [] asm table e = refl
rows_none (file ∷ files) zero table e = absurd (cc)
rows_none (file ∷ files) (suc asm) table e = rows_none files asm table e

pub rows_some : (files : List (List ℕ)) (asm : ℕ) (file : List ℕ) (table : Table) → slice_get files asm ≡ Some file
    → row_count (assembly_in (world_of files) asm) table ≡ row_count (assembly_of file) table
rows_some files asm file table e =
    ap (λ a. row_count a table)
    (assembly_is files asm file (slice_get_within files asm file e) (sym (get_or_from_slice_get files asm file file e)))

pub column_none : (files : List (List ℕ)) (asm : ℕ) (table : Table) (row n : ℕ) → slice_get files asm ≡ None
    → column_in (world_of files) asm table row n ≡ 0
unfolding assembly_in world_of column
column_none [] asm table zero n e = refl
column_none [] asm table (suc row) n e = refl
column_none (file ∷ files) zero table row n e = absurd (cc)
column_none (file ∷ files) (suc asm) table row n e = column_none files asm table row n e

pub column_some : (files : List (List ℕ)) (asm : ℕ) (file : List ℕ) (table : Table) (row n : ℕ)
    → slice_get files asm ≡ Some file → column_in (world_of files) asm table row n ≡ column (assembly_of file) table row n
column_some files asm file table row n e =
    ap (λ a. column a table row n)
    (assembly_is files asm file (slice_get_within files asm file e) (sym (get_or_from_slice_get files asm file file e)))

pub token_none : (files : List (List ℕ)) (asm : ℕ) → slice_get files asm ≡ None → (assembly_in (world_of files) asm).entry_token ≡ 0
unfolding assembly_in world_of
token_none [] asm e = refl
token_none (file ∷ files) zero e = absurd (cc)
token_none (file ∷ files) (suc asm) e = token_none files asm e

pub token_some : (files : List (List ℕ)) (asm : ℕ) (file : List ℕ) → slice_get files asm ≡ Some file
    → (assembly_in (world_of files) asm).entry_token ≡ (headers_of file).entry_token
unfolding assembly_of assembly_by
token_some files asm file e =
    ap (λ a. a.entry_token) (assembly_is files asm file (slice_get_within files asm file e)
    (sym (get_or_from_slice_get files asm file file e)))

-- ---- the place of a row

inside : (files : List (List ℕ)) (asm row : ℕ) (table : Table)
    → has_row (assembly_in (world_of files) asm) table row ≡ true → nat_lt asm (length (world_of files)) ≡ true
inside files asm row table e = by_file (slice_get files asm) refl
  where
    count : ℕ
    count = row_count (assembly_in (world_of files) asm) table

    by_file : (o : Option (List ℕ)) → slice_get files asm ≡ o → nat_lt asm (length (world_of files)) ≡ true
    by_file (Some file) q =
        let l = slice_get_within files asm file q in let n = count_is files in lt-ltb asm (length (world_of files)) (omega (arith, l, n))
    by_file None q =
        let none = rows_none files asm table q in
        let some : 0 < row = ltb-true 0 row (both_left (nat_lt 0 row) (nat_le row count) e) in
        let few : row ≤ count = leb-true row count (both_right (nat_lt 0 row) (nat_le row count) e) in
        absurd (omega (arith, none, some, few))

place_with : (a b : Bool) (n : ℕ) → a ≡ true → b ≡ true → (if a && b then Some n else None) ≡ Some n
place_with true true n e f = refl
place_with true false n e f = absurd (cc)
place_with false b n e f = absurd (cc)

no_place : (a b : Bool) (n : ℕ) → b ≡ false → (if a && b then Some n else None) ≡ None
no_place true true n f = absurd (cc)
no_place true false n f = refl
no_place false b n f = refl

pub place_is : (files before : List (List ℕ)) (asm row rows : ℕ) (table : Table)
    → has_row (assembly_in (world_of files) asm) table row ≡ true → before ≡ take asm files
    → rows ≡ rows_in_files before table → place_among (world_of files) table asm row ≡ Some (rows + (row - 1))
unfolding rows_before world_of
place_is files before asm row rows table has same sum =
    let rows_are : rows_before (world_of files) table asm ≡ rows =
    ap (λ w. rows_of_world w table) (take-map assembly_of asm files) ∙ ap (λ fs. rows_in_files fs table) (sym same) ∙ sym sum in
    place_with (nat_lt asm (length (world_of files))) (has_row (assembly_in (world_of files) asm) table row)
    (rows_before (world_of files) table asm + (row - 1)) (inside files asm row table has) has
    ∙ ap (λ n. Some (n + (row - 1))) rows_are

pub place_none : (files : List (List ℕ)) (asm row : ℕ) (table : Table)
    → has_row (assembly_in (world_of files) asm) table row ≡ false → place_among (world_of files) table asm row ≡ None
place_none files asm row table missing =
    no_place (nat_lt asm (length (world_of files))) (has_row (assembly_in (world_of files) asm) table row)
    (rows_before (world_of files) table asm + (row - 1)) missing

pub few_before : (files read : List (List ℕ)) (n : ℕ) → read ≡ files → length (world_of files) ≤ 64 → length (take n read) ≤ 64
few_before files read n same few =
    let long = length-take n read in
    let count = count_is files in
    let all : length read ≡ length files = ap length same in
    omega (arith, long, count, all, few)

-- ---- numbers of an entry

pub pointwise_step : {A B : Type 0} (e : A → B → Bool) (xs : List A) (ys : List B) (i : ℕ) (x : A) (y : B)
    → i < length xs → i < length ys → x ≡ get_or xs i x → y ≡ get_or ys i y
    → pointwise e (drop i xs) (drop i ys) ≡ (e x y && pointwise e (drop (i + 1) xs) (drop (i + 1) ys))
pointwise_step e [] ys i x y l m f g = absurd (omega arith)
pointwise_step e (a ∷ xs) [] i x y l m f g = absurd (omega arith)
pointwise_step e (a ∷ xs) (b ∷ ys) zero x y l m f g =
    ap (λ u. e u b && pointwise e xs ys) (sym f) ∙ ap (λ v. e x v && pointwise e xs ys) (sym g)
pointwise_step e (a ∷ xs) (b ∷ ys) (suc i) x y l m f g =
    let next : suc (i + 1) ≡ suc i + 1 = omega arith in
    pointwise_step e xs ys i x y (omega arith) (omega arith) f g ∙ ap (λ n. e x y && pointwise e (drop n (a ∷ xs)) (drop n (b ∷ ys))) next

pub unlike_lengths : {A B : Type 0} (e : A → B → Bool) (xs : List A) (ys : List B) → (length xs ≡ length ys → ⊥) → pointwise e xs ys ≡ false
unlike_lengths e [] [] n = absurd (n refl)
unlike_lengths e [] (y ∷ ys) n = refl
unlike_lengths e (x ∷ xs) [] n = refl
unlike_lengths e (x ∷ xs) (y ∷ ys) n = second_false (e x y) (pointwise e xs ys) (unlike_lengths e xs ys (λ q. n (omega (arith, q))))
  where
    second_false : (a b : Bool) → b ≡ false → (a && b) ≡ false
    second_false true b f = f
    second_false false b f = refl

-- ---- signatures

not_built_in : (world : World) (method : MethodId) → method.asm < 64
    → signature_of world method ≡ method_signature (assembly_in world method.asm) method.row
unfolding signature_of
not_built_in world method l =
    ap (λ b. if b then option_map (λ b. b.sig) (built_in method.row) else method_signature (assembly_in world method.asm) method.row)
    (ne_eqb method.asm BUILT_IN (λ e. omega (arith, l, e)))

pub sig_some : (files : List (List ℕ)) (method : MethodId) (file : List ℕ) → method.asm < 64
    → slice_get files method.asm ≡ Some file → signature_of (world_of files) method ≡ method_signature (assembly_of file) method.row
sig_some files method file l e =
    not_built_in (world_of files) method l
    ∙ ap (λ a. method_signature a method.row)
    (assembly_is files method.asm file (slice_get_within files method.asm file e)
    (sym (get_or_from_slice_get files method.asm file file e)))

no_row : (n row : ℕ) → n ≡ 0 → (nat_lt 0 row && nat_le row n) ≡ false
no_row n row e = by_some (nat_lt 0 row) refl
  where
    by_some : (b : Bool) → nat_lt 0 row ≡ b → (b && nat_le row n) ≡ false
    by_some true q = let some = ltb-true 0 row q in lt-leb row n (omega (arith, some, e))
    by_some false q = refl

pub sig_none : (files : List (List ℕ)) (method : MethodId) → method.asm < 64 → slice_get files method.asm ≡ None
    → signature_of (world_of files) method ≡ None
unfolding method_signature
sig_none files method l e =
    not_built_in (world_of files) method l
    ∙ ap (λ b. if b then option_and_then method_sig_of
    (blob_at (assembly_in (world_of files) method.asm)
    (column (assembly_in (world_of files) method.asm) tables.MethodDef method.row 4)) else None)
    (no_row (row_count (assembly_in (world_of files) method.asm) tables.MethodDef) method.row
    (rows_none files method.asm tables.MethodDef e))

pub few_there : (files read : List (List ℕ)) (n : ℕ) → read ≡ files → n ≡ length read → 0 < length (world_of files)
    → length (world_of files) ≤ 64 → (0 < n) × (n ≤ 64)
few_there files read n same long some few =
    let count = count_is files in
    let all : length read ≡ length files = ap length same in
    (omega (arith, long, count, all, some), omega (arith, long, count, all, few))

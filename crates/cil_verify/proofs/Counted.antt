-- How many rows a table has in the first files.
use Rattle.std.proofs.Common.{◌≡◌, ℕ, zero, suc, ◌+◌, List, [], ◌∷◌, map, take, slice_get, refl, ap, arith}
use Rattle.std.proofs.lemmas.List.Sums.{sum_by-cons}
use Rattle.std.specs.Option.{option_map_or}
use Rattle.metadata.specs.declared.schema.Table.{Table}
use Rattle.cli_assembly.specs.Assemblies.{assembly_of, row_count}
use Rattle.type_world.specs.World.{rows_of_world}
use Rattle.type_world.specs.Loading.{world_of}

abbrev rows_in : List (List ℕ) → Table → ℕ
rows_in files table = rows_of_world (world_of files) table

pub no_rows : (table : Table) → rows_of_world (world_of []) table ≡ 0
unfolding rows_of_world world_of
no_rows table = refl

rows_cons : (file : List ℕ) (files : List (List ℕ)) (table : Table)
    → rows_in (file ∷ files) table ≡ row_count (assembly_of file) table + rows_in files table
unfolding rows_of_world world_of
rows_cons file files table = sum_by-cons (λ assembly. row_count assembly table) (assembly_of file) (map assembly_of files)

abbrev pub rows_there : List (List ℕ) → ℕ → Table → ℕ
rows_there files i table = option_map_or (λ file. row_count (assembly_of file) table) (slice_get files i) 0

pub one_more : (files : List (List ℕ)) (i : ℕ) (table : Table)
    → rows_of_world (world_of (take (i + 1) files)) table ≡ rows_of_world (world_of (take i files)) table + rows_there files i table
one_more [] zero table = let none = no_rows table in omega (arith, none)
one_more [] (suc i) table =
    let next : suc i + 1 ≡ suc (i + 1) = omega arith in
    let more : rows_in (take (suc i + 1) []) table ≡ rows_in [] table = ap (λ n. rows_in (take n []) table) next in
    let none = no_rows table in
    omega (arith, more, none)
one_more (f ∷ files) zero table =
    let first = rows_cons f [] table in
    let none = no_rows table in
    omega (arith, first, none)
one_more (f ∷ files) (suc i) table =
    let next : suc i + 1 ≡ suc (i + 1) = omega arith in
    let more : rows_in (take (suc i + 1) (f ∷ files)) table ≡ rows_in (f ∷ take (i + 1) files) table =
    ap (λ n. rows_in (take n (f ∷ files)) table) next in
    let longer = rows_cons f (take (i + 1) files) table in
    let shorter = rows_cons f (take i files) table in
    let rest = one_more files i table in
    omega (arith, more, longer, shorter, rest)

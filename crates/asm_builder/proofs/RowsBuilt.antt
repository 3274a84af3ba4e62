-- What the record of an assembly has in a row that spells cells.
use Rattle.std.proofs.Common.{◌≡◌, ◌+◌, ℕ, zero, suc, true, cond, List, [], ◌∷◌}
use Rattle.std.proofs.Common.{length, map, get_or, Option, Some, None, refl, sym, ap, ◌∙◌, subst, arith}
use Rattle.std.specs.Prelude.{nat_le, nat_lt, slice_get}
use Rattle.std.specs.List.{AllZip}
use Rattle.std.specs.Option.{option_and_then, option_map}
use Rattle.std.proofs.lemmas.Bool.{and_from, le-leb, lt-ltb}
use Rattle.std.proofs.lemmas.Option.{slice_get-map, slice_get_within}
use Rattle.metadata.specs.declared.schema.Table.{Table}
use Rattle.cli_assembly.specs.Assemblies.{Assembly, blob_at, column, has_row, row_count, signature_at, table_in}
use Rattle.asm_builder.specs.Built.{HasRows, Names}
use Rattle.asm_builder.specs.Cells.{Cell}

-- what holds of two lists holds at each place
pub zip_at : {A B : Type 0} (R : A → B → Type 0) (xs : List A) (ys : List B) (i : ℕ) (x : A) (d : B) → AllZip R xs ys
    → slice_get xs i ≡ Some x → R x (get_or ys i d)
zip_at R [] ys i x d all e = absurd (let h : ⊥ = cc in h)
zip_at R (z ∷ xs) [] i x d all e = absurd all
zip_at R (z ∷ xs) (y ∷ ys) zero x d all e = let same : z ≡ x = cc in subst (λ w. R w y) same all.0
zip_at R (z ∷ xs) (y ∷ ys) (suc i) x d all e = zip_at R xs ys i x d all.1 e

pub zip_length : {A B : Type 0} (R : A → B → Type 0) (xs : List A) (ys : List B) → AllZip R xs ys → length xs ≡ length ys
zip_length R [] [] all = refl
zip_length R [] (y ∷ ys) all = absurd all
zip_length R (x ∷ xs) [] all = absurd all
zip_length R (x ∷ xs) (y ∷ ys) all = let rest = zip_length R xs ys all.1 in omega (arith, rest)

column_is : (a : Assembly) (table : Table) (i n : ℕ) → column a table (i + 1) n ≡ get_or (get_or (table_in a table) i []) n 0
unfolding column
column_is a table i n = let next : i + 1 ≡ suc i = omega arith in ap (λ k. get_or (get_or ([] ∷ table_in a table) k []) n 0) next

-- a row from 1, and each of its columns
module _ (a : Assembly) (table : Table) (cells : List (List Cell)) (are : HasRows a cells (table_in a table)) (i : ℕ)
    (row : List Cell) (at : slice_get cells i ≡ Some row) where
  pub cell_at : (n : ℕ) (cell : Cell) → slice_get row n ≡ Some cell → Names a cell (column a table (i + 1) n)
  cell_at n cell e =
      subst (λ v. Names a cell v) (sym (column_is a table i n))
      (zip_at (Names a) row (get_or (table_in a table) i []) n cell 0
      (zip_at (AllZip (Names a)) cells (table_in a table) i row [] are at) e)

  pub row_there : has_row a table (i + 1) ≡ true
  row_there =
      let count = zip_length (AllZip (Names a)) cells (table_in a table) are in
      let within = slice_get_within cells i row at in
      and_from (nat_lt 0 (i + 1)) (nat_le (i + 1) (row_count a table)) (lt-ltb _ _ (omega arith))
      (le-leb _ _ (omega (arith, count, within)))

pub read_signature : {X : Type 0} (read : List ℕ → Option X) (a : Assembly) (table : Table) (row n : ℕ) (bytes : List ℕ)
    (x : X) → has_row a table row ≡ true
    → blob_at a (column a table row n) ≡ Some bytes → read bytes ≡ Some x → signature_at read a table row n ≡ Some x
read_signature read a table row n bytes x there blob back =
    ap (λ b. cond b (option_and_then read (blob_at a (column a table row n))) None) there ∙ ap (option_and_then read) blob ∙ back

pub map_at : {X : Type 0} (cells : X → List Cell) (xs : List X) (i : ℕ) (x : X) → slice_get xs i ≡ Some x
    → slice_get (map cells xs) i ≡ Some (cells x)
map_at cells xs i x e = slice_get-map cells xs i ∙ ap (option_map cells) e

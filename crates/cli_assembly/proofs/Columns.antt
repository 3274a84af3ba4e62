-- What the metadata finds in a column is what the record of an assembly has there, for each row and column: 0 where there is none.
use Rattle.std.proofs.Common.{◌≡◌, ℕ, zero, suc, ◌<◌, ◌≤◌, ◌&&◌, ⊎_elim, Bool, true, false, cond, List, [], ◌∷◌}
use Rattle.std.proofs.Common.{length, get_or, map, Some, None, refl, sym, ap, ◌∙◌, arith}
use Rattle.std.specs.Prelude.{nat_le, nat_lt, unwrap_or}
use Rattle.std.specs.List.{range_with_len}
use Rattle.std.proofs.lemmas.Bool.{cases_lt, le-leb, lt-leb, le-ltb, lt-ltb}
use Rattle.std.proofs.lemmas.List.{get_or_past}
use Rattle.std.proofs.lemmas.List.FromFn.{get_or-map-range_with_len, length-map-range_with_len}
use Rattle.metadata.specs.declared.schema.Table.{Table}
use Rattle.metadata.specs.Schema.{columns_of, table_number}
use Rattle.metadata.specs.Tables.{Layout, column_of, has_column, number_of, row_of, rows_of, table_of}
use Rattle.cli_assembly.specs.Assemblies.{assembly_by, assembly_of, column}
use Rattle.cli_assembly.specs.Kept.{file_layout}
use Rattle.cli_assembly.proofs.Coded.{few}
use Rattle.cli_assembly.proofs.Records.{tables_are}

-- an item of a list of so many numbers, and 0 after the last
item_is : (f : ℕ → ℕ) (n i : ℕ) → get_or (map f (range_with_len 0 n)) i 0 ≡ cond (nat_lt i n) (f i) 0
item_is f n i =
    ⊎_elim (λ lt. get_or-map-range_with_len f 0 n i i 0 lt (omega arith) ∙ sym (ap (λ b. cond b (f i) 0) (lt-ltb i n lt)))
    (λ past. get_or_past (map f (range_with_len 0 n)) i 0 (omega (arith, past, length-map-range_with_len f 0 n))
    ∙ sym (ap (λ b. cond b (f i) 0) (le-ltb i n past)))
    (cases_lt i n)

-- a number of a row, where there are such a row and such a column
abbrev number_there : List ℕ → Layout → ℕ → ℕ → ℕ → ℕ
number_there bytes layout t row n = cond (has_column layout t row n) (number_of bytes layout t row n) 0

in_row : (bytes : List ℕ) (layout : Layout) (t row n : ℕ) → get_or (row_of bytes layout t row) n 0
    ≡ cond (nat_lt n (length (columns_of t))) (number_of bytes layout t row n) 0
in_row bytes layout t row n = item_is (number_of bytes layout t row) (length (columns_of t)) n

is_there : (layout : Layout) (t i n : ℕ) (last : Bool) → nat_le (suc i) (rows_of layout t) ≡ last
    → has_column layout t (suc i) n ≡ (last && nat_lt n (length (columns_of t)))
is_there layout t i n last e =
    let first : nat_le 1 (suc i) ≡ true = le-leb 1 (suc i) (omega arith) in
    ap (λ b. b && (nat_le (suc i) (rows_of layout t) && nat_lt n (length (columns_of t)))) first
    ∙ ap (λ b. b && nat_lt n (length (columns_of t))) e

row_there : (bytes : List ℕ) (layout : Layout) (t i n : ℕ) → i < rows_of layout t
    → get_or (get_or (table_of bytes layout t) i []) n 0 ≡ number_there bytes layout t (suc i) n
unfolding table_of
row_there bytes layout t i n lt =
    ap (λ (l : List ℕ). get_or l n 0) (get_or-map-range_with_len (row_of bytes layout t) 1 (rows_of layout t) i (suc i) [] lt (omega arith))
    ∙ in_row bytes layout t (suc i) n
    ∙ sym (ap (λ b. cond b (number_of bytes layout t (suc i) n) 0)
    (is_there layout t i n true (le-leb (suc i) (rows_of layout t) (omega (arith, lt)))))

no_row_there : (bytes : List ℕ) (layout : Layout) (t i n : ℕ) → rows_of layout t ≤ i
    → get_or (get_or (table_of bytes layout t) i []) n 0 ≡ number_there bytes layout t (suc i) n
unfolding table_of
no_row_there bytes layout t i n past =
    ap (λ (l : List ℕ). get_or l n 0) (get_or_past (map (row_of bytes layout t) (range_with_len 1 (rows_of layout t))) i []
    (omega (arith, past, length-map-range_with_len (row_of bytes layout t) 1 (rows_of layout t))))
    ∙ sym (ap (λ b. cond b (number_of bytes layout t (suc i) n) 0)
    (is_there layout t i n false (lt-leb (suc i) (rows_of layout t) (omega (arith, past)))))

row_by_number : (bytes : List ℕ) (layout : Layout) (t row n : ℕ) → get_or (get_or ([] ∷ table_of bytes layout t) row []) n 0
    ≡ number_there bytes layout t row n
row_by_number bytes layout t zero n = refl
row_by_number bytes layout t (suc i) n =
    ⊎_elim (row_there bytes layout t i n) (no_row_there bytes layout t i n) (cases_lt i (rows_of layout t))

number_or : (b : Bool) (n : ℕ) → unwrap_or (cond b (Some n) None) 0 ≡ cond b n 0
number_or true n = refl
number_or false n = refl

column_by : (bytes : List ℕ) (layout : Layout) (table : Table) (row n : ℕ)
    → unwrap_or (column_of bytes layout (table_number table) row n) 0 ≡ column (assembly_by bytes layout) table row n
unfolding column column_of
column_by bytes layout table row n =
    number_or (has_column layout (table_number table) row n) (number_of bytes layout (table_number table) row n)
    ∙ sym (row_by_number bytes layout (table_number table) row n)
    ∙ sym (ap (λ (l : List (List ℕ)). get_or (get_or ([] ∷ l) row []) n 0) (tables_are bytes layout table (few table)))

pub columns_are : (bytes : List ℕ) (table : Table) (row n : ℕ)
    → unwrap_or (column_of bytes (file_layout bytes) (table_number table) row n) 0 ≡ column (assembly_of bytes) table row n
unfolding assembly_of
columns_are bytes table row n = column_by bytes (file_layout bytes) table row n

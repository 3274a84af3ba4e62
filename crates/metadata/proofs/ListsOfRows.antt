-- A table as the list of its rows.
use Rattle.std.proofs.Common.{◌≡◌, ℕ, ◌+◌, ◌<◌, ◌≤◌, true, cond, ◌&&◌, List, [], length, get_or, Some, sym, ap, ◌∙◌, arith}
use Rattle.std.specs.Prelude.{nat_le, nat_lt, None}
use Rattle.std.proofs.lemmas.Bool.{le-leb, lt-ltb}
use Rattle.std.proofs.lemmas.List.FromFn.{get_or-map-range_with_len, length-map-range_with_len}
use Rattle.metadata.specs.Schema.{columns_of}
use Rattle.metadata.specs.Tables.{Layout, column_of, number_of, row_of, rows_of, table_of}

pub rows_in : (bytes : List ℕ) (layout : Layout) (table : ℕ) → length (table_of bytes layout table) ≡ rows_of layout table
unfolding table_of
rows_in bytes layout table = length-map-range_with_len (row_of bytes layout table) 1 (rows_of layout table)

row_in : (bytes : List ℕ) (layout : Layout) (table row : ℕ) → row < rows_of layout table
    → get_or (table_of bytes layout table) row [] ≡ row_of bytes layout table (row + 1)
unfolding table_of
row_in bytes layout table row lt =
    get_or-map-range_with_len (row_of bytes layout table) 1 (rows_of layout table) row (row + 1) [] lt (omega arith)

pub columns_in_row : (bytes : List ℕ) (layout : Layout) (table row : ℕ) → row < rows_of layout table
    → length (get_or (table_of bytes layout table) row []) ≡ length (columns_of table)
columns_in_row bytes layout table row lt =
    ap (λ (l : List ℕ). length l) (row_in bytes layout table row lt)
    ∙ length-map-range_with_len (number_of bytes layout table (row + 1)) 0 (length (columns_of table))

there : (bytes : List ℕ) (layout : Layout) (table row column : ℕ) → 1 ≤ row → row ≤ rows_of layout table
    → column < length (columns_of table) → column_of bytes layout table row column ≡ Some (number_of bytes layout table row column)
unfolding column_of
there bytes layout table row column first last below =
    let a : nat_le 1 row ≡ true = le-leb _ _ first in
    let b : nat_le row (rows_of layout table) ≡ true = le-leb _ _ last in
    let d : nat_lt column (length (columns_of table)) ≡ true = lt-ltb _ _ below in
    ap (λ x. cond (x && (nat_le row (rows_of layout table) && nat_lt column (length (columns_of table))))
    (Some (number_of bytes layout table row column)) None) a
    ∙ ap (λ x. cond (x && nat_lt column (length (columns_of table))) (Some (number_of bytes layout table row column)) None) b
    ∙ ap (λ x. cond x (Some (number_of bytes layout table row column)) None) d

pub column_in : (bytes : List ℕ) (layout : Layout) (table row column : ℕ) → row < rows_of layout table
    → column < length (columns_of table)
    → column_of bytes layout table (row + 1) column ≡ Some (get_or (get_or (table_of bytes layout table) row []) column 0)
column_in bytes layout table row column lt below =
    there bytes layout table (row + 1) column (omega arith) (omega arith) below
    ∙ ap Some (sym (ap (λ (l : List ℕ). get_or l column 0) (row_in bytes layout table row lt)
    ∙ get_or-map-range_with_len (number_of bytes layout table (row + 1)) 0 (length (columns_of table)) column column 0 below (omega arith)))

-- The record of an assembly has what the tables and heaps of the metadata have.
use Rattle.std.proofs.Common.{◌≡◌, ℕ, suc, ◌+◌, ◌<◌, List, [], length, get_or, refl, ap, ◌∙◌, arith}
use Rattle.std.proofs.lemmas.List.FromFn.{get_or-map-range_with_len, length-map-range_with_len}
use Rattle.metadata.specs.declared.schema.Table.{Table}
use Rattle.metadata.specs.Schema.{columns_of, table_number}
use Rattle.metadata.specs.Heaps.{blob_of, string_of, user_string_of}
use Rattle.metadata.specs.Tables.{Layout, number_of, row_of, rows_of, table_of}
use Rattle.cli_assembly.specs.Assemblies.{assembly_by, assembly_of, blob_at, column, row_count, string_at, table_in, user_string_at}
use Rattle.cli_assembly.specs.Kept.{file_layout}

-- ---- heaps

pub strings_are : (bytes : List ℕ) (layout : Layout) (at : ℕ) → string_at (assembly_by bytes layout) at ≡ string_of bytes layout at
unfolding assembly_by string_at string_of
strings_are bytes layout at = refl

pub blobs_are : (bytes : List ℕ) (layout : Layout) (at : ℕ) → blob_at (assembly_by bytes layout) at ≡ blob_of bytes layout at
unfolding assembly_by blob_at blob_of
blobs_are bytes layout at = refl

user_strings_are : (bytes : List ℕ) (layout : Layout) (at : ℕ)
    → user_string_at (assembly_by bytes layout) at ≡ user_string_of bytes layout at
unfolding assembly_by user_string_at user_string_of
user_strings_are bytes layout at = refl

-- those of a file
pub file_strings : (bytes : List ℕ) (at : ℕ) → string_at (assembly_of bytes) at ≡ string_of bytes (file_layout bytes) at
unfolding assembly_of
file_strings bytes at = strings_are bytes (file_layout bytes) at

pub file_blobs : (bytes : List ℕ) (at : ℕ) → blob_at (assembly_of bytes) at ≡ blob_of bytes (file_layout bytes) at
unfolding assembly_of
file_blobs bytes at = blobs_are bytes (file_layout bytes) at

pub file_user_strings : (bytes : List ℕ) (at : ℕ) → user_string_at (assembly_of bytes) at ≡ user_string_of bytes (file_layout bytes) at
unfolding assembly_of
file_user_strings bytes at = user_strings_are bytes (file_layout bytes) at

-- ---- tables

pub tables_are : (bytes : List ℕ) (layout : Layout) (table : Table) → table_number table < 64
    → table_in (assembly_by bytes layout) table ≡ table_of bytes layout (table_number table)
unfolding assembly_by
tables_are bytes layout table few =
    get_or-map-range_with_len (table_of bytes layout) 0 64 (table_number table) (table_number table) [] few (omega arith)

pub rows_are : (bytes : List ℕ) (layout : Layout) (table : Table) → table_number table < 64
    → row_count (assembly_by bytes layout) table ≡ rows_of layout (table_number table)
unfolding table_of
rows_are bytes layout table few =
    ap (λ (l : List (List ℕ)). length l) (tables_are bytes layout table few)
    ∙ length-map-range_with_len (row_of bytes layout (table_number table)) 1 (rows_of layout (table_number table))

-- a column of a row that is there
row_is : (bytes : List ℕ) (layout : Layout) (t row : ℕ) → row < rows_of layout t
    → get_or (table_of bytes layout t) row [] ≡ row_of bytes layout t (row + 1)
unfolding table_of
row_is bytes layout t row lt = get_or-map-range_with_len (row_of bytes layout t) 1 (rows_of layout t) row (row + 1) [] lt (omega arith)

number_is : (bytes : List ℕ) (layout : Layout) (t row n : ℕ) → n < length (columns_of t)
    → get_or (row_of bytes layout t row) n 0 ≡ number_of bytes layout t row n
number_is bytes layout t row n lt =
    get_or-map-range_with_len (number_of bytes layout t row) 0 (length (columns_of t)) n n 0 lt (omega arith)

pub column_is : (bytes : List ℕ) (layout : Layout) (table : Table) (row n : ℕ) → table_number table < 64
    → row < rows_of layout (table_number table)
    → n < length (columns_of (table_number table))
    → column (assembly_by bytes layout) table (suc row) n ≡ number_of bytes layout (table_number table) (row + 1) n
unfolding column
column_is bytes layout table row n few lt below =
    ap (λ (l : List (List ℕ)). get_or (get_or l row []) n 0) (tables_are bytes layout table few)
    ∙ (ap (λ (l : List ℕ). get_or l n 0) (row_is bytes layout (table_number table) row lt)
    ∙ number_is bytes layout (table_number table) (row + 1) n below)

-- The columns of an assembly that passes all checks name what is there.
use Rattle.std.proofs.Common.{◌≡◌, Bor, ℕ, zero, suc, ◌+◌, ◌<◌, true, false, List, Option, Some, None, refl, sym, ap, ◌∙◌, subst, arith}
use Rattle.std.specs.Prelude.{is_some, nat_le, option_copied, unwrap_or}
use Rattle.metadata.specs.declared.schema.Heap.TheVariants as heaps
use Rattle.metadata.specs.declared.schema.Table.TheVariants as tables
use Rattle.metadata.specs.declared.schema.ColumnKind.{ColumnKind}
use Rattle.metadata.specs.declared.schema.ColumnKind.TheVariants as columns
use Rattle.metadata.specs.Checks.{kind_of}
use Rattle.metadata.specs.Heaps.{is_valid}
use Rattle.metadata.specs.Schema.{columns_of, table_number}
use Rattle.metadata.specs.Tables.{Layout, layout_of, number_of, rows_of}
use Rattle.cli_assembly.specs.Assemblies.{assembly_by, assembly_name, assembly_of, column, row_count, string_at}
use Rattle.cli_assembly.specs.Checks.{metadata_of}
use Rattle.cli_assembly.specs.Named.{AreNamed, IsOneAssembly, IsWellFormed, is_named}
use Rattle.cli_assembly.proofs.Coded.{coded_token_is, few}
use Rattle.cli_assembly.proofs.Passed.{Passes, column_valid, metadata_pass, one_manifest, one_module, passes}
use Rattle.cli_assembly.proofs.Records.{blobs_are, column_is, rows_are, strings_are}

named_by : (bytes : List ℕ) (layout : Layout) (kind : ColumnKind) (value : ℕ) → is_valid bytes layout kind value ≡ true
    → is_named (assembly_by bytes layout) kind value ≡ true
unfolding is_valid
named_by bytes layout columns.UInt16 value e = refl
named_by bytes layout columns.UInt32 value e = refl
named_by bytes layout (columns.Heap heaps.Strings) value e = ap is_some (strings_are bytes layout value) ∙ e
named_by bytes layout (columns.Heap heaps.Guids) value e = refl
named_by bytes layout (columns.Heap heaps.Blobs) value e = ap is_some (blobs_are bytes layout value) ∙ e
named_by bytes layout (columns.Row table) value e = ap (λ n. nat_le value n) (rows_are bytes layout table (few table)) ∙ e
named_by bytes layout (columns.Coded kind) value e = ap is_some (coded_token_is bytes layout kind value) ∙ e
named_by bytes layout (columns.List table) value e = ap (λ n. nat_le value (n + 1)) (rows_are bytes layout table (few table)) ∙ e

named : (bytes : List ℕ) (layout : Layout) → Passes bytes layout → AreNamed (assembly_by bytes layout)
named bytes layout p table zero n first last below = absurd (omega (arith, first))
named bytes layout p table (suc row) n first last below =
    let kind = kind_of (table_number table) n in
    let rows : row_count (assembly_by bytes layout) table ≡ rows_of layout (table_number table) = rows_are bytes layout table (few table) in
    let inside : row < rows_of layout (table_number table) = omega (arith, rows, last) in
    let valid : is_valid bytes layout kind (number_of bytes layout (table_number table) (row + 1) n) ≡ true =
    column_valid bytes layout (table_number table) (row + 1) n p (few table) (omega arith) (omega (arith, inside)) below in
    let here : column (assembly_by bytes layout) table (suc row) n ≡ number_of bytes layout (table_number table) (row + 1) n =
    column_is bytes layout table row n (few table) inside below in
    named_by bytes layout kind (column (assembly_by bytes layout) table (suc row) n)
    (subst (λ v. is_valid bytes layout kind v ≡ true) (sym here) valid)

pub of_file : (bytes : List ℕ) → IsWellFormed bytes → Passes bytes (layout_of bytes (metadata_of bytes))
of_file bytes e = passes (metadata_of bytes) bytes (metadata_pass bytes e)

pub columns_named : (bytes : List ℕ) → IsWellFormed bytes → AreNamed (assembly_of bytes)
unfolding assembly_of
columns_named bytes e = named bytes (layout_of bytes (metadata_of bytes)) (of_file bytes e)

pub is_one : (bytes : List ℕ) → IsWellFormed bytes → IsOneAssembly (assembly_of bytes)
unfolding assembly_of
is_one bytes e =
    let layout = layout_of bytes (metadata_of bytes) in
    record {
      one_module = rows_are bytes layout tables.Module (few tables.Module) ∙ one_module bytes layout (of_file bytes e);
      one_manifest = rows_are bytes layout tables.Assembly (few tables.Assembly) ∙ one_manifest bytes layout (of_file bytes e);
    }

-- ---- the name

has_name : (bytes : List ℕ) → IsWellFormed bytes → is_some (assembly_name (assembly_of bytes)) ≡ true
unfolding assembly_name columns_of
has_name bytes e =
    let one = (is_one bytes e).one_manifest in
    columns_named bytes e tables.Assembly 1 7 (omega arith) (omega (arith, one)) (omega arith)

now_or : (o : Option (Bor (List ℕ))) (d : Bor (List ℕ)) (text : Option (List ℕ)) → option_copied o ≡ text → is_some text ≡ true
    → Some (unwrap_or o d).now ≡ text
now_or (Some r) d text e some = e
now_or None d text e some = absurd (let none : false ≡ true = ap is_some e ∙ some in let x : ⊥ = cc in x)

pub name_is : (bytes : List ℕ) (at : ℕ) (found : Option (Bor (List ℕ))) (other : Bor (List ℕ)) → IsWellFormed bytes
    → at ≡ column (assembly_of bytes) tables.Assembly 1 7
    → option_copied found ≡ string_at (assembly_of bytes) at → Some (unwrap_or found other).now ≡ assembly_name (assembly_of bytes)
unfolding assembly_name
name_is bytes at found other e place text =
    now_or found other (assembly_name (assembly_of bytes)) (text ∙ ap (string_at (assembly_of bytes)) place) (has_name bytes e)

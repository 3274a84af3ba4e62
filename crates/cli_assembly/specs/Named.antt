-- What an assembly that passes all checks promises of its rows: the number in each column names what is there.
use Rattle.std.specs.Prelude.{◌≡◌, ◌≤◌, ◌<◌, ℕ, ◌+◌, Bool, true, List, length, None, nat_le, is_some}
use Rattle.rtr_bytes.specs.Checks.{first_fault}
use Rattle.metadata.specs.declared.schema.Heap.TheVariants as heaps
use Rattle.metadata.specs.declared.schema.Heap.{Heap}
use Rattle.metadata.specs.declared.schema.Table.{Table}
use Rattle.metadata.specs.declared.schema.Table.TheVariants as tables
use Rattle.metadata.specs.declared.schema.ColumnKind.{ColumnKind}
use Rattle.metadata.specs.declared.schema.ColumnKind.TheVariants as columns
use Rattle.metadata.specs.Schema.{columns_of, table_number}
use Rattle.metadata.specs.Checks.{kind_of}
use Rattle.cli_assembly.specs.Assemblies.{Assembly, blob_at, coded_token, column, list_end, list_start, row_count, string_at}
use Rattle.cli_assembly.specs.Checks.{assembly_checks}

-- a text, or a blob; nothing is said of the index of a GUID
abbrev pub is_named_in : Assembly → Heap → ℕ → Bool
is_named_in assembly heaps.Strings value = is_some (string_at assembly value)
is_named_in assembly heaps.Guids value = true
is_named_in assembly heaps.Blobs value = is_some (blob_at assembly value)

-- what a number in a column of a kind names is there (ECMA-335 II.24.2.6): an index into a table is at most its rows, the start of a
-- list at most one more, and a coded index has a token
abbrev pub is_named : Assembly → ColumnKind → ℕ → Bool
is_named assembly columns.UInt16 value = true
is_named assembly columns.UInt32 value = true
is_named assembly (columns.Heap heap) value = is_named_in assembly heap value
is_named assembly (columns.Row table) value = nat_le value (row_count assembly table)
is_named assembly (columns.Coded kind) value = is_some (coded_token assembly kind value)
is_named assembly (columns.List table) value = nat_le value (row_count assembly table + 1)

-- each column of each row, rows from 1 and columns from 0
abbrev pub AreNamed : Assembly → Type 0
AreNamed assembly = (table : Table) (row n : ℕ) → 1 ≤ row → row ≤ row_count assembly table → n < length (columns_of (table_number table))
    → is_named assembly (kind_of (table_number table) n) (column assembly table row n) ≡ true

-- an assembly is one module with one manifest (II.22.2 and II.22.30)
pub record IsOneAssembly (assembly : Assembly) : Type 0 where
  pub one_module : row_count assembly tables.Module ≡ 1
  pub one_manifest : row_count assembly tables.Assembly ≡ 1

-- the list of each type ends where it begins or after, and in the listed table or at its end: no row is of two types
abbrev pub Ascends : Assembly → Table → ℕ → Type 0
Ascends assembly listed n = (row : ℕ) → (list_start assembly row n ≤ list_end assembly listed row n)
    × (list_end assembly listed row n ≤ row_count assembly listed + 1)

-- FieldList and MethodList of TypeDef (II.22.37)
pub record ListsAscend (assembly : Assembly) : Type 0 where
  pub fields : Ascends assembly tables.Field 4
  pub methods : Ascends assembly tables.MethodDef 5

-- the bytes pass all checks of an assembly
abbrev pub IsWellFormed : List ℕ → Type 0
IsWellFormed bytes = first_fault (assembly_checks bytes) bytes ≡ None

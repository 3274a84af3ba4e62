-- What the reader keeps, to find each column without a walk.
use Rattle.std.specs.Prelude.{◌≡◌, ◌≤◌, ◌^◌, ℕ, ◌+◌, ◌-◌, ◌*◌, ◌&&◌, Bool, nat_lt, unwrap_or, List, [], ◌∷◌, length}
use Rattle.std.specs.Prelude.{map, sum_by, Option, Some, None, Result, Ok, Err, slice_get}
use Rattle.rtr_bytes.specs.declared.fault.Fault.{Fault}
use Rattle.rtr_bytes.specs.declared.fault.Span.{Span}
use Rattle.rtr_bytes.specs.Checks.{fault_or, holds_or}
use Rattle.rtr_bytes.specs.Field.{field_at}
use Rattle.metadata.specs.declared.judge.Judge.{Judge}
use Rattle.metadata.specs.declared.layout.ColumnLayout.{ColumnLayout}
use Rattle.metadata.specs.declared.layout.TableLayout.{TableLayout}
use Rattle.metadata.specs.declared.schema.ColumnKind.{ColumnKind}
use Rattle.metadata.specs.Checks.{all_rows_fit, bad_column, fallen_column, first_column, has_one_assembly, is_list, or_else}
use Rattle.metadata.specs.Heaps.{heap_bytes}
use Rattle.metadata.specs.Schema.{columns_of}
use Rattle.metadata.specs.Tables.{Layout, is_wide, row_size, rows_of, table_at, table_size, width, width_of}

-- the columns of a row one after the other, from an offset in it
abbrev pub column_layouts : Layout → ℕ → List ColumnKind → List ColumnLayout
column_layouts layout offset [] = []
column_layouts layout offset (kind ∷ kinds) =
    record { kind = kind; wide = is_wide layout kind; offset = offset } ∷ column_layouts layout (offset + width_of layout kind) kinds

abbrev pub size_of_columns : Layout → List ColumnKind → ℕ
size_of_columns layout kinds = sum_by (λ w. w) (map (width_of layout) kinds)

-- what is kept of a table; its rows end at a file offset
pub record IsTable (layout : Layout) (n : ℕ) (table : TableLayout) : Type 0 where
  pub number : table.number ≡ n
  pub at : table.at ≡ table_at layout n
  pub rows : table.rows ≡ rows_of layout n
  pub row_size : table.row.size ≡ row_size layout n
  pub columns : table.row.columns.items ≡ column_layouts layout 0 (columns_of n)
  pub inside : table_at layout n + table_size layout n ≤ 2 ^ 31

-- of the tables from 0 on
abbrev pub AreTablesSoFar : Layout → List TableLayout → Type 0
AreTablesSoFar layout tables = (n : ℕ) (table : TableLayout) → slice_get tables n ≡ Some table → IsTable layout n table

pub record AreTables (layout : Layout) (tables : List TableLayout) : Type 0 where
  pub all : length tables ≡ 64
  pub each : AreTablesSoFar layout tables

-- the first fault of the rows
abbrev pub fit_fault : Span → Layout → Option Fault
fit_fault stream layout = fault_or 40 (holds_or (all_rows_fit stream layout) stream.start) None

abbrev pub one_fault : Span → Layout → Option Fault
one_fault stream layout = fault_or 41 (holds_or (has_one_assembly layout) (stream.start + 8)) None

-- the first fault of the columns
abbrev pub column_fault : List ℕ → Layout → Option Fault
column_fault bytes layout =
    fault_or 42 (first_column layout (bad_column bytes layout)) (fault_or 43 (first_column layout (fallen_column bytes layout)) None)

-- and of both and the columns
abbrev pub layout_fault : List ℕ → Span → Layout → Option Fault
layout_fault bytes stream layout =
    fault_or 40 (holds_or (all_rows_fit stream layout) stream.start)
    (fault_or 41 (holds_or (has_one_assembly layout) (stream.start + 8)) (column_fault bytes layout))

-- What is known after some columns were judged: none is bad, and the first that falls, or that was known to fall before, is
-- kept; or the place of the first bad one.
abbrev pub IsJudged : Option ℕ → Option ℕ → Option ℕ → Result (Option ℕ) Fault → Type 0
IsJudged bad falls before (Ok after) = (bad ≡ None) × (after ≡ or_else before falls)
IsJudged bad falls before (Err fault) = (fault.check ≡ 42) × (bad ≡ Some fault.place)

-- the number of a list column is less than that of the row before
abbrev pub falls_from : List ℕ → ℕ → ℕ → ℕ → ColumnLayout → ℕ → Bool
falls_from bytes at size row column number =
    (is_list column.kind && nat_lt 1 row)
    && nat_lt number (unwrap_or (field_at (width column.wide) bytes (at + (row - 1 - 1) * size + column.offset)) 0)

-- the judge has the texts of the heap
pub record IsReady (judge : Judge) : Type 0 where
  pub small : length judge.bytes.now ≤ 2 ^ 31
  pub texts : judge.texts.now ≡ heap_bytes judge.bytes.now judge.places.now.strings

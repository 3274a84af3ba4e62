-- What a file's bytes stand for as an assembly: its tables as lists of rows, its heaps, its bodies, the flags of its CLI header and
-- its entry token. Everything above this crate is defined on this record, and looks into no bytes.
use Rattle.std.specs.Prelude.{ℕ, ◌+◌, ◌-◌, ◌/◌, ◌%◌, ◌^◌, ◌==◌, ◌&&◌, Bool, List, [], ◌∷◌, length, max, map, get_or}
use Rattle.std.specs.Prelude.{drop, Option, Some, None, if◌then◌else◌, nat_le, nat_lt}
use Rattle.std.specs.Option.{option_map, option_and_then}
use Rattle.std.specs.List.{range_with_len}
use Rattle.pe_image.specs.Headers.{headers_of}
use Rattle.metadata.specs.declared.schema.Table.{Table}
use Rattle.metadata.specs.declared.schema.Table.TheVariants as tables
use Rattle.metadata.specs.declared.schema.CodedKind.{CodedKind}
use Rattle.metadata.specs.Schema.{table_number, tag_bits, tagged_table}
use Rattle.metadata.specs.Heaps.{blob_in, heap_bytes, text_in, token, without_last}
use Rattle.metadata.specs.Tables.{Layout, layout_of, rows_of, table_of}
use Rattle.cli_assembly.specs.declared.body.Body.{Body}
use Rattle.cli_assembly.specs.declared.signature.TypeSig.{TypeSig}
use Rattle.cli_assembly.specs.declared.signature.MethodSig.{MethodSig}
use Rattle.cli_assembly.specs.Bodies.{MethodBody, body_at, placed_body, with_code}
use Rattle.cli_assembly.specs.Checks.{has_cil_body, metadata_of, method_rva}
use Rattle.cli_assembly.specs.Signatures.{field_sig_of, local_sig_of, method_sig_of}

-- An assembly. There are 64 tables, by number; a row is the list of its columns' numbers (ECMA-335 II.22). The bodies are by row of
-- MethodDef: none for a row without CIL.
pub record Assembly : Type 0 where
  pub tables : List (List (List ℕ))
  pub strings : List ℕ
  pub user_strings : List ℕ
  pub guids : List ℕ
  pub blobs : List ℕ
  pub bodies : List (Option MethodBody)
  pub flags : ℕ
  pub entry_token : ℕ

-- ---- the assembly of a file's bytes, each part at its own place

-- where a row's body is in the file; none for a row without CIL
unfoldable pub placed_in : List ℕ → Layout → ℕ → Option Body
placed_in bytes layout row = if has_cil_body bytes layout row then placed_body (body_at bytes (method_rva bytes layout row)) else None

abbrev pub body_in : List ℕ → Layout → ℕ → Option MethodBody
body_in bytes layout row = option_map (with_code bytes) (placed_in bytes layout row)

unfoldable pub bodies_in : List ℕ → Layout → List (Option MethodBody)
bodies_in bytes layout = map (body_in bytes layout) (range_with_len 1 (rows_of layout (table_number tables.MethodDef)))

unfoldable pub assembly_by : List ℕ → Layout → Assembly
assembly_by bytes layout = record {
  tables = map (table_of bytes layout) (range_with_len 0 64);
  strings = heap_bytes bytes layout.strings;
  user_strings = heap_bytes bytes layout.user_strings;
  guids = heap_bytes bytes layout.guids;
  blobs = heap_bytes bytes layout.blobs;
  bodies = bodies_in bytes layout;
  flags = (headers_of bytes).cli_flags;
  entry_token = (headers_of bytes).entry_token;
}

unfoldable pub assembly_of : List ℕ → Assembly
assembly_of bytes = assembly_by bytes (layout_of bytes (metadata_of bytes))

-- ---- rows, from 1

abbrev pub table_in : Assembly → Table → List (List ℕ)
table_in assembly table = get_or assembly.tables (table_number table) []

abbrev pub row_count : Assembly → Table → ℕ
row_count assembly table = length (table_in assembly table)

abbrev pub has_row : Assembly → Table → ℕ → Bool
has_row assembly table row = nat_lt 0 row && nat_le row (row_count assembly table)

-- the number in a column of a row, columns from 0; 0 where there is no such row or column
unfoldable pub column : Assembly → Table → ℕ → ℕ → ℕ
column assembly table row n = get_or (get_or ([] ∷ table_in assembly table) row []) n 0

-- ---- heaps

-- the text, the blob and the user string at an offset (II.24.2.3 and II.24.2.4)
unfoldable pub string_at : Assembly → ℕ → Option (List ℕ)
string_at assembly at = if at == 0 then Some [] else text_in (drop at assembly.strings)

unfoldable pub blob_at : Assembly → ℕ → Option (List ℕ)
blob_at assembly at = if at == 0 then Some [] else blob_in (drop at assembly.blobs)

unfoldable pub user_string_at : Assembly → ℕ → Option (List ℕ)
user_string_at assembly at = option_and_then without_last (blob_in (drop at assembly.user_strings))

-- the token that a coded index names (II.24.2.6): row 0 is always there
abbrev pub row_token : Assembly → ℕ → Table → Option ℕ
row_token assembly row table = if nat_le row (row_count assembly table) then Some (token (table_number table) row) else None

unfoldable pub coded_token : Assembly → CodedKind → ℕ → Option ℕ
coded_token assembly kind value =
    option_and_then (row_token assembly (value / 2 ^ tag_bits kind)) (tagged_table kind (value % 2 ^ tag_bits kind))

-- ---- what the rows have, in the standard's names

-- Name of the one row of Assembly (II.22.2)
unfoldable pub assembly_name : Assembly → Option (List ℕ)
assembly_name assembly = string_at assembly (column assembly tables.Assembly 1 7)

-- a signature, by the column of a row that has its blob
abbrev pub signature_at : {X : Type 0} → (List ℕ → Option X) → Assembly → Table → ℕ → ℕ → Option X
signature_at read assembly table row n =
    if has_row assembly table row then option_and_then read (blob_at assembly (column assembly table row n)) else None

-- of a method, a field, and of locals: Signature of MethodDef, Field and StandAloneSig (II.22.26, II.22.15 and II.22.36)
unfoldable pub method_signature : Assembly → ℕ → Option MethodSig
method_signature assembly row = signature_at method_sig_of assembly tables.MethodDef row 4

unfoldable pub field_signature : Assembly → ℕ → Option TypeSig
field_signature assembly row = signature_at field_sig_of assembly tables.Field row 2

unfoldable pub local_signature : Assembly → ℕ → Option (List TypeSig)
local_signature assembly row = signature_at local_sig_of assembly tables.StandAloneSig row 0

-- of a MemberRef, as a method and as a field (II.22.25)
unfoldable pub member_method_signature : Assembly → ℕ → Option MethodSig
member_method_signature assembly row = signature_at method_sig_of assembly tables.MemberRef row 2

unfoldable pub member_field_signature : Assembly → ℕ → Option TypeSig
member_field_signature assembly row = signature_at field_sig_of assembly tables.MemberRef row 2

-- the body of a row of MethodDef; none where there is no such row, or it has no CIL
unfoldable pub body_of : Assembly → ℕ → Option MethodBody
body_of assembly row = get_or (None ∷ assembly.bodies) row None

-- the first row of a type's list; a list that begins at 0 begins at the first row (II.22.37)
abbrev pub list_start : Assembly → ℕ → ℕ → ℕ
list_start assembly row n = max 1 (column assembly tables.TypeDef row n)

-- the row after its last one: the first of the next type's list, or the end of the listed table
abbrev pub list_end : Assembly → Table → ℕ → ℕ → ℕ
list_end assembly listed row n =
    if nat_lt row (row_count assembly tables.TypeDef) then list_start assembly (row + 1) n else row_count assembly listed + 1

-- the rows from one up to another
abbrev pub rows_between : ℕ → ℕ → List ℕ
rows_between start end = range_with_len start (end - start)

abbrev pub list_rows : Assembly → Table → ℕ → ℕ → List ℕ
list_rows assembly listed row n = rows_between (list_start assembly row n) (list_end assembly listed row n)

-- FieldList and MethodList of a TypeDef row
unfoldable pub fields_of : Assembly → ℕ → List ℕ
fields_of assembly row = list_rows assembly tables.Field row 4

unfoldable pub methods_of : Assembly → ℕ → List ℕ
methods_of assembly row = list_rows assembly tables.MethodDef row 5

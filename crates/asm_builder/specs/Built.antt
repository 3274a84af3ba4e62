-- What an assembly has that was built from what was asked for.
use Rattle.std.specs.Prelude.{◌≡◌, ℕ, ◌+◌, ◌-◌, Bool, true, false, List, length, map, get_or, take, Option}
use Rattle.std.specs.Prelude.{Some, None, IsTrue, slice_get}
use Rattle.std.specs.List.{AllZip, range_with_len}
use Rattle.metadata.specs.declared.schema.Table.{Table}
use Rattle.cli_assembly.specs.Assemblies.{Assembly, assembly_name, blob_at, body_of, coded_token, field_signature}
use Rattle.cli_assembly.specs.Assemblies.{fields_of, local_signature, method_signature, methods_of, string_at, table_in}
use Rattle.cli_assembly.specs.Assemblies.{user_string_at}
use Rattle.cli_assembly.specs.Bodies.{MethodBody}
use Rattle.asm_builder.specs.declared.asked.Method.{Method}
use Rattle.asm_builder.specs.declared.asked.TypeDef.{TypeDef}
use Rattle.asm_builder.specs.Asked.{Asked}
use Rattle.asm_builder.specs.Cells.{Cell, Number, Text, Blob, Coded, cells_of, has_locals, is_empty, unit_bytes, user_heap}

-- ---- rows

-- a column's number is what was asked, or names it
abbrev pub Names : Assembly → Cell → ℕ → Type 0
Names a (Number n) value = value ≡ n
Names a (Text text) value = string_at a value ≡ Some text
Names a (Blob blob) value = blob_at a value ≡ Some blob
Names a (Coded kind token) value = coded_token a kind value ≡ Some token

-- the rows are those asked for, in their order, and no more
abbrev pub HasRows : Assembly → List (List Cell) → List (List ℕ) → Type 0
HasRows a asked rows = AllZip (AllZip (Names a)) asked rows

-- what is said of each item by its row, from 1
abbrev pub EachRow : {X : Type 0} → List X → (ℕ → X → Type 0) → Type 0
EachRow {X = X} items Has = (i : ℕ) (x : X) → slice_get items i ≡ Some x → Has (i + 1) x

-- ---- bodies

-- the token 0 is no locals, and else it is that of a row of StandAloneSig with their types
abbrev pub HasLocalsIf : Bool → Assembly → Method → ℕ → Type 0
HasLocalsIf true a m token = (row : ℕ) × (token ≡ 0x1100_0000 + row) × (local_signature a row ≡ Some m.locals)
HasLocalsIf false a m token = token ≡ 0

abbrev pub HasLocals : Assembly → Method → ℕ → Type 0
HasLocals a m token = HasLocalsIf (has_locals m) a m token

-- a method has a body exactly where it has code
abbrev pub HasBody : Assembly → Method → Option MethodBody → Type 0
HasBody a m None = IsTrue (is_empty m.code)
HasBody a m (Some body) =
    (is_empty m.code ≡ false) × (body.code ≡ m.code) × (body.max_stack ≡ m.max_stack) × (body.more ≡ false) × HasLocals a m body.locals

-- ---- the rows of a type: after those asked for before it, up to those before the next type

abbrev pub own_rows : List ℕ → ℕ → ℕ → List ℕ
own_rows before all i = let start = get_or before i 0 in range_with_len (start + 1) (get_or before (i + 1) all - start)

abbrev pub own_fields : Asked → ℕ → List ℕ
own_fields asked i = own_rows (map (λ (t : TypeDef). t.fields_before) asked.type_defs) (length asked.fields) i

abbrev pub own_methods : Asked → ℕ → List ℕ
own_methods asked i = own_rows (map (λ (t : TypeDef). t.methods_before) asked.type_defs) (length asked.methods) i

-- ---- all of it

pub record IsBuilt (asked : Asked) (entry : ℕ) (a : Assembly) : Type 0 where
  pub name : assembly_name a ≡ Some asked.name
  pub rows : (table : Table) → HasRows a (cells_of asked table) (table_in a table)
  pub fields : EachRow asked.fields (λ row f. field_signature a row ≡ Some f.sig)
  pub methods : EachRow asked.methods (λ row m. method_signature a row ≡ Some m.sig)
  pub bodies : EachRow asked.methods (λ row m. HasBody a m (body_of a row))
  pub field_lists : (i : ℕ) (t : TypeDef) → slice_get asked.type_defs i ≡ Some t → fields_of a (i + 1) ≡ own_fields asked i
  pub method_lists : (i : ℕ) (t : TypeDef) → slice_get asked.type_defs i ≡ Some t → methods_of a (i + 1) ≡ own_methods asked i
  -- the offset of a user string is where the heap ended before it
  pub user_strings : (i : ℕ) (units : List ℕ) → slice_get asked.user_strings i ≡ Some units
      → user_string_at a (length (user_heap (take i asked.user_strings))) ≡ Some (unit_bytes units)
  pub flags : a.flags ≡ 1
  pub entry_token : a.entry_token ≡ entry

-- What the columns of each row hold, in the words of what was asked: a number, a text, a blob, or the row that a token names.
use Rattle.std.specs.Prelude.{ℕ, ◌+◌, ◌*◌, ◌==◌, ◌&&◌, ◌||◌, not, nat_lt, Bool, true, false, List, []}
use Rattle.std.specs.Prelude.{◌∷◌, ◌++◌, length, map, filter, flat_map, if◌then◌else◌}
use Rattle.std.specs.List.{list_any, range_with_len}
use Rattle.byteorder.specs.Endian.{little_bytes}
use Rattle.rtr_bytes.specs.Compressed.{compressed_bytes}
use Rattle.metadata.specs.declared.schema.CodedKind.{CodedKind}
use Rattle.metadata.specs.declared.schema.CodedKind.TheVariants as kinds
use Rattle.metadata.specs.declared.schema.Table.{Table}
use Rattle.metadata.specs.declared.schema.Table.TheVariants as tables
use Rattle.metadata.specs.Schema.{table_number}
use Rattle.pe_image.specs.Places.{aligned}
use Rattle.cli_assembly.specs.Shortest.{field_sig_bytes, local_sig_bytes, method_sig_bytes}
use Rattle.asm_builder.specs.declared.asked.TypeRef.{TypeRef}
use Rattle.asm_builder.specs.declared.asked.TypeDef.{TypeDef}
use Rattle.asm_builder.specs.declared.asked.Field.{Field}
use Rattle.asm_builder.specs.declared.asked.Method.{Method}
use Rattle.asm_builder.specs.declared.asked.MemberRef.{MemberRef}
use Rattle.asm_builder.specs.declared.asked.Attribute.{Attribute}
use Rattle.asm_builder.specs.Asked.{Asked}

pub data Cell : Type 0 where
  Number : ℕ → Cell
  Text : List ℕ → Cell
  Blob : List ℕ → Cell
  Coded : CodedKind → ℕ → Cell

abbrev pub is_empty : {X : Type 0} → List X → Bool
is_empty [] = true
is_empty (x ∷ xs) = false

-- ---- bodies: each method with code has a fat header of 12 bytes, its code, and zeros up to a multiple of 4 (II.25.4)

-- the RVA of the first
abbrev pub bodies_rva : ℕ
bodies_rva = 0x2048

abbrev pub body_size : Method → ℕ
body_size m = if is_empty m.code then 0 else aligned 4 (12 + length m.code)

abbrev pub rva_of : ℕ → Method → ℕ
rva_of at m = if is_empty m.code then 0 else at

-- a method with code and locals has a row of StandAloneSig
abbrev pub has_locals : Method → Bool
has_locals m = not (is_empty m.code) && not (is_empty m.locals)

abbrev pub locals_of : List Method → List Method
locals_of methods = filter has_locals methods

-- ---- rows by table

abbrev pub module_cells : List ℕ → List Cell
module_cells name = Number 0 ∷ Text name ∷ Number 1 ∷ Number 0 ∷ Number 0 ∷ []

-- HashAlgId is SHA1; the version is 0.0.0.0, and there is no public key and no culture
abbrev pub assembly_cells : List ℕ → List Cell
assembly_cells name =
    Number 0x8004 ∷ Number 0 ∷ Number 0 ∷ Number 0 ∷ Number 0 ∷ Number 0 ∷ Blob [] ∷ Text name ∷ Text [] ∷ []

abbrev pub assembly_ref_cells : List ℕ → List Cell
assembly_ref_cells name =
    Number 0 ∷ Number 0 ∷ Number 0 ∷ Number 0 ∷ Number 0 ∷ Blob [] ∷ Text name ∷ Text [] ∷ Blob [] ∷ []

abbrev pub type_ref_cells : TypeRef → List Cell
type_ref_cells t = Coded kinds.ResolutionScope t.parent ∷ Text t.name ∷ Text t.space ∷ []

-- a type without a base extends the row 0 of TypeDef
abbrev pub base_cell : ℕ → Cell
base_cell base = if base == 0 then Number 0 else Coded kinds.TypeDefOrRef base

abbrev pub type_def_cells : TypeDef → List Cell
type_def_cells t =
    Number t.flags ∷ Text t.name ∷ Text t.space ∷ base_cell t.base ∷ Number (t.fields_before + 1) ∷ Number (t.methods_before + 1) ∷ []

abbrev pub field_cells : Field → List Cell
field_cells f = Number f.flags ∷ Text f.name ∷ Blob (field_sig_bytes f.sig) ∷ []

-- ImplFlags is 0: CIL, managed. No method has a row of Param.
abbrev pub method_cells : ℕ → Method → List Cell
method_cells at m =
    Number (rva_of at m) ∷ Number 0 ∷ Number m.flags ∷ Text m.name ∷ Blob (method_sig_bytes m.sig) ∷ Number 1 ∷ []

-- the rows of methods whose bodies are one after the other from an RVA on
abbrev pub method_rows : ℕ → List Method → List (List Cell)
method_rows at [] = []
method_rows at (m ∷ ms) = method_cells at m ∷ method_rows (at + body_size m) ms

abbrev pub member_ref_cells : MemberRef → List Cell
member_ref_cells m = Coded kinds.MemberRefParent m.parent ∷ Text m.name ∷ Blob m.sig ∷ []

abbrev pub attribute_cells : Attribute → List Cell
attribute_cells a = Coded kinds.HasCustomAttribute a.parent ∷ Coded kinds.CustomAttributeType a.constructor ∷ Blob a.value ∷ []

abbrev pub locals_cells : Method → List Cell
locals_cells m = Blob (local_sig_bytes m.locals) ∷ []

-- the rows of each table that has some
abbrev pub cells_of : Asked → Table → List (List Cell)
cells_of asked tables.Module = module_cells asked.name ∷ []
cells_of asked tables.TypeRef = map type_ref_cells asked.type_refs
cells_of asked tables.TypeDef = map type_def_cells asked.type_defs
cells_of asked tables.Field = map field_cells asked.fields
cells_of asked tables.MethodDef = method_rows bodies_rva asked.methods
cells_of asked tables.MemberRef = map member_ref_cells asked.member_refs
cells_of asked tables.CustomAttribute = map attribute_cells asked.attributes
cells_of asked tables.StandAloneSig = map locals_cells (locals_of asked.methods)
cells_of asked tables.Assembly = assembly_cells asked.name ∷ []
cells_of asked tables.AssemblyRef = map assembly_ref_cells asked.assembly_refs
cells_of asked table = []

-- the tables that a built assembly can have
abbrev pub built_tables : List Table
built_tables =
    tables.Module ∷ tables.TypeRef ∷ tables.TypeDef ∷ tables.Field ∷ tables.MethodDef ∷ tables.MemberRef ∷ tables.CustomAttribute
    ∷ tables.StandAloneSig ∷ tables.Assembly ∷ tables.AssemblyRef ∷ []

-- the same by number, for each of 64
abbrev pub cells_in : List Table → Asked → ℕ → List (List Cell)
cells_in [] asked number = []
cells_in (t ∷ ts) asked number = if table_number t == number then cells_of asked t else cells_in ts asked number

unfoldable pub tables_of : Asked → List (List (List Cell))
tables_of asked = map (cells_in built_tables asked) (range_with_len 0 64)

-- ---- user strings: a compressed length, the units and one more byte (II.24.2.4)

-- a unit above 0xFF, a control character but those of white space, an apostrophe, a hyphen, or 0x7F
abbrev pub is_special : ℕ → Bool
is_special unit =
    nat_lt 0xFF unit || (nat_lt 0 unit && nat_lt unit 0x09) || (nat_lt 0x0D unit && nat_lt unit 0x20) || unit == 0x27 || unit == 0x2D
    || unit == 0x7F

abbrev pub unit_bytes : List ℕ → List ℕ
unit_bytes units = flat_map (little_bytes 2) units

-- the last byte is 1 where a unit is special
abbrev pub user_string_end : List ℕ → ℕ
user_string_end units = if list_any is_special units then 1 else 0

abbrev pub user_string_bytes : List ℕ → List ℕ
user_string_bytes units = compressed_bytes (2 * length units + 1) ++ (unit_bytes units ++ user_string_end units ∷ [])

-- the heap begins with an empty blob
abbrev pub user_heap : List (List ℕ) → List ℕ
user_heap strings = 0 ∷ flat_map user_string_bytes strings

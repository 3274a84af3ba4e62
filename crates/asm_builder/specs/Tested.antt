-- What the tests of a draft ask of one row more: what its cells name, and room in its table and in the heaps.
use Rattle.std.specs.Prelude.{◌≡◌, ◌<◌, ℕ, zero, suc, ◌+◌, ◌^◌, ◌==◌, ◌||◌, not, min, List, [], ◌∷◌, length, IsTrue, if◌then◌else◌}
use Rattle.metadata.specs.declared.schema.CodedKind.TheVariants as kinds
use Rattle.metadata.specs.declared.schema.Table.{Table}
use Rattle.metadata.specs.declared.schema.Table.TheVariants as tables
use Rattle.metadata.specs.Schema.{table_number}
use Rattle.cli_assembly.specs.declared.signature.TypeSig.{TypeSig}
use Rattle.cli_assembly.specs.Shortest.{field_sig_bytes, is_writable_type, local_sig_bytes, method_sig_bytes}
use Rattle.asm_builder.specs.declared.asked.Method.{Method}
use Rattle.asm_builder.specs.Asked.{Asked}
use Rattle.asm_builder.specs.Cells.{cells_of, has_locals, is_empty, tables_of, user_heap, user_string_bytes}
use Rattle.asm_builder.specs.Content.{all_after, blob_bytes, no_heaps, text_bytes}
use Rattle.asm_builder.specs.Sound.{IsSound, are_bytes, are_writable_locals, code_size, is_name, is_writable_sig, rows_asked, takes}

abbrev pub one_more : ℕ → List ℕ → List ℕ
one_more n [] = []
one_more zero (c ∷ cs) = (c + 1) ∷ cs
one_more (suc n) (c ∷ cs) = c ∷ one_more n cs

-- how many rows each table has, with one more in a table
unfoldable pub rows_with : Asked → Table → List ℕ
rows_with asked table = one_more (table_number table) (rows_asked (tables_of asked))

-- how many bytes each heap has
unfoldable pub strings_size : Asked → ℕ
strings_size asked = length (all_after no_heaps (tables_of asked)).strings

unfoldable pub blobs_size : Asked → ℕ
blobs_size asked = length (all_after no_heaps (tables_of asked)).blobs

-- a sound record whose sizes, and that of all codes, are these
pub record IsCounted (asked : Asked) (strings blobs code : ℕ) : Type 0 where
  pub is_sound : IsSound asked
  pub strings_are : strings ≡ strings_size asked
  pub blobs_are : blobs ≡ blobs_size asked
  pub code_is : code ≡ code_size asked.methods

-- ---- room: sizes that reach 2^24 count as 2^24

abbrev pub capped : ℕ → ℕ
capped size = min size (2 ^ 24)

abbrev pub text_room : List ℕ → ℕ
text_room text = capped (length (text_bytes text))

abbrev pub blob_room : List ℕ → ℕ
blob_room blob = capped (length (blob_bytes blob))

abbrev pub locals_room : Method → ℕ
locals_room m = if has_locals m then blob_room (local_sig_bytes m.locals) else 0

-- for one row more in a table, and so many bytes more in each heap
pub record HasRoom (asked : Asked) (table : Table) (strings blobs : ℕ) : Type 0 where
  pub rows_fit : length (cells_of asked table) + 1 < 2 ^ 24
  pub strings_fit : strings_size asked + strings < 2 ^ 24
  pub blobs_fit : blobs_size asked + blobs < 2 ^ 24

-- ---- what each call asks for

pub record FitsName (name : List ℕ) : Type 0 where
  pub name_fits : IsTrue (is_name name)
  pub room_fits : text_room name + text_room name + 1 < 2 ^ 24

pub record FitsAssemblyRef (asked : Asked) (name : List ℕ) : Type 0 where
  pub name_fits : IsTrue (is_name name)
  pub room_fits : HasRoom asked tables.AssemblyRef (text_room name) 0

pub record FitsTypeRef (asked : Asked) (parent : ℕ) (space name : List ℕ) : Type 0 where
  pub parent_fits : IsTrue (takes (rows_with asked tables.TypeRef) kinds.ResolutionScope parent)
  pub space_fits : IsTrue (is_name space)
  pub name_fits : IsTrue (is_name name)
  pub room_fits : HasRoom asked tables.TypeRef (text_room name + text_room space) 0

pub record FitsTypeDef (asked : Asked) (space name : List ℕ) (base : ℕ) : Type 0 where
  pub base_fits : IsTrue (base == 0 || takes (rows_with asked tables.TypeDef) kinds.TypeDefOrRef base)
  pub space_fits : IsTrue (is_name space)
  pub name_fits : IsTrue (is_name name)
  -- the next field and the next method have numbers that fit their columns
  pub fields_fit : IsTrue (not (length asked.fields == 0xFFFF))
  pub methods_fit : IsTrue (not (length asked.methods == 0xFFFF))
  pub room_fits : HasRoom asked tables.TypeDef (text_room name + text_room space) 0

pub record FitsField (asked : Asked) (name : List ℕ) (sig : TypeSig) : Type 0 where
  pub owner_fits : IsTrue (not (is_empty asked.type_defs))
  pub name_fits : IsTrue (is_name name)
  pub sig_fits : IsTrue (is_writable_type sig)
  pub room_fits : HasRoom asked tables.Field (text_room name) (blob_room (field_sig_bytes sig))

pub record FitsMethod (asked : Asked) (m : Method) : Type 0 where
  pub owner_fits : IsTrue (not (is_empty asked.type_defs))
  pub name_fits : IsTrue (is_name m.name)
  pub sig_fits : IsTrue (is_writable_sig m.sig)
  pub locals_fit : IsTrue (are_writable_locals m.locals)
  pub bytes_fit : IsTrue (are_bytes m.code)
  pub code_fits : code_size asked.methods + capped (length m.code) < 2 ^ 24
  pub room_fits : HasRoom asked tables.MethodDef (text_room m.name) (blob_room (method_sig_bytes m.sig) + locals_room m)

pub record FitsMemberRef (asked : Asked) (parent : ℕ) (name sig : List ℕ) : Type 0 where
  pub parent_fits : IsTrue (takes (rows_with asked tables.MemberRef) kinds.MemberRefParent parent)
  pub name_fits : IsTrue (is_name name)
  pub room_fits : HasRoom asked tables.MemberRef (text_room name) (blob_room sig)

pub record FitsAttribute (asked : Asked) (parent constructor : ℕ) (value : List ℕ) : Type 0 where
  pub parent_fits : IsTrue (takes (rows_with asked tables.CustomAttribute) kinds.HasCustomAttribute parent)
  pub constructor_fits : IsTrue (takes (rows_with asked tables.CustomAttribute) kinds.CustomAttributeType constructor)
  pub room_fits : HasRoom asked tables.CustomAttribute 0 (blob_room value)

pub record FitsUserString (asked : Asked) (units : List ℕ) : Type 0 where
  pub room_fits : length (user_heap asked.user_strings) + capped (length (user_string_bytes units)) < 2 ^ 24

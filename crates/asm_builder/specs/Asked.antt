-- What a builder was asked for, in order, in the words of the tables (ECMA-335 II.22).
use Rattle.std.specs.Prelude.{ℕ, List, [], ◌∷◌, ◌++◌, length}
use Rattle.metadata.specs.Heaps.{token}
use Rattle.metadata.specs.declared.schema.Table.{Table}
use Rattle.metadata.specs.Schema.{table_number}
use Rattle.cli_assembly.specs.declared.signature.TypeSig.{TypeSig}
use Rattle.cli_assembly.specs.declared.signature.MethodSig.{MethodSig}
use Rattle.asm_builder.specs.declared.asked.TypeRef.{TypeRef}
use Rattle.asm_builder.specs.declared.asked.TypeDef.{TypeDef}
use Rattle.asm_builder.specs.declared.asked.Field.{Field}
use Rattle.asm_builder.specs.declared.asked.Method.{Method}
use Rattle.asm_builder.specs.declared.asked.MemberRef.{MemberRef}
use Rattle.asm_builder.specs.declared.asked.Attribute.{Attribute}

-- The name is that of the assembly and of its module. Each list has the rows of one table; user strings are lists of UTF-16 units.
pub record Asked : Type 0 where
  pub name : List ℕ
  pub assembly_refs : List (List ℕ)
  pub type_refs : List TypeRef
  pub type_defs : List TypeDef
  pub fields : List Field
  pub methods : List Method
  pub member_refs : List MemberRef
  pub user_strings : List (List ℕ)
  pub attributes : List Attribute

-- nothing but the name
abbrev pub only_name : List ℕ → Asked
only_name name = record {
  name = name;
  assembly_refs = [];
  type_refs = [];
  type_defs = [];
  fields = [];
  methods = [];
  member_refs = [];
  user_strings = [];
  attributes = [];
}

-- ---- one row more, at the end of its table

abbrev pub with_assembly_ref : Asked → List ℕ → Asked
with_assembly_ref asked name = record asked { assembly_refs = asked.assembly_refs ++ name ∷ [] }

abbrev pub with_type_ref : Asked → ℕ → List ℕ → List ℕ → Asked
with_type_ref asked parent space name =
    record asked { type_refs = asked.type_refs ++ record { parent = parent; space = space; name = name } ∷ [] }

-- a type's fields and methods are those asked for after it, up to the next type
abbrev pub type_def : Asked → ℕ → List ℕ → List ℕ → ℕ → TypeDef
type_def asked flags space name base = record {
  flags = flags;
  space = space;
  name = name;
  base = base;
  fields_before = length asked.fields;
  methods_before = length asked.methods;
}

abbrev pub with_type_def : Asked → ℕ → List ℕ → List ℕ → ℕ → Asked
with_type_def asked flags space name base = record asked { type_defs = asked.type_defs ++ type_def asked flags space name base ∷ [] }

abbrev pub with_field : Asked → ℕ → List ℕ → TypeSig → Asked
with_field asked flags name sig = record asked { fields = asked.fields ++ record { flags = flags; name = name; sig = sig } ∷ [] }

abbrev pub with_method : Asked → Method → Asked
with_method asked method = record asked { methods = asked.methods ++ method ∷ [] }

abbrev pub method : ℕ → List ℕ → MethodSig → ℕ → List TypeSig → List ℕ → Method
method flags name sig max_stack locals code = record {
  flags = flags;
  name = name;
  sig = sig;
  max_stack = max_stack;
  locals = locals;
  code = code;
}

abbrev pub with_member_ref : Asked → ℕ → List ℕ → List ℕ → Asked
with_member_ref asked parent name sig =
    record asked { member_refs = asked.member_refs ++ record { parent = parent; name = name; sig = sig } ∷ [] }

abbrev pub with_user_string : Asked → List ℕ → Asked
with_user_string asked units = record asked { user_strings = asked.user_strings ++ units ∷ [] }

abbrev pub with_attribute : Asked → ℕ → ℕ → List ℕ → Asked
with_attribute asked parent constructor value =
    record asked { attributes = asked.attributes ++ record { parent = parent; constructor = constructor; value = value } ∷ [] }

-- the token of the last of some rows of a table
abbrev pub last_token : {X : Type 0} → Table → List X → ℕ
last_token table rows = token (table_number table) (length rows)

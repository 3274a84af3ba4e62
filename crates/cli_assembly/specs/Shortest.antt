-- The shortest spelling of a signature, and which signatures have one.
use Rattle.std.specs.Prelude.{◌<◌, ◌+◌, ◌*◌, ◌/◌, ◌%◌, ◌^◌, ◌==◌, ◌&&◌, ℕ, Bool, true, false, List, [], ◌∷◌, ◌++◌}
use Rattle.std.specs.Prelude.{length, find, flat_map, Option, All, IsTrue, is_some, unwrap_or}
use Rattle.std.specs.Option.{option_map}
use Rattle.rtr_bytes.specs.Compressed.{compressed_bytes}
use Rattle.metadata.specs.declared.schema.CodedTable.{CodedTable}
use Rattle.metadata.specs.declared.schema.CodedKind.TheVariants as kinds
use Rattle.metadata.specs.declared.schema.TheConstants.{CODED_TABLES}
use Rattle.metadata.specs.Schema.{kind_number, table_number}
use Rattle.cli_assembly.specs.declared.signature.TypeSig.{TypeSig}
use Rattle.cli_assembly.specs.declared.signature.TypeSig.TheVariants as types
use Rattle.cli_assembly.specs.declared.signature.MethodSig.{MethodSig}
use Rattle.cli_assembly.specs.Elements.{element_number}

-- the tag of a token's table among those of TypeDefOrRef, where it is one of them
abbrev pub tag_in : List CodedTable → ℕ → Option ℕ
tag_in tagged table =
    option_map (λ t. t.tag) (find (λ t. kind_number t.kind == kind_number kinds.TypeDefOrRef && table_number t.table == table) tagged)

unfoldable pub type_tag : ℕ → Option ℕ
type_tag token = tag_in CODED_TABLES (token / 2 ^ 24)

-- the coded TypeDefOrRef of a token
abbrev pub coded_of_token : ℕ → ℕ
coded_of_token token = token % 2 ^ 24 * 4 + unwrap_or (type_tag token) 0

-- what has a spelling: each type but Outside, where a class has the token of a TypeDef, TypeRef or TypeSpec
abbrev pub is_writable_type : TypeSig → Bool
is_writable_type (types.Class token) = is_some (type_tag token)
is_writable_type types.Outside = false
is_writable_type of = true

abbrev pub IsWritableType : TypeSig → Type 0
IsWritableType of = IsTrue (is_writable_type of)

pub record IsWritable (sig : MethodSig) : Type 0 where
  pub few : length sig.params < 2 ^ 29
  pub ret : IsWritableType sig.ret
  pub params : All IsWritableType sig.params

-- the shortest spelling of each
abbrev pub type_bytes : TypeSig → List ℕ
type_bytes types.Void = 0x01 ∷ []
type_bytes (types.Int elem) = element_number elem ∷ []
type_bytes types.Str = 0x0E ∷ []
type_bytes types.Object = 0x1C ∷ []
type_bytes (types.Class token) = 0x12 ∷ compressed_bytes (coded_of_token token)
type_bytes (types.Array elem) = 0x1D ∷ element_number elem ∷ []
type_bytes types.Outside = []

abbrev pub convention_of : Bool → ℕ
convention_of false = 0x00
convention_of true = 0x20

-- a method: its convention, the count of its parameters, the type of its result, and theirs
unfoldable pub method_sig_bytes : MethodSig → List ℕ
method_sig_bytes sig =
    convention_of sig.has_this ∷ compressed_bytes (length sig.params) ++ (type_bytes sig.ret ++ flat_map type_bytes sig.params)

-- a field, and locals
abbrev pub field_sig_bytes : TypeSig → List ℕ
field_sig_bytes of = 0x06 ∷ type_bytes of

unfoldable pub local_sig_bytes : List TypeSig → List ℕ
local_sig_bytes locals = 0x07 ∷ compressed_bytes (length locals) ++ flat_map type_bytes locals

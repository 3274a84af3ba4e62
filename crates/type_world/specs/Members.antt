-- Methods and fields: when two signatures are equal, the built-in members, and what a member token names.
use Rattle.std.specs.Prelude.{ℕ, ◌-◌, ◌==◌, ◌&&◌, not, Bool, true, false, List, [], ◌∷◌, find, codes, Option, Some, None, if◌then◌else◌}
use Rattle.std.specs.Option.{option_map, option_map_or, option_and_then, option_or}
use Rattle.std.specs.List.{range_with_len}
use Rattle.std.specs.Str.{bytes_eq}
use Rattle.std.specs.Cmp.Lexicographic.{pointwise}
use Rattle.metadata.specs.declared.schema.Table.{Table}
use Rattle.metadata.specs.declared.schema.Table.TheVariants as tables
use Rattle.metadata.specs.declared.schema.CodedKind.TheVariants as kinds
use Rattle.cli_assembly.specs.declared.element.Elem.TheVariants as elems
use Rattle.cli_assembly.specs.declared.signature.TypeSig.{TypeSig}
use Rattle.cli_assembly.specs.declared.signature.TypeSig.TheVariants as sigs
use Rattle.cli_assembly.specs.declared.signature.MethodSig.{MethodSig}
use Rattle.cli_assembly.specs.declared.flags.TheConstants.{FIELD_LITERAL, FIELD_STATIC}
use Rattle.cli_assembly.specs.Flags.{has_flag}
use Rattle.cli_assembly.specs.Signatures.{method_sig}
use Rattle.cli_assembly.specs.Assemblies.{coded_token, field_signature, fields_of, member_field_signature}
use Rattle.cli_assembly.specs.Assemblies.{member_method_signature, method_signature, methods_of}
use Rattle.type_world.specs.declared.identity.TypeId.{TypeId}
use Rattle.type_world.specs.declared.identity.TypeId.TheVariants as types
use Rattle.type_world.specs.declared.identity.MethodId.{MethodId}
use Rattle.type_world.specs.declared.identity.FieldId.{FieldId}
use Rattle.type_world.specs.declared.identity.TheConstants.{BUILT_IN}
use Rattle.type_world.specs.World.{World, assembly_in, column_in, has_text, row_of, text_at}
use Rattle.type_world.specs.Resolution.{chain_of, elem_eq, field_class, method_class, resolve_type, type_eq}

-- ---- signatures are equal: they have one shape, and their classes resolve to the same types. A type outside the profile, and a
-- class that doesn't resolve, equal none.

abbrev pub same_class : Option TypeId → Option TypeId → Bool
same_class (Some of) (Some other) = type_eq of other
same_class of other = false

abbrev pub same_type : World → ℕ → ℕ → TypeSig → TypeSig → Bool
same_type world asm other sigs.Void sigs.Void = true
same_type world asm other (sigs.Int e) (sigs.Int f) = elem_eq e f
same_type world asm other sigs.Str sigs.Str = true
same_type world asm other sigs.Object sigs.Object = true
same_type world asm other (sigs.Class token) (sigs.Class at) = same_class (resolve_type world asm token) (resolve_type world other at)
same_type world asm other (sigs.Array e) (sigs.Array f) = elem_eq e f
same_type world asm other of at = false

abbrev pub bool_eq : Bool → Bool → Bool
bool_eq true b = b
bool_eq false b = not b

-- of a signature in one assembly and a signature in another one
unfoldable pub same_signature : World → ℕ → MethodSig → ℕ → MethodSig → Bool
same_signature world asm sig other at =
    bool_eq sig.has_this at.has_this
    && same_type world asm other sig.ret at.ret
    && pointwise (same_type world asm other) sig.params at.params

-- ---- the built-in members, by row from 1

pub record BuiltIn : Type 0 where
  pub of : TypeId
  pub name : List ℕ
  pub sig : MethodSig

abbrev pub write_line : List TypeSig → BuiltIn
write_line params = record { of = types.Console; name = codes "WriteLine"; sig = method_sig false sigs.Void params }

abbrev pub built_ins : List BuiltIn
built_ins =
    record { of = types.Object; name = codes ".ctor"; sig = method_sig true sigs.Void [] }
    ∷ write_line []
    ∷ write_line (sigs.Int elems.I4 ∷ [])
    ∷ write_line (sigs.Int elems.U4 ∷ [])
    ∷ write_line (sigs.Int elems.I8 ∷ [])
    ∷ write_line (sigs.Int elems.U8 ∷ [])
    ∷ write_line (sigs.Str ∷ [])
    ∷ record { of = types.Str; name = codes "get_Length"; sig = method_sig true (sigs.Int elems.I4) [] }
    ∷ []

abbrev pub row_in : List BuiltIn → ℕ → Option BuiltIn
row_in [] row = None
row_in (b ∷ bs) row = if row == 1 then Some b else row_in bs (row - 1)

unfoldable pub built_in : ℕ → Option BuiltIn
built_in row = row_in built_ins row

abbrev pub built_in_rows : List ℕ
built_in_rows = range_with_len 1 8

abbrev pub is_built_in : MethodId → Bool
is_built_in method = method.asm == BUILT_IN

-- ---- a method's name and signature: Name and Signature are columns 3 and 4 of MethodDef (II.22.26)

-- none where there is no such row, or it has no signature of the form
unfoldable pub signature_of : World → MethodId → Option MethodSig
signature_of world method =
    if is_built_in method then option_map (λ b. b.sig) (built_in method.row)
    else method_signature (assembly_in world method.asm) method.row

-- the type that declares a method
unfoldable pub class_of_method : World → MethodId → Option TypeId
class_of_method world method =
    if is_built_in method then option_map (λ b. b.of) (built_in method.row) else method_class world method.asm method.row

-- ---- looked up in one type

abbrev pub method_id : ℕ → ℕ → MethodId
method_id asm row = record { asm = asm; row = row }

abbrev pub has_signature : World → ℕ → MethodSig → MethodId → Bool
has_signature world asm sig method = option_map_or (same_signature world asm sig method.asm) (signature_of world method) false

-- the first row of a class's list with this name, and with a signature that equals one of an assembly
abbrev pub is_method : World → ℕ → List ℕ → MethodSig → ℕ → ℕ → Bool
is_method world asm name sig in_asm row =
    has_text (assembly_in world in_asm) tables.MethodDef row 3 name && has_signature world asm sig (method_id in_asm row)

abbrev pub is_built_in_method : World → ℕ → TypeId → List ℕ → MethodSig → ℕ → Bool
is_built_in_method world asm of name sig row =
    option_map_or (λ b. type_eq b.of of && bytes_eq b.name name && same_signature world asm sig BUILT_IN b.sig) (built_in row) false

unfoldable pub method_in : World → ℕ → List ℕ → MethodSig → TypeId → Option MethodId
method_in world asm name sig (types.Class in_asm row) =
    option_map (method_id in_asm) (find (is_method world asm name sig in_asm) (methods_of (assembly_in world in_asm) row))
method_in world asm name sig of = option_map (method_id BUILT_IN) (find (is_built_in_method world asm of name sig) built_in_rows)

-- Flags, Name and Signature are columns 0, 1 and 2 of Field (II.22.15). A literal field has no storage, and is passed over.
abbrev pub field_id : ℕ → ℕ → FieldId
field_id asm row = record { asm = asm; row = row }

abbrev pub field_flags : World → FieldId → ℕ
field_flags world field = column_in world field.asm tables.Field field.row 0

abbrev pub is_stored : World → Bool → FieldId → Bool
is_stored world is_static field =
    not (has_flag (field_flags world field) FIELD_LITERAL) && bool_eq is_static (has_flag (field_flags world field) FIELD_STATIC)

unfoldable pub field_type : World → FieldId → Option TypeSig
field_type world field = field_signature (assembly_in world field.asm) field.row

abbrev pub is_field : World → ℕ → List ℕ → TypeSig → Bool → ℕ → ℕ → Bool
is_field world asm name sig is_static in_asm row =
    has_text (assembly_in world in_asm) tables.Field row 1 name
    && is_stored world is_static (field_id in_asm row)
    && option_map_or (same_type world asm in_asm sig) (field_type world (field_id in_asm row)) false

unfoldable pub field_in : World → ℕ → List ℕ → TypeSig → Bool → TypeId → Option FieldId
field_in world asm name sig is_static (types.Class in_asm row) =
    option_map (field_id in_asm) (find (is_field world asm name sig is_static in_asm) (fields_of (assembly_in world in_asm) row))
field_in world asm name sig is_static of = None

-- ---- looked up in a type and then up its base chain

abbrev pub first_in : {X : Type 0} → (TypeId → Option X) → List TypeId → Option X
first_in look [] = None
first_in look (of ∷ chain) = option_or (look of) (first_in look chain)

-- a constructor is looked for in the type alone
abbrev pub where_looked : World → List ℕ → TypeId → List TypeId
where_looked world name of = if bytes_eq name (codes ".ctor") then of ∷ [] else chain_of world of

-- ---- member tokens: Class, Name and Signature are columns 0, 1 and 2 of MemberRef (II.22.25)

abbrev pub member_row : World → ℕ → Table → ℕ → Option ℕ
member_row world asm table token = row_of (assembly_in world asm) table token

-- the type that is the parent of a MemberRef: a TypeDef or a TypeRef that resolves
unfoldable pub member_parent : World → ℕ → ℕ → Option TypeId
member_parent world asm row =
    option_and_then (resolve_type world asm)
    (coded_token (assembly_in world asm) kinds.MemberRefParent (column_in world asm tables.MemberRef row 0))

abbrev pub member_name : World → ℕ → ℕ → List ℕ
member_name world asm row = text_at (assembly_in world asm) tables.MemberRef row 1

abbrev pub method_with : World → ℕ → ℕ → MethodSig → TypeId → Option MethodId
method_with world asm row sig of =
    first_in (method_in world asm (member_name world asm row) sig) (where_looked world (member_name world asm row) of)

unfoldable pub member_method : World → ℕ → ℕ → Option MethodId
member_method world asm row =
    option_and_then (λ sig. option_and_then (method_with world asm row sig) (member_parent world asm row))
    (member_method_signature (assembly_in world asm) row)

abbrev pub field_with : World → ℕ → ℕ → Bool → TypeSig → TypeId → Option FieldId
field_with world asm row is_static sig of =
    first_in (field_in world asm (member_name world asm row) sig is_static) (chain_of world of)

unfoldable pub member_field : World → ℕ → ℕ → Bool → Option FieldId
member_field world asm row is_static =
    option_and_then (λ sig. option_and_then (field_with world asm row is_static sig) (member_parent world asm row))
    (member_field_signature (assembly_in world asm) row)

-- what a token of an assembly names as a method: a MethodDef or a MemberRef. A MethodSpec doesn't resolve.
unfoldable pub resolve_method : World → ℕ → ℕ → Option MethodId
resolve_method world asm token =
    option_or (option_map (method_id asm) (member_row world asm tables.MethodDef token))
    (option_and_then (member_method world asm) (member_row world asm tables.MemberRef token))

-- and as a field, static or of instances: a Field or a MemberRef
abbrev pub stored_field : World → Bool → FieldId → Option FieldId
stored_field world is_static field = if is_stored world is_static field then Some field else None

unfoldable pub resolve_field : World → ℕ → ℕ → Bool → Option FieldId
resolve_field world asm token is_static =
    option_or (option_and_then (λ row. stored_field world is_static (field_id asm row)) (member_row world asm tables.Field token))
    (option_and_then (λ row. member_field world asm row is_static) (member_row world asm tables.MemberRef token))

-- the class of a member token: the parent of a MemberRef, or the type that declares the row of a MethodDef or of a Field
unfoldable pub class_of_member : World → ℕ → ℕ → Option TypeId
class_of_member world asm token =
    option_or (option_and_then (method_class world asm) (member_row world asm tables.MethodDef token))
    (option_or (option_and_then (field_class world asm) (member_row world asm tables.Field token))
    (option_and_then (member_parent world asm) (member_row world asm tables.MemberRef token)))

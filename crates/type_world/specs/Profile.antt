-- What is in the profile: types of signatures, classes, fields, and methods by their signature, their body and their code.
use Rattle.std.specs.Prelude.{ℕ, zero, suc, ◌+◌, ◌==◌, ◌&&◌, ◌||◌, not, Bool, true, false, List, [], ◌∷◌, length, codes}
use Rattle.std.specs.Prelude.{Option, Some, None, Result, Ok, Err, is_some, is_none, unwrap_or, if◌then◌else◌, nat_le}
use Rattle.std.specs.Option.{option_map, option_map_or, option_and_then}
use Rattle.std.specs.List.{list_all, list_any}
use Rattle.metadata.specs.declared.schema.Table.{Table}
use Rattle.metadata.specs.declared.schema.Table.TheVariants as tables
use Rattle.metadata.specs.declared.schema.CodedKind.TheVariants as kinds
use Rattle.metadata.specs.Heaps.{token}
use Rattle.metadata.specs.Schema.{table_number}
use Rattle.cil_decode.specs.declared.instr.Instr.{Instr}
use Rattle.cil_decode.specs.declared.body.BodyRefusal.{BodyRefusal}
use Rattle.cil_decode.specs.declared.operation.Operation.{Operation}
use Rattle.cil_decode.specs.declared.operation.Operation.TheVariants as operations
use Rattle.cil_decode.specs.Operations.{operation_of}
use Rattle.cil_decode.specs.Instructions.{instr_at, instr_size}
use Rattle.cil_decode.specs.Bodies.{first_unlinked}
use Rattle.cli_assembly.specs.declared.signature.TypeSig.{TypeSig}
use Rattle.cli_assembly.specs.declared.signature.TypeSig.TheVariants as sigs
use Rattle.cli_assembly.specs.declared.signature.MethodSig.{MethodSig}
use Rattle.cli_assembly.specs.declared.flags.TheConstants.{METHOD_ABSTRACT, METHOD_STATIC, TYPE_EXPLICIT_LAYOUT, TYPE_INTERFACE}
use Rattle.cli_assembly.specs.Flags.{has_flag}
use Rattle.cli_assembly.specs.Bodies.{MethodBody}
use Rattle.cli_assembly.specs.Assemblies.{body_of, coded_token, fields_of, local_signature, methods_of}
use Rattle.type_world.specs.declared.identity.TypeId.{TypeId}
use Rattle.type_world.specs.declared.identity.TypeId.TheVariants as types
use Rattle.type_world.specs.declared.identity.MethodId.{MethodId}
use Rattle.type_world.specs.declared.identity.FieldId.{FieldId}
use Rattle.type_world.specs.declared.place.Place.{Place}
use Rattle.type_world.specs.declared.place.Place.TheVariants.{Integer, Reference}
use Rattle.type_world.specs.declared.place.Shape.{Shape}
use Rattle.type_world.specs.World.{World, assembly_in, column_in, has_text, row_of, rows_at}
use Rattle.type_world.specs.declared.base.Base.{Base}
use Rattle.type_world.specs.declared.base.Base.TheVariants.{NoBase, Extends, UnresolvedBase}
use Rattle.type_world.specs.Resolution.{base_of, field_class, is_named, resolve_type}
use Rattle.type_world.specs.Members.{class_of_method, field_id, field_type, is_built_in, is_stored, signature_of}

-- ---- what a signature's type holds, where it is of the profile

-- there is none for void, for a type outside the profile, and for a class that doesn't resolve
unfoldable pub place_of : World → ℕ → TypeSig → Option Place
place_of world asm (sigs.Int elem) = Some (Integer elem)
place_of world asm sigs.Str = Some (Reference types.Str)
place_of world asm sigs.Object = Some (Reference types.Object)
place_of world asm (sigs.Class token) = option_map Reference (resolve_type world asm token)
place_of world asm (sigs.Array elem) = Some (Reference (types.Array elem))
place_of world asm sigs.Void = None
place_of world asm sigs.Outside = None

abbrev pub is_of_profile : World → ℕ → TypeSig → Bool
is_of_profile world asm sig = is_some (place_of world asm sig)

-- so many places, where each of the types is of the profile
abbrev pub before : Option Place → Option (List Place) → Option (List Place)
before place places = option_and_then (λ p. option_map (λ ps. p ∷ ps) places) place

unfoldable pub places_of : World → ℕ → List TypeSig → Option (List Place)
places_of world asm [] = Some []
places_of world asm (sig ∷ sigs) = before (place_of world asm sig) (places_of world asm sigs)

-- ---- a class (II.22.37)

abbrev pub class_flag : World → ℕ → ℕ → ℕ → Bool
class_flag world asm row flag = has_flag (column_in world asm tables.TypeDef row 0) flag

-- a row of GenericParam (II.22.20) has a row of a table as its owner, which is column 2
abbrev pub is_owner : World → ℕ → Table → ℕ → ℕ → Bool
is_owner world asm table row owner =
    option_map_or (λ found. found == token (table_number table) row) (coded_token (assembly_in world asm) kinds.TypeOrMethodDef owner) false

abbrev pub is_generic : World → ℕ → Table → ℕ → Bool
is_generic world asm table row =
    list_any (λ param. is_owner world asm table row (column_in world asm tables.GenericParam param 2))
    (rows_at world asm tables.GenericParam)

-- it has a type initializer (II.10.5.3)
abbrev pub is_initializer : World → ℕ → ℕ → Bool
is_initializer world asm method = has_text (assembly_in world asm) tables.MethodDef method 3 (codes ".cctor")

abbrev pub has_initializer : World → ℕ → ℕ → Bool
has_initializer world asm row = list_any (is_initializer world asm) (methods_of (assembly_in world asm) row)

-- a row of MethodImpl is of this class (II.22.27)
abbrev pub has_method_impl : World → ℕ → ℕ → Bool
has_method_impl world asm row = list_any (λ impl. column_in world asm tables.MethodImpl impl 0 == row) (rows_at world asm tables.MethodImpl)

-- the type of a field is of the profile
abbrev pub has_profile_type : World → FieldId → Bool
has_profile_type world field = option_map_or (is_of_profile world field.asm) (field_type world field) false

-- a field that instances have, of a type outside the profile
abbrev pub is_outside_field : World → FieldId → Bool
is_outside_field world field = is_stored world false field && not (has_profile_type world field)

abbrev pub has_outside_field : World → ℕ → ℕ → Bool
has_outside_field world asm row = list_any (λ field. is_outside_field world (field_id asm field)) (fields_of (assembly_in world asm) row)

-- what is asked of a class itself
abbrev pub is_plain_class : World → ℕ → ℕ → Bool
is_plain_class world asm row =
    not (class_flag world asm row TYPE_INTERFACE)
    && not (is_generic world asm tables.TypeDef row)
    && not (class_flag world asm row TYPE_EXPLICIT_LAYOUT)
    && not (has_initializer world asm row)
    && not (has_method_impl world asm row)
    && not (has_outside_field world asm row)

-- System.ValueType and System.Enum, as the base of a value type or of an enumeration (II.10.1.3)
abbrev pub is_value_base : World → ℕ → ℕ → Bool
is_value_base world asm row =
    is_named (assembly_in world asm) row (codes "System") (codes "ValueType")
    || is_named (assembly_in world asm) row (codes "System") (codes "Enum")

-- a class with at most so many bases, which are in the profile or the built-in System.Object
abbrev pub is_base : (TypeId → Bool) → World → TypeId → Bool
is_base within world types.Object = true
is_base within world (types.Class asm row) = not (is_value_base world asm row) && within (types.Class asm row)
is_base within world of = false

abbrev pub has_base : (TypeId → Bool) → World → Base → Bool
has_base within world NoBase = true
has_base within world (Extends of) = is_base within world of
has_base within world UnresolvedBase = false

abbrev pub has_no_base : Base → Bool
has_no_base NoBase = true
has_no_base base = false

unfoldable pub class_within : ℕ → World → TypeId → Bool
class_within zero world (types.Class asm row) = is_plain_class world asm row && has_no_base (base_of world (types.Class asm row))
class_within (suc n) world (types.Class asm row) =
    is_plain_class world asm row && has_base (class_within n world) world (base_of world (types.Class asm row))
class_within n world of = false

-- a type in the profile has at most 64 bases, System.Object included
unfoldable pub type_in_profile : World → TypeId → Bool
type_in_profile world of = class_within 64 world of

-- ---- a field

abbrev pub is_in_profile : World → Option TypeId → Bool
is_in_profile world of = option_map_or (type_in_profile world) of false

unfoldable pub field_in_profile : World → FieldId → Bool
field_in_profile world field =
    is_in_profile world (field_class world field.asm field.row) && has_profile_type world field

-- ---- a code as its instructions; none where it can't be decoded

abbrev pub next_instr : (ℕ → Option (List Instr)) → ℕ → Result Instr BodyRefusal → Option (List Instr)
next_instr rest at (Err e) = None
next_instr rest at (Ok i) = option_map (λ is. i ∷ is) (rest (at + instr_size i))

abbrev pub from_offset : Bool → (ℕ → Option (List Instr)) → List ℕ → ℕ → Option (List Instr)
from_offset true rest code at = Some []
from_offset false rest code at = next_instr rest at (instr_at code at)

-- at most so many instructions, from an offset to the end
unfoldable pub instrs_from : ℕ → List ℕ → ℕ → Option (List Instr)
instrs_from zero code at = if at == length code then Some [] else None
instrs_from (suc n) code at = from_offset (at == length code) (instrs_from n code) code at

abbrev pub linked : List Instr → Option (List Instr)
linked list = if is_none (first_unlinked list) then Some list else None

unfoldable pub instrs_of : List ℕ → Option (List Instr)
instrs_of [] = None
instrs_of (b ∷ code) = option_and_then linked (instrs_from (length (b ∷ code)) (b ∷ code) 0)

-- ---- a method by its signature

-- `this` is a reference to the type that declares the method
abbrev pub this_of : World → MethodId → Place
this_of world method = Reference (unwrap_or (class_of_method world method) types.Object)

abbrev pub with_this : World → MethodId → Bool → List Place → List Place
with_this world method true places = this_of world method ∷ places
with_this world method false places = places

abbrev pub shape : Option Place → List Place → Shape
shape result arguments = record { arguments = arguments; result = result }

abbrev pub result_of : World → ℕ → TypeSig → Option (Option Place)
result_of world asm sigs.Void = Some None
result_of world asm sig = option_map Some (place_of world asm sig)

abbrev pub few_arguments : Shape → Option Shape
few_arguments s = if nat_le (length s.arguments) 16 then Some s else None

abbrev pub shape_with : World → MethodId → MethodSig → Option Place → Option Shape
shape_with world method sig result =
    option_and_then (λ places. few_arguments (shape result (with_this world method sig.has_this places)))
    (places_of world method.asm sig.params)

abbrev pub shape_by : World → MethodId → MethodSig → Option Shape
shape_by world method sig = option_and_then (shape_with world method sig) (result_of world method.asm sig.ret)

-- there is one where all its types are of the profile, and it has at most 16 arguments
unfoldable pub shape_of : World → MethodId → Option Shape
shape_of world method = option_and_then (shape_by world method) (signature_of world method)

-- ---- a method with its body (II.25.4)

pub record Method : Type 0 where
  pub id : MethodId
  pub shape : Shape
  pub locals : List Place
  pub max_stack : ℕ
  pub code : List ℕ
  pub more : Bool

-- LocalVarSigTok is 0, or the token of a StandAloneSig
abbrev pub local_types : World → ℕ → ℕ → Option (List TypeSig)
local_types world asm tok =
    option_and_then (local_signature (assembly_in world asm)) (row_of (assembly_in world asm) tables.StandAloneSig tok)

abbrev pub locals_of : World → ℕ → ℕ → Option (List Place)
locals_of world asm tok = if tok == 0 then Some [] else option_and_then (places_of world asm) (local_types world asm tok)

abbrev pub method : MethodId → MethodBody → Shape → List Place → Method
method id body s locals = record { id = id; shape = s; locals = locals; max_stack = body.max_stack; code = body.code; more = body.more }

abbrev pub method_with : World → MethodId → Shape → MethodBody → Option Method
method_with world id s body = option_map (method id body s) (locals_of world id.asm body.locals)

-- the method of a row of MethodDef that has a shape, CIL, and locals whose types are of the profile
unfoldable pub method_of : World → MethodId → Option Method
method_of world id =
    option_and_then (λ s. option_and_then (method_with world id s) (body_of (assembly_in world id.asm) id.row)) (shape_of world id)

-- Flags of MethodDef are column 2 (II.22.26)
abbrev pub method_flag : World → MethodId → ℕ → Bool
method_flag world id flag = has_flag (column_in world id.asm tables.MethodDef id.row 2) flag

unfoldable pub is_abstract : World → MethodId → Bool
is_abstract world id = method_flag world id METHOD_ABSTRACT

-- ---- the narrower profile: static methods of integers. It counts as a part of a method's shape, and nothing else speaks of it.

abbrev pub is_narrow_operation : Operation → Bool
is_narrow_operation operations.LoadNull = false
is_narrow_operation operations.CallVirtual = false
is_narrow_operation operations.LoadString = false
is_narrow_operation operations.NewObject = false
is_narrow_operation operations.CastClass = false
is_narrow_operation operations.IsInstance = false
is_narrow_operation operations.LoadField = false
is_narrow_operation operations.StoreField = false
is_narrow_operation operations.LoadStaticField = false
is_narrow_operation operations.StoreStaticField = false
is_narrow_operation operations.NewArray = false
is_narrow_operation operations.LoadLength = false
is_narrow_operation (operations.LoadElement of) = false
is_narrow_operation (operations.StoreElement of) = false
is_narrow_operation operation = true

abbrev pub is_narrow_instr : Instr → Bool
is_narrow_instr i = option_map_or is_narrow_operation (operation_of i) false

abbrev pub is_narrow_place : Place → Bool
is_narrow_place (Integer elem) = true
is_narrow_place (Reference to) = false

abbrev pub are_narrow : List Place → Bool
are_narrow places = list_all is_narrow_place places

abbrev pub is_narrow_shape : Shape → Bool
is_narrow_shape s = are_narrow s.arguments && option_map_or is_narrow_place s.result true

-- locals and instructions; a row without CIL has neither
abbrev pub is_narrow_body : World → ℕ → MethodBody → Bool
is_narrow_body world asm body =
    option_map_or are_narrow (locals_of world asm body.locals) false && option_map_or (list_all is_narrow_instr) (instrs_of body.code) false

abbrev pub is_narrow_method : World → MethodId → Bool
is_narrow_method world id =
    method_flag world id METHOD_STATIC && option_map_or (is_narrow_body world id.asm) (body_of (assembly_in world id.asm) id.row) true

-- of the built-in methods the rows 2 to 6 are in it: the others have a reference as an argument
unfoldable pub is_narrow : World → MethodId → Shape → Bool
is_narrow world id s = is_narrow_shape s && (is_built_in id || is_narrow_method world id)

abbrev pub if_narrow : World → MethodId → Shape → Option Shape
if_narrow world id s = if is_narrow world id s then Some s else None

-- ---- a method has its shape in the profile where it has this
unfoldable pub profile_shape : World → MethodId → Option Shape
profile_shape world id = option_and_then (if_narrow world id) (shape_of world id)

abbrev pub shape_in_profile : World → MethodId → Bool
shape_in_profile world id = is_some (profile_shape world id)

-- ---- the conditions of the profile on a method, but that it verifies

abbrev pub meets_limits : Method → Bool
meets_limits m =
    not m.more && nat_le (length m.locals) 128 && nat_le m.max_stack 128 && nat_le (length m.code) 65536 && is_some (instrs_of m.code)

abbrev pub meets_profile : World → Method → Bool
meets_profile world m =
    shape_in_profile world m.id
    && is_in_profile world (class_of_method world m.id)
    && not (is_abstract world m.id)
    && not (is_generic world m.id.asm tables.MethodDef m.id.row)
    && meets_limits m

abbrev pub if_meets : World → Method → Option Method
if_meets world m = if meets_profile world m then Some m else None

-- the method of a row that meets them; a row without an RVA, or whose low three ImplFlags are not 0, has no CIL
unfoldable pub profile_method : World → MethodId → Option Method
profile_method world id = option_and_then (if_meets world) (method_of world id)

-- Numbers of types, methods, static fields and strings. Each kind is numbered through the whole world: by assembly, and then by row.
use Rattle.std.specs.Prelude.{ℕ, ◌+◌, ◌-◌, ◌/◌, ◌%◌, ◌^◌, ◌==◌, ◌&&◌, Bool, true, false, List, [], ◌∷◌, ◌++◌, length}
use Rattle.std.specs.Prelude.{map, filter, flat_map, filter_map, find, position, fold, Option, Some, None}
use Rattle.std.specs.Prelude.{if◌then◌else◌, nat_le, nat_lt}
use Rattle.std.specs.Option.{option_map, option_map_or, option_and_then}
use Rattle.std.specs.List.{list_any, range_with_len}
use Rattle.std.specs.Str.{bytes_eq}
use Rattle.metadata.specs.declared.schema.Table.{Table}
use Rattle.metadata.specs.declared.schema.Table.TheVariants as tables
use Rattle.cil_decode.specs.declared.instr.Arg.{Arg}
use Rattle.cil_decode.specs.declared.instr.Arg.TheVariants as args
use Rattle.cil_decode.specs.declared.instr.Instr.{Instr}
use Rattle.cil_decode.specs.declared.operation.Operation.{Operation}
use Rattle.cil_decode.specs.declared.operation.Operation.TheVariants as operations
use Rattle.cil_decode.specs.Operations.{operation_of}
use Rattle.cli_assembly.specs.declared.element.TheConstants.{ELEMS}
use Rattle.cli_assembly.specs.Elements.{element_number}
use Rattle.cli_assembly.specs.Assemblies.{body_of, has_row, user_string_at}
use Rattle.type_world.specs.declared.identity.TypeId.{TypeId}
use Rattle.type_world.specs.declared.identity.TypeId.TheVariants as types
use Rattle.type_world.specs.declared.identity.MethodId.{MethodId}
use Rattle.type_world.specs.declared.identity.FieldId.{FieldId}
use Rattle.type_world.specs.declared.identity.TheConstants.{BUILT_IN}
use Rattle.type_world.specs.World.{World, assembly_in, rows_before, rows_in}
use Rattle.type_world.specs.Members.{built_in_rows, field_id, is_built_in, is_stored, method_id}
use Rattle.type_world.specs.Profile.{instrs_of}

-- the rows of a table of all assemblies, each with the position of its assembly
abbrev pub rows_of_all : {X : Type 0} → World → Table → (ℕ → ℕ → X) → List X
rows_of_all world table make = flat_map (λ asm. map (make asm) (rows_in (assembly_in world asm) table)) (range_with_len 0 (length world))

-- the place of a row among those, from 0
abbrev pub place_among : World → Table → ℕ → ℕ → Option ℕ
place_among world table asm row =
    if nat_lt asm (length world) && has_row (assembly_in world asm) table row then Some (rows_before world table asm + (row - 1)) else None

abbrev pub is_number : ℕ → Option ℕ → Bool
is_number n found = option_map_or (λ m. m == n) found false

-- ---- types: the built-in ones, arrays by their element type (II.23.1.16), and then the rows of TypeDef

unfoldable pub type_number : World → TypeId → Option ℕ
type_number world types.Object = Some 0
type_number world types.Str = Some 1
type_number world types.Console = Some 12
type_number world (types.Array elem) = Some (element_number elem)
type_number world (types.Class asm row) = option_map (λ place. 16 + place) (place_among world tables.TypeDef asm row)

abbrev pub all_types : World → List TypeId
all_types world = types.Object ∷ types.Str ∷ types.Console ∷ (map types.Array ELEMS ++ rows_of_all world tables.TypeDef types.Class)

unfoldable pub type_numbered : World → ℕ → Option TypeId
type_numbered world n = find (λ of. is_number n (type_number world of)) (all_types world)

-- ---- methods: the built-in rows, and then the rows of MethodDef

unfoldable pub method_number : World → MethodId → Option ℕ
method_number world method =
    if is_built_in method then (if nat_le 1 method.row && nat_le method.row 8 then Some (method.row - 1) else None)
    else option_map (λ place. 8 + place) (place_among world tables.MethodDef method.asm method.row)

abbrev pub all_methods : World → List MethodId
all_methods world = map (method_id BUILT_IN) built_in_rows ++ rows_of_all world tables.MethodDef method_id

unfoldable pub method_numbered : World → ℕ → Option MethodId
method_numbered world n = find (λ method. is_number n (method_number world method)) (all_methods world)

-- ---- static fields

abbrev pub field_eq : FieldId → FieldId → Bool
field_eq field other = field.asm == other.asm && field.row == other.row

abbrev pub static_fields : World → List FieldId
static_fields world = filter (is_stored world true) (rows_of_all world tables.Field field_id)

unfoldable pub static_number : World → FieldId → Option ℕ
static_number world field = position (field_eq field) (static_fields world)

-- ---- strings: the distinct texts of all `ldstr` in bodies that decode. The token of a string has 70 above its offset (III.1.9).

abbrev pub string_offset : Arg → Option ℕ
string_offset (args.Token token) = if token / 2 ^ 24 == 0x70 then Some (token % 2 ^ 24) else None
string_offset arg = None

abbrev pub loaded_by : Arg → Option Operation → Option ℕ
loaded_by arg (Some operations.LoadString) = string_offset arg
loaded_by arg operation = None

abbrev pub instrs_of_method : World → MethodId → List Instr
instrs_of_method world method =
    option_map_or (λ instrs. instrs) (option_and_then (λ body. instrs_of body.code) (body_of (assembly_in world method.asm) method.row)) []

abbrev pub texts_of_method : World → MethodId → List (List ℕ)
texts_of_method world method =
    filter_map (λ i. option_and_then (user_string_at (assembly_in world method.asm)) (loaded_by i.arg (operation_of i)))
    (instrs_of_method world method)

abbrev pub with_text : List (List ℕ) → List ℕ → List (List ℕ)
with_text texts text = if list_any (bytes_eq text) texts then texts else texts ++ text ∷ []

unfoldable pub texts_of : World → List (List ℕ)
texts_of world = fold with_text [] (flat_map (texts_of_method world) (rows_of_all world tables.MethodDef method_id))

-- the number of the string at an offset of an assembly's heap of user strings
unfoldable pub string_number : World → ℕ → ℕ → Option ℕ
string_number world asm at =
    option_and_then (λ text. position (bytes_eq text) (texts_of world)) (user_string_at (assembly_in world asm) at)

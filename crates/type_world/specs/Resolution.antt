-- Types: what a TypeDef or TypeRef token names, the base chain of a type, and which types fit another one.
use Rattle.std.specs.Prelude.{ℕ, zero, suc, ◌+◌, ◌/◌, ◌^◌, ◌==◌, ◌&&◌, ◌||◌, not, Bool, true, false, List, [], ◌∷◌}
use Rattle.std.specs.Prelude.{find, codes, Option, Some, None, if◌then◌else◌}
use Rattle.std.specs.Option.{option_map, option_map_or, option_and_then}
use Rattle.std.specs.List.{list_any}
use Rattle.std.specs.Str.{bytes_eq}
use Rattle.metadata.specs.declared.schema.Table.TheVariants as tables
use Rattle.metadata.specs.declared.schema.CodedKind.TheVariants as kinds
use Rattle.cli_assembly.specs.declared.element.Elem.{Elem}
use Rattle.cli_assembly.specs.Elements.{element_number}
use Rattle.cli_assembly.specs.Assemblies.{Assembly, coded_token, column, fields_of, methods_of, row_count}
use Rattle.type_world.specs.declared.identity.TypeId.{TypeId}
use Rattle.type_world.specs.declared.identity.TypeId.TheVariants as types
use Rattle.type_world.specs.declared.base.Base.{Base}
use Rattle.type_world.specs.declared.base.Base.TheVariants.{NoBase, Extends, UnresolvedBase}
use Rattle.type_world.specs.declared.scope.Scope.{Scope}
use Rattle.type_world.specs.declared.scope.Scope.TheVariants.{Enclosing, Module, Reference, Unresolved}
use Rattle.type_world.specs.World.{World, assembly_in, assembly_named, has_text, row_of, rows_in, rows_of_world, text_at}

-- ---- types are equal

abbrev pub elem_eq : Elem → Elem → Bool
elem_eq e f = element_number e == element_number f

abbrev pub type_eq : TypeId → TypeId → Bool
type_eq types.Object types.Object = true
type_eq types.Str types.Str = true
type_eq types.Console types.Console = true
type_eq (types.Array e) (types.Array f) = elem_eq e f
type_eq (types.Class asm row) (types.Class other at) = asm == other && row == at
type_eq of other = false

-- ---- rows of TypeDef by name (II.22.37); Name is column 1 and Namespace column 2, there and in TypeRef

abbrev pub is_named : Assembly → ℕ → List ℕ → List ℕ → Bool
is_named assembly row namespace name =
    has_text assembly tables.TypeDef row 1 name && has_text assembly tables.TypeDef row 2 namespace

-- a row of NestedClass names it as nested (II.22.32)
abbrev pub is_nested : Assembly → ℕ → Bool
is_nested assembly row = list_any (λ nesting. column assembly tables.NestedClass nesting 0 == row) (rows_in assembly tables.NestedClass)

-- the first type of this namespace and name that is not nested
unfoldable pub type_named : Assembly → List ℕ → List ℕ → Option ℕ
type_named assembly namespace name =
    find (λ row. is_named assembly row namespace name && not (is_nested assembly row)) (rows_in assembly tables.TypeDef)

-- the type of this name that the first such row of NestedClass names as nested in another one; its namespace is not asked
abbrev pub nests : Assembly → ℕ → List ℕ → ℕ → Bool
nests assembly enclosing name nesting =
    column assembly tables.NestedClass nesting 1 == enclosing
    && has_text assembly tables.TypeDef (column assembly tables.NestedClass nesting 0) 1 name

unfoldable pub nested_named : Assembly → ℕ → List ℕ → Option ℕ
nested_named assembly enclosing name =
    option_map (λ nesting. column assembly tables.NestedClass nesting 0)
    (find (nests assembly enclosing name) (rows_in assembly tables.NestedClass))

-- ---- the built-in types, where the assembly that is referenced is not in the world

unfoldable pub built_in_type : List ℕ → List ℕ → Option TypeId
built_in_type namespace name =
    if not (bytes_eq namespace (codes "System")) then None
    else if bytes_eq name (codes "Object") then Some types.Object
    else if bytes_eq name (codes "String") then Some types.Str
    else if bytes_eq name (codes "Console") then Some types.Console
    else None

-- ---- TypeRef by its ResolutionScope (II.22.38)

abbrev pub class_in : ℕ → Option ℕ → Option TypeId
class_in asm row = option_map (types.Class asm) row

-- in the assembly of a name, which is column 6 of AssemblyRef (II.22.5)
abbrev pub in_assembly : World → List ℕ → List ℕ → Option ℕ → Option TypeId
in_assembly world namespace name None = built_in_type namespace name
in_assembly world namespace name (Some asm) = class_in asm (type_named (assembly_in world asm) namespace name)

abbrev pub in_reference : World → ℕ → List ℕ → List ℕ → ℕ → Option TypeId
in_reference world asm namespace name reference =
    in_assembly world namespace name (assembly_named world (text_at (assembly_in world asm) tables.AssemblyRef reference 6))

-- in an enclosing type
abbrev pub in_type : World → List ℕ → TypeId → Option TypeId
in_type world name (types.Class asm row) = class_in asm (nested_named (assembly_in world asm) row name)
in_type world name of = None

-- the row that a scope names, by its table; no other table is a scope that resolves
abbrev pub reference_or_enclosing : Option ℕ → Option ℕ → Scope
reference_or_enclosing (Some row) enclosing = Reference row
reference_or_enclosing None (Some row) = Enclosing row
reference_or_enclosing None None = Unresolved

abbrev pub scope_by : Option ℕ → Option ℕ → Option ℕ → Scope
scope_by (Some row) reference enclosing = Module
scope_by None reference enclosing = reference_or_enclosing reference enclosing

abbrev pub scope_of_token : Assembly → Option ℕ → Scope
scope_of_token assembly None = Unresolved
scope_of_token assembly (Some token) =
    scope_by (row_of assembly tables.Module token) (row_of assembly tables.AssemblyRef token) (row_of assembly tables.TypeRef token)

unfoldable pub scope_of : Assembly → ℕ → Scope
scope_of assembly row = scope_of_token assembly (coded_token assembly kinds.ResolutionScope (column assembly tables.TypeRef row 0))

-- by its scope, where a way to resolve the enclosing type is given
abbrev pub in_scope : World → ℕ → List ℕ → List ℕ → (ℕ → Option TypeId) → Scope → Option TypeId
in_scope world asm namespace name enclosing Module = class_in asm (type_named (assembly_in world asm) namespace name)
in_scope world asm namespace name enclosing (Reference row) = in_reference world asm namespace name row
in_scope world asm namespace name enclosing (Enclosing row) = option_and_then (in_type world name) (enclosing row)
in_scope world asm namespace name enclosing Unresolved = None

abbrev pub by_scope : World → ℕ → (ℕ → Option TypeId) → ℕ → Option TypeId
by_scope world asm enclosing row =
    in_scope world asm (text_at (assembly_in world asm) tables.TypeRef row 2)
    (text_at (assembly_in world asm) tables.TypeRef row 1) enclosing
    (scope_of (assembly_in world asm) row)

-- one that needs at most so many scopes: a row that comes back to itself by its scopes needs more than there are rows
unfoldable pub resolve_ref_within : ℕ → World → ℕ → ℕ → Option TypeId
resolve_ref_within zero world asm row = None
resolve_ref_within (suc n) world asm row = by_scope world asm (resolve_ref_within n world asm) row

abbrev pub resolve_ref : World → ℕ → ℕ → Option TypeId
resolve_ref world asm row = resolve_ref_within (row_count (assembly_in world asm) tables.TypeRef) world asm row

-- ---- tokens

abbrev pub def_or_ref : World → ℕ → Option ℕ → Option ℕ → Option TypeId
def_or_ref world asm (Some row) reference = Some (types.Class asm row)
def_or_ref world asm None reference = option_and_then (resolve_ref world asm) reference

-- what a token of an assembly names as a type: a TypeDef or a TypeRef that resolves. A TypeSpec doesn't resolve.
unfoldable pub resolve_type : World → ℕ → ℕ → Option TypeId
resolve_type world asm token =
    def_or_ref world asm (row_of (assembly_in world asm) tables.TypeDef token) (row_of (assembly_in world asm) tables.TypeRef token)

-- ---- bases

-- what a class extends (column 3): nothing, a type, or something that doesn't resolve
abbrev pub base_type : Option TypeId → Base
base_type None = UnresolvedBase
base_type (Some of) = Extends of

abbrev pub base_by_token : World → ℕ → Option ℕ → Base
base_by_token world asm None = UnresolvedBase
base_by_token world asm (Some token) = base_type (resolve_type world asm token)

-- a coded index whose row is 0 is null (II.24.2.6)
abbrev pub base_of_class : World → ℕ → ℕ → Base
base_of_class world asm extends =
    if extends / 2 ^ 2 == 0 then NoBase else base_by_token world asm (coded_token (assembly_in world asm) kinds.TypeDefOrRef extends)

unfoldable pub base_of : World → TypeId → Base
base_of world (types.Class asm row) = base_of_class world asm (column (assembly_in world asm) tables.TypeDef row 3)
base_of world of = NoBase

-- a type and the types that it extends, each before its base. There are not more of them than types, but where the chain comes
-- back to one of its types.
abbrev pub then_base : (TypeId → List TypeId) → Base → List TypeId
then_base chain (Extends of) = chain of
then_base chain NoBase = []
then_base chain UnresolvedBase = []

unfoldable pub chain_within : ℕ → World → TypeId → List TypeId
chain_within zero world of = []
chain_within (suc n) world of = of ∷ then_base (chain_within n world) (base_of world of)

abbrev pub chain_of : World → TypeId → List TypeId
chain_of world of = chain_within (rows_of_world world tables.TypeDef + 1) world of

-- ---- which references fit a type: those to the type itself and to the types that extend it; each fits System.Object
unfoldable pub fits : World → TypeId → TypeId → Bool
fits world of to = type_eq to types.Object || list_any (type_eq to) (chain_of world of)

-- the nearest type that two types fit
abbrev pub common_base : World → TypeId → TypeId → TypeId
common_base world of other =
    option_map_or (λ base. base) (find (λ base. list_any (type_eq base) (chain_of world other)) (chain_of world of)) types.Object

-- ---- the type that declares a row of MethodDef or of Field: the first whose list has it

abbrev pub declares : List ℕ → ℕ → Bool
declares rows row = list_any (λ listed. listed == row) rows

unfoldable pub method_class : World → ℕ → ℕ → Option TypeId
method_class world asm row =
    class_in asm (find (λ of. declares (methods_of (assembly_in world asm) of) row) (rows_in (assembly_in world asm) tables.TypeDef))

unfoldable pub field_class : World → ℕ → ℕ → Option TypeId
field_class world asm row =
    class_in asm (find (λ of. declares (fields_of (assembly_in world asm) of) row) (rows_in (assembly_in world asm) tables.TypeDef))

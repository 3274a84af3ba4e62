-- What is in the profile, as a world keeps it: for each row what the definitions answer, and the steps by which it is found.
use Rattle.std.specs.Prelude.{ℕ, ◌+◌, ◌==◌, false, ◌&&◌, not, Bool, List, [], ◌∷◌, length, map, Option, Some, None}
use Rattle.std.specs.Prelude.{if◌then◌else◌, is_some, nat_le}
use Rattle.std.specs.Option.{option_and_then, option_map, option_map_or}
use Rattle.std.specs.List.{range_with_len}
use Rattle.metadata.specs.declared.schema.Table.{Table}
use Rattle.metadata.specs.declared.schema.Table.TheVariants as tables
use Rattle.cli_assembly.specs.declared.signature.TypeSig.{TypeSig}
use Rattle.cli_assembly.specs.Assemblies.{body_of, row_count}
use Rattle.cli_assembly.specs.declared.flags.TheConstants.{TYPE_EXPLICIT_LAYOUT, TYPE_INTERFACE}
use Rattle.cli_assembly.specs.Bodies.{MethodBody}
use Rattle.type_world.specs.declared.cil.Cil.{Cil}
use Rattle.type_world.specs.declared.classes_in_profile.ClassFacts.{ClassFacts}
use Rattle.type_world.specs.declared.classes_in_profile.Judged.{Judged}
use Rattle.type_world.specs.declared.classes_in_profile.Judged.TheVariants.{Decided, ByBase}
use Rattle.type_world.specs.declared.identity.MethodId.{MethodId}
use Rattle.type_world.specs.declared.identity.TheConstants.{BUILT_IN}
use Rattle.type_world.specs.declared.identity.TypeId.{TypeId}
use Rattle.type_world.specs.declared.identity.TypeId.TheVariants as types
use Rattle.type_world.specs.declared.place.Place.{Place}
use Rattle.type_world.specs.declared.place.Shape.{Shape}
use Rattle.type_world.specs.Members.{built_in_rows, class_of_method, method_id}
use Rattle.type_world.specs.Profile.{class_flag, has_initializer, has_method_impl, has_outside_field, instrs_of}
use Rattle.type_world.specs.Profile.{is_abstract, is_generic, is_in_profile, is_plain_class, is_value_base, locals_of}
use Rattle.type_world.specs.Profile.{profile_method}
use Rattle.type_world.specs.Profile.{profile_shape, type_in_profile}
use Rattle.type_world.specs.World.{World, assembly_in, rows_at}

-- ---- rows that other tables name

-- whether a row was found, and is this one
abbrev pub is_row : Option ℕ → ℕ → Bool
is_row found row = option_map_or (λ r. r == row) found false

-- which rows have generic parameters, and which classes have rows of MethodImpl, from row 0 to the last
unfoldable pub generic_in : World → ℕ → Table → List Bool
generic_in world asm table = map (is_generic world asm table) (range_with_len 0 (row_count (assembly_in world asm) table + 1))

unfoldable pub overriding_in : World → ℕ → List Bool
overriding_in world asm = map (has_method_impl world asm) (range_with_len 0 (row_count (assembly_in world asm) tables.TypeDef + 1))

-- ---- classes

-- what is asked of a class, where it is known whether it is generic and whether it has rows of MethodImpl
abbrev pub plain_by : World → ℕ → ℕ → Bool → Bool → Bool
plain_by world asm row generic overriding =
    not (class_flag world asm row TYPE_INTERFACE)
    && not generic
    && not (class_flag world asm row TYPE_EXPLICIT_LAYOUT)
    && not (has_initializer world asm row)
    && not overriding
    && not (has_outside_field world asm row)

-- what is kept of a class
abbrev pub facts : World → ℕ → ℕ → ClassFacts
facts world asm row = record { plain = is_plain_class world asm row; value_base = is_value_base world asm row }

-- row 0 of TypeDef, which is none, and its rows
abbrev pub classes_at : World → ℕ → List ℕ
classes_at world asm = range_with_len 0 (row_count (assembly_in world asm) tables.TypeDef + 1)

-- of one assembly by row, and of all assemblies by position
unfoldable pub facts_of : World → ℕ → List ClassFacts
facts_of world asm = map (facts world asm) (classes_at world asm)

abbrev pub facts_in : World → List (List ClassFacts)
facts_in world = map (facts_of world) (range_with_len 0 (length world))

-- what a type says of whether it is in the profile, where that may be left to its base
abbrev pub judged : (TypeId → Bool) → Judged → Bool
judged within (Decided answer) = answer
judged within (ByBase of) = within of

-- ---- bodies

-- a body as the Rust type has it
abbrev pub as_body : Cil → MethodBody
as_body cil = record { max_stack = cil.max_stack; locals = cil.locals; code = cil.code.now; more = cil.more }

-- no parameter, or one
abbrev pub listed : Option TypeSig → List TypeSig
listed None = []
listed (Some param) = param ∷ []

-- the limits of the profile, and that the code can be decoded
abbrev pub within_limits : MethodBody → List Place → Bool
within_limits body locals =
    not body.more && nat_le (length locals) 128 && nat_le body.max_stack 128 && nat_le (length body.code) 65536
    && is_some (instrs_of body.code)

abbrev pub few_locals : MethodBody → List Place → Option (List Place)
few_locals body locals = if within_limits body locals then Some locals else None

-- the locals of a row whose body keeps the limits
abbrev pub limited_locals : World → MethodId → Option (List Place)
limited_locals world id =
    option_and_then (λ body. option_and_then (few_locals body) (locals_of world id.asm body.locals))
    (body_of (assembly_in world id.asm) id.row)

-- ---- methods

-- the conditions on the rows of a method
abbrev pub is_candidate : World → MethodId → Bool
is_candidate world id =
    is_in_profile world (class_of_method world id) && not (is_abstract world id) && not (is_generic world id.asm tables.MethodDef id.row)

unfoldable pub profile_locals : World → MethodId → Option (List Place)
profile_locals world id = option_map (λ m. m.locals) (profile_method world id)

-- ---- what is kept of one assembly, and of all by position

pub record Answers : Type 0 where
  -- of row 0 of TypeDef and of its rows, whether each is in the profile
  pub classes : List Bool
  -- of each row of MethodDef, its shape where that is in the profile
  pub shapes : List (Option Shape)
  -- and its locals, where it meets each condition of the profile but that it verifies
  pub locals : List (Option (List Place))

unfoldable pub answers_of : World → ℕ → Answers
answers_of world asm = record {
  classes = map (λ row. type_in_profile world (types.Class asm row)) (classes_at world asm);
  shapes = map (λ row. profile_shape world (method_id asm row)) (rows_at world asm tables.MethodDef);
  locals = map (λ row. profile_locals world (method_id asm row)) (rows_at world asm tables.MethodDef);
}

abbrev pub answers_in : World → List Answers
answers_in world = map (answers_of world) (range_with_len 0 (length world))

-- of the built-in methods, by row
unfoldable pub built_in_shapes : World → List (Option Shape)
built_in_shapes world = map (λ row. profile_shape world (method_id BUILT_IN row)) built_in_rows
